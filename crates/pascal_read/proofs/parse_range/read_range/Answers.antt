use Rattle.std.proofs.Common.{[], ◌∷◌, ◌++◌}
use Rattle.pascal_tree.specs.SeenExpression.{seen_expr}
use Rattle.pascal_tree.specs.SpellExpression.{name_at, symbol_at, reserved_at, spelled_expr}
use Rattle.pascal_tree.specs.SpellStatement.{direction_word}
use Rattle.pascal_tree.specs.declared.token.Reserved.TheVariants as reserved
use Rattle.pascal_tree.specs.declared.token.Symbol.TheVariants as symbol
use Rattle.pascal_read.proofs.ParseJoined.{around}
use Rattle.pascal_read.proofs.parse_range.read_range.Goals as goal

pub returns-clause-words : goal.returns-clause-words
returns-clause-words c =
    around (reserved_at (direction_word c.in_ok-direction.direction) c.in_ok-direction.toward)
    (name_at c.in_ok-control.control ∷ symbol_at symbol.Becomes c.in_ok-control.becomes ∷ spelled_expr (seen_expr c.in_ok-control.from))
    (spelled_expr (seen_expr c.in_ok-to.to) ++ reserved_at reserved.Do c.in_ok-to.does ∷ []) _ _ _ _
    c.in_ok-control.ensures.words c.in_ok-direction.ensures.taken c.in_ok-to.ensures.words

-- What stands between FOR and its statement.
use Rattle.std.specs.Prelude.{List, [], ◌∷◌, ◌++◌}
use Rattle.pascal_tree.specs.Word.{Spot}
use Rattle.pascal_tree.specs.SeenExpression.{seen_expr}
use Rattle.pascal_tree.specs.SpellExpression.{spelled_expr, name_at, symbol_at, reserved_at}
use Rattle.pascal_tree.specs.SpellStatement.{direction_word}
use Rattle.pascal_tree.specs.declared.token.Reserved.TheVariants as reserved
use Rattle.pascal_tree.specs.declared.token.Symbol.TheVariants as symbol
use Rattle.pascal_read.specs.declared.parse_range.Range.{Range}

-- name ":=" expr ( TO | DOWNTO ) expr DO
abbrev pub spelled_range : Range → List Spot
spelled_range r =
    name_at r.control ∷ (symbol_at symbol.Becomes r.becomes ∷ (spelled_expr (seen_expr r.from)
    ++ (reserved_at (direction_word r.direction) r.toward ∷ (spelled_expr (seen_expr r.to) ++ reserved_at reserved.Do r.does ∷ []))))

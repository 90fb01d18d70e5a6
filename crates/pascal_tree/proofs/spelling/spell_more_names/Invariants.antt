use Rattle.std.proofs.Common.{◌≡◌, ◌++◌, drop}
use Rattle.pascal_tree.specs.SpellProgram.{spelled_more_names}
use Rattle.pascal_tree.proofs.spelling.spell_more_names.Given as goal

abbrev pub invariant-loop-line : goal.invariant-loop-line
invariant-loop-line l =
    l.out.items ++ spelled_more_names (drop l.line-index l.names) ≡ l.fn.out.items ++ spelled_more_names l.names

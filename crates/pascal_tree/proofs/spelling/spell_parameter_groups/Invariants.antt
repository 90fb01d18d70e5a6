use Rattle.std.proofs.Common.{◌≡◌, ◌++◌, drop, map}
use Rattle.pascal_tree.specs.SeenProgram.{seen_parameter_group}
use Rattle.pascal_tree.specs.SpellProgram.{spelled_parameter_groups}
use Rattle.pascal_tree.proofs.spelling.spell_parameter_groups.Given as goal

abbrev pub invariant-loop-line : goal.invariant-loop-line
invariant-loop-line l =
    l.out.items ++ spelled_parameter_groups (map (λ g. (g.0, seen_parameter_group g.1)) (drop l.line-index l.groups)) ≡ l.fn.out.items ++ spelled_parameter_groups (map (λ g. (g.0, seen_parameter_group g.1)) l.groups)

use Rattle.std.proofs.Common.{◌≡◌, ◌++◌, drop, map}
use Rattle.pascal_tree.specs.SeenProgram.{seen_group}
use Rattle.pascal_tree.specs.SpellProgram.{spelled_groups}
use Rattle.pascal_tree.proofs.spelling.spell_groups.Given as goal

abbrev pub invariant-loop-group : goal.invariant-loop-group
invariant-loop-group l =
    l.out.items ++ spelled_groups (map seen_group (drop l.group-index l.groups)) ≡ l.fn.out.items ++ spelled_groups (map seen_group l.groups)

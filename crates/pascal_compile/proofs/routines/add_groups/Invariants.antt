use Rattle.std.proofs.Common.{◌≡◌, ◌++◌, drop, map}
use Rattle.pascal_tree.specs.SeenProgram.{seen_parameter_group}
use Rattle.pascal_compile.specs.Seen.{seen_passing}
use Rattle.pascal_compile.specs.Passings.{groups_passing}
use Rattle.pascal_compile.proofs.routines.add_groups.Given as goal

abbrev pub invariant-loop-group : goal.invariant-loop-group
invariant-loop-group l =
    map seen_passing l.list.items ++ groups_passing (map (λ g. (g.0, seen_parameter_group g.1)) (drop l.group-index l.groups))
    ≡ map seen_passing l.fn.list.items ++ groups_passing (map (λ g. (g.0, seen_parameter_group g.1)) l.groups)

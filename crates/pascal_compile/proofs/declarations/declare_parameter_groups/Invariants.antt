use Rattle.std.proofs.Common.{◌≡◌, drop, map}
use Rattle.pascal_tree.specs.SeenProgram.{seen_parameter_group}
use Rattle.pascal_compile.specs.declared.frame.Frame as frame_type
use Rattle.pascal_compile.specs.Holds.{ParametersLaidOut}
use Rattle.pascal_compile.proofs.declarations.declare_parameter_groups.Given as goal

-- who declares the groups that are left has declared all
abbrev pub invariant-loop-group : goal.invariant-loop-group
invariant-loop-group l = record {
  left : (after : frame_type.Frame) → ParametersLaidOut l.frame after (map (λ g. (g.0, seen_parameter_group g.1)) (drop l.group-index l.groups))
      → ParametersLaidOut l.fn.frame after (map (λ g. (g.0, seen_parameter_group g.1)) l.groups);
  owner : l.frame.owner ≡ l.fn.frame.owner;
}

use Rattle.std.proofs.Common.{◌≡◌, drop, map}
use Rattle.pascal_tree.specs.SeenProgram.{seen_group}
use Rattle.pascal_mean.specs.Declarations.{declared_groups}
use Rattle.pascal_compile.specs.declared.frame.Frame as frame_type
use Rattle.pascal_compile.specs.Seen.{seen_owner}
use Rattle.pascal_compile.specs.Holds.{LaidOut}
use Rattle.pascal_compile.proofs.declarations.declare_groups.Given as goal

-- who declares the groups that are left has declared all
abbrev pub invariant-loop-group : goal.invariant-loop-group
invariant-loop-group l = record {
  left : (after : frame_type.Frame)
      → LaidOut l.program l.frame after (λ scope. declared_groups (seen_owner l.fn.frame.owner) scope (map seen_group (drop l.group-index l.groups)))
      → LaidOut l.program l.fn.frame after (λ scope. declared_groups (seen_owner l.fn.frame.owner) scope (map seen_group l.groups));
  owner : l.frame.owner ≡ l.fn.frame.owner;
}

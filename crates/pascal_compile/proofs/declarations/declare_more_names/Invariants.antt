use Rattle.std.proofs.Common.{◌≡◌, drop, map}
use Rattle.pascal_compile.specs.declared.frame.Frame as frame_type
use Rattle.pascal_compile.specs.Holds.{NamesLaidOut}
use Rattle.pascal_compile.proofs.declarations.declare_more_names.Given as goal

-- who declares the names that are left has declared all
abbrev pub invariant-loop-name : goal.invariant-loop-name
invariant-loop-name l = record {
  left : (after : frame_type.Frame) → NamesLaidOut l.held l.frame after (map (λ m. (m.1).letters) (drop l.name-index l.names))
      → NamesLaidOut l.held l.fn.frame after (map (λ m. (m.1).letters) l.names);
  owner : l.frame.owner ≡ l.fn.frame.owner;
}

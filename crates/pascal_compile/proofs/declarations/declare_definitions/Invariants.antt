use Rattle.std.proofs.Common.{◌≡◌, drop}
use Rattle.pascal_mean.specs.Declarations.{declared_definitions}
use Rattle.pascal_compile.specs.declared.frame.Frame as frame_type
use Rattle.pascal_compile.specs.Holds.{LaidOut}
use Rattle.pascal_compile.proofs.declarations.declare_definitions.Given as goal

-- who declares the constants that are left has declared all
abbrev pub invariant-loop-definition : goal.invariant-loop-definition
invariant-loop-definition l = record {
  left : (after : frame_type.Frame) → LaidOut l.program l.frame after (λ scope. declared_definitions scope (drop l.definition-index l.definitions))
      → LaidOut l.program l.fn.frame after (λ scope. declared_definitions scope l.definitions);
  owner : l.frame.owner ≡ l.fn.frame.owner;
}

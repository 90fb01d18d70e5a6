use Rattle.std.proofs.Common.{◌≡◌, ◌-◌, not}
use Rattle.stack_code.specs.CodeFile.{least}
use Rattle.stack_code.specs.Rules.{routine_is_good, broken_routine}
use Rattle.stack_code.proofs.broken.broken_routine.Given as goal

abbrev pub invariant-loop-k : goal.invariant-loop-k
invariant-loop-k l = least (λ k. not (routine_is_good l.code k)) l.k (l.k-end - l.k) ≡ broken_routine l.code

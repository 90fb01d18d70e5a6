use Rattle.prog_stack.specs.Callers.{IsStack}
use Rattle.solo_tests.proofs.stack_runs.run.Given as goal

abbrev pub invariant-loop : goal.invariant-loop
invariant-loop g l = IsStack 5 l.stack

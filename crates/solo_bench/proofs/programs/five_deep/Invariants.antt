use Rattle.prog_stack.specs.Callers.{IsStack}
use Rattle.solo_bench.proofs.programs.five_deep.Given as goal

abbrev pub invariant-loop : goal.invariant-loop
invariant-loop l = IsStack 5 l.stack

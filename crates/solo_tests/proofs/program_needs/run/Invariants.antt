use Rattle.solo_procs.specs.Commands.{AtNothing}
use Rattle.program_run.specs.Sight.{MayTake}
use Rattle.solo_tests.proofs.program_needs.run.Given as goal

abbrev pub invariant-loop : goal.invariant-loop
invariant-loop g l = MayTake AtNothing l.program

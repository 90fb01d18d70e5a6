use Rattle.solo_run.specs.Output.{OutputRan}
use Rattle.solo_run.specs.Places.{output_at}
use Rattle.solo_run.proofs.Going.{Going}
use Rattle.solo_run.proofs.run.run_output.Given as goal

abbrev pub invariant-loop : goal.invariant-loop
invariant-loop g l = Going 3 output_at output_at l.machine (OutputRan g.K.Sink.given g.K.Sink.faults l.initial.side l.side)

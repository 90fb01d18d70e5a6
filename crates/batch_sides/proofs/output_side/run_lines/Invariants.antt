use Rattle.batch_procs.specs.Keeping.{output_keeps}
use Rattle.batch_procs.specs.Table.{output}
use Rattle.batch_sides.specs.Output.{OutputRan}
use Rattle.batch_sides.proofs.Going.{Going}
use Rattle.batch_sides.proofs.output_side.run_lines.Given as goal

abbrev pub invariant-loop : goal.invariant-loop
invariant-loop g l =
    Going g.J.HasJobs.are_jobs output output_keeps l.machine
    (OutputRan g.B.Area.size l.initial.at.side l.at.side l.at.pass)

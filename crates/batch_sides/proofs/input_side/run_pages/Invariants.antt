use Rattle.batch_procs.specs.Keeping.{input_keeps}
use Rattle.batch_procs.specs.Table.{input}
use Rattle.batch_sides.specs.Input.{InputRan}
use Rattle.batch_sides.proofs.Going.{Going}
use Rattle.batch_sides.proofs.input_side.run_pages.Given as goal

abbrev pub invariant-loop : goal.invariant-loop
invariant-loop g l =
    Going g.J.HasJobs.are_jobs input input_keeps l.machine
    (InputRan g.A.Area.size l.initial.at.side l.at.side l.at.pass)

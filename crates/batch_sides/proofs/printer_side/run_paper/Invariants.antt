use Rattle.batch_procs.specs.Keeping.{printer_keeps}
use Rattle.batch_procs.specs.Table.{printer}
use Rattle.batch_sides.specs.Lines.{PrinterRan}
use Rattle.batch_sides.proofs.Going.{Going}
use Rattle.batch_sides.proofs.printer_side.run_paper.Given as goal

abbrev pub invariant-loop : goal.invariant-loop
invariant-loop g l =
    Going g.J.HasJobs.are_jobs printer printer_keeps l.machine
    (PrinterRan g.K.Sink.given g.K.Sink.faults l.initial.at.side l.at.side l.at.pass)

use Rattle.batch_procs.proofs.Takes.{never-works}
use Rattle.batch_procs.proofs.printer_proc.PrinterWorkWork.work.Goals as goal

pub returns-clause-ok : goal.returns-clause-ok
returns-clause-ok g c = λ taken sent keeps none. never-works _ keeps.idle

use Rattle.batch_procs.proofs.Takes.{never-works}
use Rattle.batch_procs.proofs.printer_proc.PrinterWorkWork.load.Goals as goal

pub returns : goal.returns
returns g c = λ taken sent file later keeps wants. never-works _ keeps.idle

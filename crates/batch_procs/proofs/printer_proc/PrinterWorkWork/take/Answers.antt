use Rattle.std.proofs.Common.{sym, ap}
use Rattle.batch_procs.specs.Sends.{as_lines}
use Rattle.batch_procs.specs.Work.{cause_of}
use Rattle.batch_procs.proofs.Takes.{printer-takes}
use Rattle.batch_procs.proofs.printer_proc.PrinterWorkWork.take.Goals as goal

pub returns-in-Feed-clause-ok : goal.returns-in-Feed-clause-ok
returns-in-Feed-clause-ok g c = λ taken sent keeps may. (
  sym (ap (λ r. cause_of r taken) c.in-Feed.is),
  λ none. printer-takes _ _ _ _ taken sent c.args.reply c.in-Feed.feed c.in-Feed.is
      (ap as_lines c.line_of-self.ensures) c.is_end-self.ensures keeps may,
)

use Rattle.twin_procs.proofs.EndSteps.{printer-takes, no-line}
use Rattle.twin_procs.proofs.printer_proc.PrinterProcTwinProc.take.Goals as goal

pub returns-in-Feed-clause-ok : goal.returns-in-Feed-clause-ok
returns-in-Feed-clause-ok g c =
    printer-takes _ c.args.self.now.place c.accept.new.self.place c.args.reply c.in-Feed.feed c.in-Feed.is c.accept.ensures

pub returns-in_default-clause-ok : goal.returns-in_default-clause-ok
returns-in_default-clause-ok g c = λ at kept handed. absurd (no-line c.args.reply c.in_default.not-Feed at handed)

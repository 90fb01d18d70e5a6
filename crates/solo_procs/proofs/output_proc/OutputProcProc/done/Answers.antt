use Rattle.solo_procs.specs.Output.{OutputStands}
use Rattle.solo_procs.proofs.OutputSteps.{output-printed, output-reported, output-stays}
use Rattle.solo_procs.proofs.output_proc.OutputProcProc.done.Goals as goal

pub returns-in-PrintsLine-clause-ready : goal.returns-in-PrintsLine-clause-ready
returns-in-PrintsLine-clause-ready c =
    output-printed c.args.self.now.place c.args.self.now.pages c.args.self.now.items c.args.self.now.last c.in-PrintsLine.field-0
    (λ to. OutputStands c.go_on.new.self.place c.go_on.new.self.pages c.go_on.new.self.items c.go_on.new.self.last to) c.in-PrintsLine.is c.go_on.ensures

pub returns-in-ReportsPrinted-clause-ready : goal.returns-in-ReportsPrinted-clause-ready
returns-in-ReportsPrinted-clause-ready c =
    output-reported c.args.self.now.place c.args.self.now.pages c.args.self.now.items c.args.self.now.last c.in-ReportsPrinted.is

pub returns-in_default-clause-ready : goal.returns-in_default-clause-ready
returns-in_default-clause-ready c =
    output-stays c.args.self.now.place c.args.self.now.pages c.args.self.now.items c.args.self.now.last c.in_default.not-PrintsLine
    c.in_default.not-ReportsPrinted

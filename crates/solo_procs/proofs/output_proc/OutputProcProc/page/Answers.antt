use Rattle.std.proofs.Common.{sym, ◌∙◌}
use Rattle.solo_procs.specs.Output.{OutputStands}
use Rattle.solo_procs.proofs.OutputSteps.{output-takes, output-damaged}
use Rattle.solo_procs.proofs.output_proc.OutputProcProc.page.Goals as goal

pub returns-in-Ok-clause-ok : goal.returns-in-Ok-clause-ok
returns-in-Ok-clause-ok c =
    output-takes c.args.self.now.place c.args.self.now.pages _ c.args.self.now.items c.args.self.now.last c.is_last-self.result c.args.page c.in-Ok.items
    (λ to. OutputStands c.go_on.new.self.place c.go_on.new.self.pages c.go_on.new.self.items c.go_on.new.self.last to)
    (sym c.take.ensures.read ∙ c.in-Ok.is) c.in-Ok.ensures.place c.is_last-self.ensures c.go_on.ensures

pub returns-in-Err-clause-ok : goal.returns-in-Err-clause-ok
returns-in-Err-clause-ok c =
    output-damaged c.args.self.now.place c.args.self.now.pages c.args.self.now.items c.args.self.now.last c.args.page c.in-Err.bad c.damaged.result
    (λ to. OutputStands c.args.self.now.place c.take.new.self c.args.self.now.items c.args.self.now.last to)
    (sym c.take.ensures.read ∙ c.in-Err.is) c.damaged.ensures

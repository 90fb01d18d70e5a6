use Rattle.std.proofs.Common.{refl, sym, ◌∙◌, ap}
use Rattle.page_codec.specs.Reading.{page_read}
use Rattle.twin_procs.proofs.OutputSteps.{output-takes, output-damaged}
use Rattle.twin_procs.proofs.output_proc.OutputProcTwinProc.take.Goals as goal

pub returns-in-Ok-clause-ok : goal.returns-in-Ok-clause-ok
returns-in-Ok-clause-ok g c =
    output-takes _ c.args.self.now c.args.reply c.in-Page.page c.in-Page.last c.in-Page.is c.in-Ok.items _ c.turn.new.self c.go_on.new.self
    (sym (ap (page_read c.args.self.now.pages c.in-Page.last) c.get.ensures) ∙ (sym c.take.ensures.read ∙ c.in-Ok.is)) c.in-Ok.ensures.place refl refl refl c.turn.ensures c.go_on.ensures

pub returns-in-Err-clause-ok : goal.returns-in-Err-clause-ok
returns-in-Err-clause-ok g c =
    output-damaged _ c.args.self.now c.args.reply c.in-Page.page c.in-Page.last c.in-Page.is c.in-Err.bad c.damaged.result _
    (sym (ap (page_read c.args.self.now.pages c.in-Page.last) c.get.ensures) ∙ (sym c.take.ensures.read ∙ c.in-Err.is)) c.damaged.ensures

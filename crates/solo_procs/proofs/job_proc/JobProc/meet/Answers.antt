use Rattle.std.proofs.Common.{Some, sym, ap, ◌∙◌}
use Rattle.solo_procs.specs.Job.{JobStands}
use Rattle.solo_procs.proofs.JobNeeds.{meets-cards, meets-line, meets-display, meets-page, meets-end, met-some}
use Rattle.solo_procs.proofs.job_proc.JobProc.meet.Goals as goal

pub returns-in-Some-Cards-clause-ready : goal.returns-in-Some-Cards-clause-ready
returns-in-Some-Cards-clause-ready g c = λ work needed came.
    rw c.take.ensures.after (meets-cards g.C.Commands.awaits c.args.self.now work needed came
    (sym c.take.ensures.value ∙ c.in-Some-Cards.is ∙ ap Some c.in-Some-Cards.field-0-is))

pub returns-in-Some-Line-clause-ready : goal.returns-in-Some-Line-clause-ready
returns-in-Some-Line-clause-ready g c = λ work needed came.
    rw c.take.ensures.after (meets-line g.C.Commands.awaits c.args.self.now work needed came
    (sym c.take.ensures.value ∙ c.in-Some-Line.is ∙ ap Some c.in-Some-Line.field-0-is))

pub returns-in-Some-Display-clause-ready : goal.returns-in-Some-Display-clause-ready
returns-in-Some-Display-clause-ready g c = λ work needed came.
    rw c.take.ensures.after (meets-display g.C.Commands.awaits c.args.self.now work needed came c.in-Some-Display.line
    (sym c.take.ensures.value ∙ c.in-Some-Display.is ∙ ap Some c.in-Some-Display.field-0-is))

pub returns-in-Some-Page-clause-ready : goal.returns-in-Some-Page-clause-ready
returns-in-Some-Page-clause-ready g c = λ work needed came.
    meets-page g.C.Commands.awaits c.args.self.now work needed came c.in-Some-Page.page (λ to. JobStands g.C.Commands.awaits c.put_page.new.self to)
    (sym c.take.ensures.value ∙ c.in-Some-Page.is ∙ ap Some c.in-Some-Page.field-0-is)
    (λ behind pages putting. c.put_page.ensures.ready behind pages (rw c.take.ensures.after putting))

pub returns-in-Some-End-clause-ready : goal.returns-in-Some-End-clause-ready
returns-in-Some-End-clause-ready g c = λ work needed came.
    meets-end g.C.Commands.awaits c.args.self.now work needed came c.in-Some-End.last c.in-Some-End.answers
    (λ to. JobStands g.C.Commands.awaits c.end.new.self to)
    (sym c.take.ensures.value ∙ c.in-Some-End.is ∙ ap Some c.in-Some-End.field-0-is)
    (λ pages printed answers is putting. c.end.ensures.ready pages printed answers is (rw c.take.ensures.after putting))

pub returns-in-None-clause-ready : goal.returns-in-None-clause-ready
returns-in-None-clause-ready g c = λ work needed came. absurd (met-some g.C.Commands.awaits c.args.self.now work needed came
    (sym c.take.ensures.value ∙ c.in-None.is))

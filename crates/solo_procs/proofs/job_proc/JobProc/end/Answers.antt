use Rattle.std.proofs.Common.{sym, ◌∙◌}
use Rattle.solo_procs.specs.Job.{JobStands}
use Rattle.solo_procs.proofs.JobNeeds.{ends-page, ends-without}
use Rattle.solo_procs.proofs.job_proc.JobProc.end.Goals as goal

pub returns-in-Some-clause-ready : goal.returns-in-Some-clause-ready
returns-in-Some-clause-ready g c = λ pages printed lines is putting.
    ends-page g.C.Commands.awaits c.args.self.now c.in-Some.page (λ to. JobStands g.C.Commands.awaits c.put_page.new.self to) c.put_page.ensures.ready pages
    printed lines (sym c.in-Some.is ∙ is) putting

pub returns-in-None-clause-ready : goal.returns-in-None-clause-ready
returns-in-None-clause-ready g c = λ pages printed lines is putting.
    ends-without g.C.Commands.awaits c.args.self.now (λ to. JobStands g.C.Commands.awaits c.answer.new.self to) c.answer.ensures.ready pages printed lines
    (sym c.in-None.is ∙ is) putting

use Rattle.std.proofs.Common.{subst}
use Rattle.std.specs.Prelude.{IfOk}
use Rattle.twin_procs.specs.Job.{TakesPage, job_stands}
use Rattle.twin_procs.proofs.JobSteps.{job-takes, job-loads, job-others, page-lacks}
use Rattle.twin_procs.proofs.job_proc.JobProcTwinProc.take.Goals as goal

pub returns-in-Page-clause-ok : goal.returns-in-Page-clause-ok
returns-in-Page-clause-ok g c =
    job-takes g.J.HasJobs.jobs g.J.JobWork.keeps g.S.OnSide.side c.args.self.now c.args.reply c.in-Page.page c.in-Page.last c.take_page.result
    c.take_page.new.self c.in-Page.is
    (λ s at. subst (λ page. IfOk c.take_page.result
    (λ cause. TakesPage g.J.HasJobs.jobs (job_stands g.J.HasJobs.jobs g.J.JobWork.keeps c.take_page.new.self) s page c.in-Page.last cause))
    c.get.ensures (c.take_page.ensures s at))

pub returns-in-Page-clause-err : goal.returns-in-Page-clause-err
returns-in-Page-clause-err g c = page-lacks c.args.reply c.in-Page.page c.in-Page.last c.in-Page.is c.take_page.result

pub returns-in-Loaded-clause-ok : goal.returns-in-Loaded-clause-ok
returns-in-Loaded-clause-ok g c =
    job-loads g.J.HasJobs.jobs g.J.JobWork.keeps g.S.OnSide.side c.args.self.now c.args.reply c.in-Loaded.load c.load.new.self c.in-Loaded.is c.load.ensures

pub returns-in_default-clause-ok : goal.returns-in_default-clause-ok
returns-in_default-clause-ok g c = λ at kept handed.
    absurd (job-others g.J.HasJobs.jobs g.J.JobWork.keeps g.S.OnSide.side c.args.self.now c.args.reply c.in_default.not-Page c.in_default.not-Loaded at handed)

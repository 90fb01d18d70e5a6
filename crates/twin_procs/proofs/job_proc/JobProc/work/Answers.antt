use Rattle.twin_procs.proofs.JobSteps.{works-page, works-all, works-last}
use Rattle.twin_procs.proofs.job_proc.JobProc.work.Goals as goal

pub returns-in-Some : goal.returns-in-Some
returns-in-Some g c = λ s last kept.
    works-page g.J.HasJobs.jobs g.J.JobWork.keeps c.args.self.now s last kept c.pack.new.self c.pack.new.packer c.pack.new.due
    c.in_ok-pack.ensures c.in-Some.page c.in-Some.is

pub returns-then-self : goal.returns-then-self
returns-then-self g c = λ s last kept.
    works-last g.J.HasJobs.jobs g.J.JobWork.keeps c.args.self.now s last kept c.pack.new.self c.pack.new.packer c.pack.new.due
    c.in_ok-pack.ensures c.finish_lines.new.self c.in-None.is c.if-self.true c.finish_lines.ensures

pub returns-else-self : goal.returns-else-self
returns-else-self g c = λ s last kept.
    works-all g.J.HasJobs.jobs g.J.JobWork.keeps c.args.self.now s last kept c.pack.new.self c.pack.new.packer c.pack.new.due
    c.in_ok-pack.ensures c.in-None.is c.if-self.false

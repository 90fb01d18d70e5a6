use Rattle.std.proofs.Common.{false, [], None, sym, subst}
use Rattle.page_codec.specs.Stream.{at_the_first}
use Rattle.batch_procs.specs.KeepsJob.{KeepsJob}
use Rattle.batch_procs.proofs.JobSteps.{job-begins}
use Rattle.batch_procs.proofs.job_proc.JobProcWorkWork.begin.Goals as goal

pub returns : goal.returns
returns g c =
    let now = g.J.JobWork.keeps c.begin.result in
    subst (λ awaited. KeepsJob g.J.HasJobs.jobs now awaited c.new-2.result None false [] [] false) (sym c.new.ensures)
    (subst (λ packer. KeepsJob g.J.HasJobs.jobs now at_the_first packer None false [] [] false) (sym c.new-2.ensures.first)
    (job-begins g.J.HasJobs.are_jobs now c.begin.ensures))

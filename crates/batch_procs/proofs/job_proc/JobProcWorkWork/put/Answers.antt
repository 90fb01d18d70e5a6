use Rattle.std.proofs.Common.{refl}
use Rattle.batch_procs.proofs.JobSteps.{is-last, job-puts}
use Rattle.batch_procs.proofs.job_proc.JobProcWorkWork.put.Goals as goal

pub returns : goal.returns
returns g c = λ taken sent more first keeps left.
    job-puts g.J.HasJobs.are_jobs _ _ _ _ _ _ c.last.result taken sent more first c.in-Some.page c.in-Some.is
    refl (is-last c.last.result _ c.last.ensures) keeps left

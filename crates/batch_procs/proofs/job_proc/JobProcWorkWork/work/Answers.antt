use Rattle.std.proofs.Common.{sym}
use Rattle.batch_procs.proofs.JobSteps.{job-works-page, job-works-on, job-works-last}
use Rattle.batch_procs.proofs.job_proc.JobProcWorkWork.work.Goals.{
  else-is_none-via-then-is_none+else-is_ended as not-ended,
  else-is_none-via-else-is_none as page-due,
}
use Rattle.batch_procs.proofs.job_proc.JobProcWorkWork.work.Goals as goal

pub returns-then-is_ended-clause-ok : goal.returns-then-is_ended-clause-ok
returns-then-is_ended-clause-ok g c = λ taken sent keeps loaded.
    job-works-last g.J.HasJobs.are_jobs keeps loaded c.pack.new.due c.finish.new.due c.finish.new.packer c.if-is_none.ensures c.finish.ensures
    (sym c.if-is_ended.ensures) c.in_ok-pack.ensures

pub returns-else-is_none-clause-ok : goal.returns-else-is_none-clause-ok
returns-else-is_none-clause-ok g c = λ taken sent keeps loaded. elim c.else-is_none.branch [
  | not-ended w ↦ job-works-on g.J.HasJobs.are_jobs keeps loaded c.pack.new.due w.if-is_none.ensures (sym w.if-is_ended.ensures) c.in_ok-pack.ensures
  | page-due w ↦ job-works-page g.J.HasJobs.are_jobs keeps loaded c.pack.new.due w.if-is_none.ensures c.in_ok-pack.ensures
]

use Rattle.batch_procs.proofs.JobSteps.{job-loads}
use Rattle.batch_procs.proofs.job_proc.JobProcWorkWork.load.Goals as goal

pub returns : goal.returns
returns g c = λ taken sent file later keeps wants.
    job-loads g.J.HasJobs.are_jobs (g.J.JobWork.keeps c.args.self.now.jobs)
    (g.J.JobWork.keeps c.load.new.self) _ _ _ _ taken sent c.args.load file later c.load.ensures keeps wants

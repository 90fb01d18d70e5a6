use Rattle.batch_run.proofs.batch.know_jobs.Goals as goal

pub returns : goal.returns
returns g c = g.J.HasJobs.are_jobs

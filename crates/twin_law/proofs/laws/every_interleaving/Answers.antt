use Rattle.twin_law.proofs.Reached.{holds}
use Rattle.twin_law.proofs.laws.every_interleaving.Goals as goal

pub returns : goal.returns
returns g c = holds g.J.HasJobs.are_jobs

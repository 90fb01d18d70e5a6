use Rattle.core_law.proofs.Reached.{reached-holds}
use Rattle.core_law.proofs.interleavings.every_interleaving.Goals as goal

pub returns : goal.returns
returns g c = reached-holds g.J.HasJobs.are_jobs

use Rattle.twin_law.proofs.Bounded.{no-run_longer}
use Rattle.twin_law.proofs.laws.no_run_is_longer.Goals as goal

pub returns : goal.returns
returns g c = no-run_longer g.J.HasJobs.are_jobs

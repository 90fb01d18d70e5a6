use Rattle.core_law.proofs.Reached.{never-stuck}
use Rattle.core_law.proofs.interleavings.no_state_is_stuck.Goals as goal

pub returns : goal.returns
returns g c = never-stuck g.J.HasJobs.are_jobs

use Rattle.core_law.proofs.WorkFalls.{work-falls}
use Rattle.core_law.proofs.interleavings.each_event_leaves_less.Goals as goal

pub returns : goal.returns
returns g c = work-falls g.J.HasJobs.are_jobs

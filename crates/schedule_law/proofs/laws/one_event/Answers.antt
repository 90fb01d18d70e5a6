use Rattle.core_law.proofs.Law.{sure}
use Rattle.schedule_law.proofs.laws.one_event.Goals as goal

pub returns : goal.returns
returns g c = (sure g.J.HasJobs.are_jobs).one_event

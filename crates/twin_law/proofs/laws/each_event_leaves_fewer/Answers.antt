use Rattle.twin_law.proofs.LeavesFewer.{leaves-fewer}
use Rattle.twin_law.proofs.laws.each_event_leaves_fewer.Goals as goal

pub returns : goal.returns
returns g c = leaves-fewer g.J.HasJobs.are_jobs

use Rattle.twin_law.proofs.Reached.{sound}
use Rattle.twin_law.proofs.laws.law_of_the_twins.Goals as goal

pub returns : goal.returns
returns g c = record { sound = sound g.J.HasJobs.are_jobs }

use Rattle.core_law.proofs.Law.{sound, sure}
use Rattle.core_law.proofs.interleavings.law_of_the_core.Goals as goal

pub returns-clause-sound : goal.returns-clause-sound
returns-clause-sound g c = sound g.J.HasJobs.are_jobs

pub returns-clause-sure : goal.returns-clause-sure
returns-clause-sure g c = sure g.J.HasJobs.are_jobs

use Rattle.batch_ends.proofs.DeviceVisits.{reads}
use Rattle.batch_ends.proofs.device_calls.read_card.Goals as goal

pub returns-clause-reads : goal.returns-clause-reads
returns-clause-reads g c = reads g.J.HasJobs.jobs _ _ c.read-answer.result c.is_item.ensures c.read-answer.ensures.next

use Rattle.std.proofs.Common.{length}
use Rattle.real_time.proofs.table.+first_asleep.Given as goal

abbrev pub decreases-first_asleep : goal.decreases-first_asleep
decreases-first_asleep l = length l.queues.now

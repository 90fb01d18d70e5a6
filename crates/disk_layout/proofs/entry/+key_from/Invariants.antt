use Rattle.std.proofs.Common.{length}
use Rattle.disk_layout.proofs.entry.+key_from.Given as goal

abbrev pub decreases-key_from : goal.decreases-key_from
decreases-key_from l = length l.name.now

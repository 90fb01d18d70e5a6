use Rattle.std.proofs.Common.{length}
use Rattle.access_check.proofs.description.Description.+backward.Given as goal

abbrev pub decreases-backward : goal.decreases-backward
decreases-backward l = length l.monitors.now

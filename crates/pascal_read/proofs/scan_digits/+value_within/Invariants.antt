use Rattle.std.proofs.Common.{length}
use Rattle.pascal_read.proofs.scan_digits.+value_within.Given as goal

abbrev pub decreases-value_within : goal.decreases-value_within
decreases-value_within l = length l.digits.now

use Rattle.std.proofs.Common.{length}
use Rattle.pascal_compile.proofs.calls.+array_among.Given as goal

abbrev pub decreases-array_among : goal.decreases-array_among
decreases-array_among l = length l.passing.now

use Rattle.std.proofs.Common.{length}
use Rattle.pascal_evaluate.proofs.calls.+first_array.Given as goal

abbrev pub decreases-first_array : goal.decreases-first_array
decreases-first_array l = length l.given.now

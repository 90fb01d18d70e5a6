use Rattle.std.proofs.Common.{length}
use Rattle.pascal_compile.proofs.calls.+store_variables.Given as goal

abbrev pub decreases-store_variables : goal.decreases-store_variables
decreases-store_variables l = length l.passing.now

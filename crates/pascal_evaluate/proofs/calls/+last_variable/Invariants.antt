use Rattle.std.proofs.Common.{length}
use Rattle.pascal_evaluate.proofs.calls.+last_variable.Given as goal

abbrev pub decreases-last_variable : goal.decreases-last_variable
decreases-last_variable l = length l.given.now

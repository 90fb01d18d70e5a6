use Rattle.std.proofs.Common.{length}
use Rattle.pascal_check.proofs.predeclared.+find.Given as goal

abbrev pub decreases-find : goal.decreases-find
decreases-find l = length l.table.now

use Rattle.std.proofs.Common.{length}
use Rattle.run_report.proofs.decide.+lowest_of.Given as goal

abbrev pub decreases-lowest_of : goal.decreases-lowest_of
decreases-lowest_of l = length l.outcomes.now

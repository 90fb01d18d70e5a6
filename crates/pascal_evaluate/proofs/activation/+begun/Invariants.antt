use Rattle.std.proofs.Common.{length}
use Rattle.pascal_evaluate.proofs.activation.+begun.Given as goal

abbrev pub decreases-begun : goal.decreases-begun
decreases-begun l = length l.parameters.now

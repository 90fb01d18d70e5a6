use Rattle.std.proofs.Common.{length}
use Rattle.pascal_evaluate.proofs.activation.+referred.Given as goal

abbrev pub decreases-referred : goal.decreases-referred
decreases-referred l = length l.references.now

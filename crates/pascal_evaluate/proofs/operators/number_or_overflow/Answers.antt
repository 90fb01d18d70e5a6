use Rattle.solo_base.specs.declared.outcome.ProgResult.TheVariants as result
use Rattle.pascal_evaluate.proofs.Parts.{ends_here}
use Rattle.pascal_evaluate.proofs.operators.number_or_overflow.Goals as goal

pub returns-in-None : goal.returns-in-None
returns-in-None c now = rw c.in-None.is (ends_here result.Overflow now)

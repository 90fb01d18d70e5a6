use Rattle.std.proofs.Common.{refl}
use Rattle.pipeline.proofs.Composed.{comes_nothing}
use Rattle.pipeline.proofs.behind.refused.Goals as goal

pub returns-clause-comes : goal.returns-clause-comes
returns-clause-comes g c = λ gives. comes_nothing gives _ _ _ c.args.cause c.requires.begins refl

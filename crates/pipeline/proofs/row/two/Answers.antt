use Rattle.std.proofs.Common.{subst}
use Rattle.pipeline.specs.Rows.{Worked}
use Rattle.pipeline.proofs.Composed.{behind_told, comes_then}
use Rattle.pipeline.proofs.row.two.Goals as goal

pub returns-then-not-go-clause-comes : goal.returns-then-not-go-clause-comes
returns-then-not-go-clause-comes g c = c.refused.ensures.comes _

pub returns-in_default-clause-comes : goal.returns-in_default-clause-comes
returns-in_default-clause-comes g c = c.refused-in_default.ensures.comes _

pub returns-clause-comes : goal.returns-clause-comes
returns-clause-comes g c =
    let ends = c.beside-taker in
    let worked = subst (λ s. Worked (g.A.Stage.gives s) ends.result.0.0.calls ends.result.0.1.calls ends.result.0.2) c.with-promise.ensures.0 ends.ensures.first.2 in
    comes_then _ _ _ _ _ _ _ _ _ _ _ c.with_stage.ensures worked c.meet.ensures ends.ensures.second.1.1.0

pub returns-clause-told : goal.returns-clause-told
returns-clause-told g c = behind_told _ _ _ _ c.with_stage.ensures c.beside-taker.ensures.second.1.1.1

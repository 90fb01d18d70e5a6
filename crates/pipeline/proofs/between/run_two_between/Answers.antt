use Rattle.std.proofs.Common.{refl, subst}
use Rattle.pipeline.specs.Rows.{Fed}
use Rattle.pipeline.proofs.Composed.{came_through, ends_told, nothing_came}
use Rattle.pipeline.proofs.between.run_two_between.Goals as goal

pub returns-in_default-clause-came : goal.returns-in_default-clause-came
returns-in_default-clause-came g c = nothing_came _ _ _ _ _ _ c.requires.begins.1 refl

pub returns-clause-came : goal.returns-clause-came
returns-clause-came g c =
    let ends = c.beside-putter in
    let fed = subst (λ s. Fed (g.S.Source.tells s) (g.S.Source.gave ends.result.0.1) ends.result.0.0.calls ends.result.0.2) c.with-promise.ensures.0 ends.ensures.first.1 in
    came_through _ _ _ _ _ _ _ _ _ _ _ c.with_source.ensures fed c.meet.ensures ends.ensures.second.1.1.0

pub returns-clause-fault : goal.returns-clause-fault
returns-clause-fault g c = ends_told _ _ _ _ _ c.with_source.ensures c.beside-putter.ensures.first.2 c.beside-putter.ensures.second.1.1.1

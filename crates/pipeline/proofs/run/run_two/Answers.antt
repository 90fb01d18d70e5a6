use Rattle.std.proofs.Common.{Some, ap}
use Rattle.pipeline.proofs.Composed.{vector_all, vector_first}
use Rattle.pipeline.proofs.run.run_two.Goals as goal

pub returns-clause-first : goal.returns-clause-first
returns-clause-first g c =
    vector_first _ _ _ _ _ _ (ap (λ items. items.items) c.of.ensures.items) _ (ap (λ items. Some items.items) c.of-items.ensures.all) c.run_two_between.ensures.came

pub returns-clause-all : goal.returns-clause-all
returns-clause-all g c =
    vector_all _ _ _ _ _ _ (ap (λ items. items.items) c.of.ensures.items) _ (ap (λ items. Some items.items) c.of-items.ensures.all) c.run_two_between.ensures.came _
    c.of.ensures.ended

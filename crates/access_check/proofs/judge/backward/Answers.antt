use Rattle.access_check.proofs.Finding.{next, first_found, none_found}
use Rattle.access_check.proofs.judge.backward.Goals as goal

pub returns-then-is_some : goal.returns-then-is_some
returns-then-is_some c =
    first_found _ _ _ c.if-is_some.ensures
    (next c.args.description.now c.args.items.now c.loop-item.item-index c.item-item.result _ _ _
    c.loop-item-test.true c.item-item.is c.in_ok-card.ensures c.backward_on-found.ensures c.loop-item.invariant)

pub loop-item-preserved : goal.loop-item-preserved
loop-item-preserved c =
    none_found _ _ _ c.if-is_some.ensures
    (next c.args.description.now c.args.items.now c.loop-item.item-index c.item-item.result _ _ _
    c.loop-item-test.true c.item-item.is c.in_ok-card.ensures c.backward_on-found.ensures c.loop-item.invariant)

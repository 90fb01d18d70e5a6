use Rattle.std.proofs.Common.{Some, sym, subst, ap}
use Rattle.solo_base.specs.declared.outcome.Cause.TheVariants as cause
use Rattle.real_time.specs.States.{after_answer, behind_fault}
use Rattle.time_net.specs.Standing.{MayFail, OperatorIsAt, OperatorStands}
use Rattle.time_net.proofs.operator.Operator.read.Goals as goal

pub returns-in-Card : goal.returns-in-Card
returns-in-Card c = λ s st at.
    subst (λ answer. OperatorIsAt c.obey_item.new.self (after_answer s answer)) (sym c.in-Card.is) (c.obey_item.ensures s st at)

pub returns-in-Spoiled : goal.returns-in-Spoiled
returns-in-Spoiled c = λ s st at.
    subst (λ answer. OperatorIsAt c.obey_item-in-Spoiled.new.self (after_answer s answer)) (sym c.in-Spoiled.is) (c.obey_item-in-Spoiled.ensures s st at)

pub returns-in-End : goal.returns-in-End
returns-in-End c = λ s st at.
    subst (λ answer. OperatorIsAt c.reach_end.new.self (after_answer s answer)) (sym c.in-End.is) (c.reach_end.ensures s st at)

pub returns-in-Failed : goal.returns-in-Failed
returns-in-Failed c = λ s st at.
    subst (λ answer. OperatorIsAt c.fail.new.self (after_answer s answer)) (sym c.in-Failed.is)
    (subst (λ stage. OperatorStands c.fail.new.self stage s.script (Some cause.ReadFault)) (ap behind_fault at)
    (c.fail.ensures s st (subst MayFail (sym at) tt)))

pub returns-in-Limit : goal.returns-in-Limit
returns-in-Limit c = λ s st at.
    subst (λ answer. OperatorIsAt c.fail-in-Limit.new.self (after_answer s answer)) (sym c.in-Limit.is)
    (subst (λ stage. OperatorStands c.fail-in-Limit.new.self stage s.script (Some cause.DeckLimit)) (ap behind_fault at)
    (c.fail-in-Limit.ensures s st (subst MayFail (sym at) tt)))

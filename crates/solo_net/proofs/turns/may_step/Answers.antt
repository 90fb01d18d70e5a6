use Rattle.solo_net.proofs.Stepping.{next-said}
use Rattle.solo_net.proofs.Turning.{never-at-turn, some-next, at-turn, no-truth}
use Rattle.solo_net.proofs.turns.may_step.Goals as goal

pub returns-then-has_ended : goal.returns-then-has_ended
returns-then-has_ended g c = λ h s stands six places. (
  λ yes. absurd (no-truth yes),
  λ at. absurd (never-at-turn g.P.Proc.process h s c.args.p ((c.has_ended.ensures h stands).0 c.if-has_ended.true) at),
)

pub returns : goal.returns
returns g c = λ h s stands six places.
    let (action, next) = some-next g.P.Proc.process h c.has_ended.result (c.has_ended.ensures h stands) c.if-has_ended.false in
    at-turn g.P.Proc.process h s c.args.p action c.next-action.result c.may_call.result next
    (next-said _ c.next-action.result action (c.next-action.ensures.next h stands) next) (places action next)
    (λ has_place. c.may_call.ensures s six has_place)

use Rattle.twin_net.proofs.Stepping.{never-at-turn, at-turn}
use Rattle.twin_net.proofs.turns.may_step.Goals as goal

pub returns-then-has_ended : goal.returns-then-has_ended
returns-then-has_ended g c = λ h s stands shared places. (
  λ yes_it_is. absurd cc,
  λ at. absurd (never-at-turn g.P.TwinProc.process h s c.args.p c.has_ended.result (c.has_ended.ensures h stands) c.if-has_ended.true at),
)

pub returns : goal.returns
returns g c = λ h s stands shared places.
    at-turn g.P.TwinProc.process h s c.args.p c.has_ended.result c.may_call.result c.next-action.result (c.has_ended.ensures h stands) c.if-has_ended.false
    (c.next-action.ensures.next h stands) (c.may_call.ensures s shared) places

use Rattle.solo_law.proofs.Placed.{is-1, is-2, is-3}
use Rattle.solo_net.proofs.Turning.{turn-at, no-other, no-truth}
use Rattle.solo_net.proofs.net.SoloNetNetwork.enabled.Goals as goal

pub returns-then-p-eq1 : goal.returns-then-p-eq1
returns-then-p-eq1 g c = λ at.
    turn-at at.state c.args.p 1 c.if-p-eq1.true is-1 c.may_step.result
    (λ places. c.may_step.ensures (at.state.histories 1) at.state at.stands.input at.stands.shared.six places)

pub returns-then-p-eq2 : goal.returns-then-p-eq2
returns-then-p-eq2 g c = λ at.
    turn-at at.state c.args.p 2 c.if-p-eq2.true is-2 c.may_step-then-p-eq2.result
    (λ places. c.may_step-then-p-eq2.ensures (at.state.histories 2) at.state at.stands.job at.stands.shared.six places)

pub returns-then-p-eq3 : goal.returns-then-p-eq3
returns-then-p-eq3 g c = λ at.
    turn-at at.state c.args.p 3 c.if-p-eq3.true is-3 c.may_step-then-p-eq3.result
    (λ places. c.may_step-then-p-eq3.ensures (at.state.histories 3) at.state at.stands.output at.stands.shared.six places)

pub returns-else-p-eq3 : goal.returns-else-p-eq3
returns-else-p-eq3 g c = λ at. (
  λ yes. absurd (no-truth yes),
  λ may. absurd (no-other c.args.p may.one c.if-p-eq1.false c.if-p-eq2.false c.if-p-eq3.false),
)

use Rattle.solo_net.proofs.Turning.{ended-at, last-number}
use Rattle.solo_net.proofs.net.SoloNetNetwork.has_ended.Goals as goal

pub returns-then-p-eq1 : goal.returns-then-p-eq1
returns-then-p-eq1 g c = λ at.
    ended-at at.state c.args.p 1 c.if-p-eq1.true c.has_ended.result (c.has_ended.ensures (at.state.histories 1) at.stands.input)

pub returns-then-p-eq2 : goal.returns-then-p-eq2
returns-then-p-eq2 g c = λ at.
    ended-at at.state c.args.p 2 c.if-p-eq2.true c.has_ended-then-p-eq2.result
    (c.has_ended-then-p-eq2.ensures (at.state.histories 2) at.stands.job)

pub returns-else-p-eq2 : goal.returns-else-p-eq2
returns-else-p-eq2 g c = λ at.
    ended-at at.state c.args.p 3 (last-number c.args.p c.requires.one c.if-p-eq1.false c.if-p-eq2.false) c.has_ended-else-p-eq2.result
    (c.has_ended-else-p-eq2.ensures (at.state.histories 3) at.stands.output)

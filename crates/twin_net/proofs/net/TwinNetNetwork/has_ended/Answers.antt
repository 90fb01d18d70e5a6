use Rattle.twin_net.proofs.NetSteps.{ended-at, last-number}
use Rattle.twin_net.proofs.net.TwinNetNetwork.has_ended.Goals as goal

pub returns-then-p-eq1 : goal.returns-then-p-eq1
returns-then-p-eq1 g c = λ at.
    ended-at g.J.HasJobs.jobs at.state c.args.p 1 c.if-p-eq1.true c.has_ended.result
    (c.has_ended.ensures (at.state.histories 1) at.stands.is.card)

pub returns-then-p-eq2 : goal.returns-then-p-eq2
returns-then-p-eq2 g c = λ at.
    ended-at g.J.HasJobs.jobs at.state c.args.p 2 c.if-p-eq2.true c.has_ended-then-p-eq2.result
    (c.has_ended-then-p-eq2.ensures (at.state.histories 2) at.stands.is.input)

pub returns-then-p-eq3 : goal.returns-then-p-eq3
returns-then-p-eq3 g c = λ at.
    ended-at g.J.HasJobs.jobs at.state c.args.p 3 c.if-p-eq3.true c.has_ended-then-p-eq3.result
    (c.has_ended-then-p-eq3.ensures (at.state.histories 3) at.stands.is.job_a)

pub returns-then-p-eq4 : goal.returns-then-p-eq4
returns-then-p-eq4 g c = λ at.
    ended-at g.J.HasJobs.jobs at.state c.args.p 4 c.if-p-eq4.true c.has_ended-then-p-eq4.result
    (c.has_ended-then-p-eq4.ensures (at.state.histories 4) at.stands.is.job_b)

pub returns-then-p-eq5 : goal.returns-then-p-eq5
returns-then-p-eq5 g c = λ at.
    ended-at g.J.HasJobs.jobs at.state c.args.p 5 c.if-p-eq5.true c.has_ended-then-p-eq5.result
    (c.has_ended-then-p-eq5.ensures (at.state.histories 5) at.stands.is.output)

pub returns-else-p-eq5 : goal.returns-else-p-eq5
returns-else-p-eq5 g c = λ at.
    ended-at g.J.HasJobs.jobs at.state c.args.p 6
    (last-number c.args.p c.requires.one c.if-p-eq1.false c.if-p-eq2.false c.if-p-eq3.false c.if-p-eq4.false c.if-p-eq5.false) c.has_ended-else-p-eq5.result
    (c.has_ended-else-p-eq5.ensures (at.state.histories 6) at.stands.is.printer)

use Rattle.std.proofs.Common.{lit≤}
use Rattle.twin_net.proofs.NetSteps.{turn-at, no-other}
use Rattle.twin_net.proofs.net.TwinNetNetwork.enabled.Goals as goal

pub returns-then-p-eq1 : goal.returns-then-p-eq1
returns-then-p-eq1 g c = λ at.
    turn-at g.J.HasJobs.jobs at.opening at.state at.reached c.args.p 1 c.if-p-eq1.true (lit≤ tt, lit≤ tt) c.may_step.result
    (λ places. c.may_step.ensures (at.state.histories 1) at.state at.stands.is.card at.stands.is.shared places)

pub returns-then-p-eq2 : goal.returns-then-p-eq2
returns-then-p-eq2 g c = λ at.
    turn-at g.J.HasJobs.jobs at.opening at.state at.reached c.args.p 2 c.if-p-eq2.true (lit≤ tt, lit≤ tt) c.may_step-then-p-eq2.result
    (λ places. c.may_step-then-p-eq2.ensures (at.state.histories 2) at.state at.stands.is.input at.stands.is.shared places)

pub returns-then-p-eq3 : goal.returns-then-p-eq3
returns-then-p-eq3 g c = λ at.
    turn-at g.J.HasJobs.jobs at.opening at.state at.reached c.args.p 3 c.if-p-eq3.true (lit≤ tt, lit≤ tt) c.may_step-then-p-eq3.result
    (λ places. c.may_step-then-p-eq3.ensures (at.state.histories 3) at.state at.stands.is.job_a at.stands.is.shared places)

pub returns-then-p-eq4 : goal.returns-then-p-eq4
returns-then-p-eq4 g c = λ at.
    turn-at g.J.HasJobs.jobs at.opening at.state at.reached c.args.p 4 c.if-p-eq4.true (lit≤ tt, lit≤ tt) c.may_step-then-p-eq4.result
    (λ places. c.may_step-then-p-eq4.ensures (at.state.histories 4) at.state at.stands.is.job_b at.stands.is.shared places)

pub returns-then-p-eq5 : goal.returns-then-p-eq5
returns-then-p-eq5 g c = λ at.
    turn-at g.J.HasJobs.jobs at.opening at.state at.reached c.args.p 5 c.if-p-eq5.true (lit≤ tt, lit≤ tt) c.may_step-then-p-eq5.result
    (λ places. c.may_step-then-p-eq5.ensures (at.state.histories 5) at.state at.stands.is.output at.stands.is.shared places)

pub returns-then-p-eq6 : goal.returns-then-p-eq6
returns-then-p-eq6 g c = λ at.
    turn-at g.J.HasJobs.jobs at.opening at.state at.reached c.args.p 6 c.if-p-eq6.true (lit≤ tt, lit≤ tt) c.may_step-then-p-eq6.result
    (λ places. c.may_step-then-p-eq6.ensures (at.state.histories 6) at.state at.stands.is.printer at.stands.is.shared places)

pub returns-else-p-eq6 : goal.returns-else-p-eq6
returns-else-p-eq6 g c = λ at. (
  λ yes_it_is. absurd cc,
  λ may. absurd (no-other c.args.p may.one c.if-p-eq1.false c.if-p-eq2.false c.if-p-eq3.false c.if-p-eq4.false c.if-p-eq5.false c.if-p-eq6.false),
)

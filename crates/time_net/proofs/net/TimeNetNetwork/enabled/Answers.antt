use Rattle.std.proofs.Common.{subst, sym}
use Rattle.real_time.specs.States.{MayMove, OperatorMay, action_at}
use Rattle.std.specs.Prelude.{◌↔◌, IsTrue}
use Rattle.time_net.proofs.net.TimeNetNetwork.enabled.Goals as goal

pub returns-then-p-eq-OPERATOR : goal.returns-then-p-eq-OPERATOR
returns-then-p-eq-OPERATOR g c = λ at.
    subst (λ p. IsTrue c.may_act.result ↔ MayMove at.state p) (sym c.if-p-eq-OPERATOR.true)
    (subst (λ table. IsTrue c.may_act.result ↔ OperatorMay (action_at at.state.stage at.state.seen) table) at.stands.is.table
    (c.may_act.ensures at.state.stage at.state.seen (c.next-action.ensures at.state at.stands.is.operator at.stands.is.tasks)))

pub returns-else-p-eq-OPERATOR : goal.returns-else-p-eq-OPERATOR
returns-else-p-eq-OPERATOR g c = λ at. c.task_enabled.ensures at.state at.stands.is.tasks at.stands.is.table c.if-p-eq-OPERATOR.false

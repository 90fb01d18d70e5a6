use Rattle.std.proofs.Common.{Some, refl, sym, subst}
use Rattle.real_time.specs.States.{behind_fault}
use Rattle.time_net.specs.Standing.{Does}
use Rattle.time_net.proofs.Operating.{failed}
use Rattle.time_net.proofs.operator.Operator.fail.Goals as goal

pub returns : goal.returns
returns c = λ s st may. record {
  does = subst (λ d. Does d c.args.self.now.tasks.items c.args.self.now.clock (behind_fault s.stage) s.script (Some c.args.cause))
      (sym c.behind_fault-self.ensures)
      (failed c.args.self.now.doing c.args.self.now.tasks.items c.args.self.now.clock s.stage s.script s.fault c.args.cause may st.does);
  fault_is = refl;
}

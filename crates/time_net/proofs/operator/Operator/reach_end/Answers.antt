use Rattle.std.proofs.Common.{refl}
use Rattle.time_net.proofs.Operating.{is-ready}
use Rattle.time_net.proofs.operator.Operator.reach_end.Goals as goal

pub returns : goal.returns
returns c = λ s st at.
    let ready = is-ready c.args.self.now s.stage s.script s.fault st at in
    record { does = (refl, λ none. ready.0.stand.names); fault_is = st.fault_is }

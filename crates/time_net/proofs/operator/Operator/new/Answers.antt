use Rattle.std.proofs.Common.{refl}
use Rattle.time_net.proofs.Operating.{first-ready}
use Rattle.time_net.proofs.operator.Operator.new.Goals as goal

pub returns : goal.returns
returns c = record { does = first-ready c.new.result.items c.new.ensures; fault_is = refl }

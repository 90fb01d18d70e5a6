use Rattle.solo_net.proofs.Calling.{same-truth}
use Rattle.solo_net.proofs.buffers.is_so.Goals as goal

pub returns-in-Enter : goal.returns-in-Enter
returns-in-Enter g c = rw c.in-Enter.is c.may_enter.ensures

pub returns-in-Stop : goal.returns-in-Stop
returns-in-Stop g c = rw c.in-Stop.is c.may_stop.ensures

pub returns-in-Handed : goal.returns-in-Handed
returns-in-Handed g c = rw c.in-Handed.is (same-truth _ _ c.is_handed.ensures)

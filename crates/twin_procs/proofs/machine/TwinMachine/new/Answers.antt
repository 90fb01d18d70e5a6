use Rattle.std.proofs.Common.{refl}
use Rattle.twin_procs.proofs.Machines.{stands-new}
use Rattle.twin_procs.proofs.machine.TwinMachine.new.Goals as goal

pub returns : goal.returns
returns g c = stands-new g.P.TwinProc.process g.P.TwinProc.stands _ c.begin.ensures refl refl refl

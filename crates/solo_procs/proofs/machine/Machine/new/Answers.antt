use Rattle.solo_procs.proofs.Machines.{stands-new}
use Rattle.solo_procs.proofs.machine.Machine.new.Goals as goal

pub returns-clause-stands : goal.returns-clause-stands
returns-clause-stands g c = stands-new g.P.Proc.process g.P.Proc.is_at g.P.Proc.ready c.begin.result g.met.P.Proc.stands c.begin.ensures.ready

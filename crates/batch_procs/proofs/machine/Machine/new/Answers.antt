use Rattle.std.proofs.Common.{refl}
use Rattle.batch_procs.proofs.Machines.{stands-new}
use Rattle.batch_procs.proofs.machine.Machine.new.Goals as goal

pub returns : goal.returns
returns g c = stands-new g.J.HasJobs.jobs g.W.Work.process g.W.Work.keeps _ c.begin.ensures refl refl refl

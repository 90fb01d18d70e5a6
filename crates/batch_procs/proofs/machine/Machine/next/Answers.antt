use Rattle.batch_procs.proofs.Machines.{waits-on}
use Rattle.batch_procs.proofs.machine.Machine.next.Goals as goal

pub returns-in-None-clause-waits : goal.returns-in-None-clause-waits
returns-in-None-clause-waits g c = waits-on g.J.HasJobs.jobs g.W.Work.process g.W.Work.keeps _

pub returns-in-Some-clause-waits : goal.returns-in-Some-clause-waits
returns-in-Some-clause-waits g c = waits-on g.J.HasJobs.jobs g.W.Work.process g.W.Work.keeps _

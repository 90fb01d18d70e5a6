use Rattle.solo_procs.proofs.Machines.{next-at_place, waits-on}
use Rattle.solo_procs.proofs.machine.Machine.next.Goals as goal

pub returns-in-None-clause-next : goal.returns-in-None-clause-next
returns-in-None-clause-next g c = λ h st. next-at_place st.tracks c.does.result c.in-None.is c.does.ensures

pub returns-in-None-clause-waits : goal.returns-in-None-clause-waits
returns-in-None-clause-waits g c = λ h a st next may. waits-on st a next may

pub returns-in-Some-clause-waits : goal.returns-in-Some-clause-waits
returns-in-Some-clause-waits g c = λ h a st next may. waits-on st a next may

use Rattle.solo_procs.proofs.Machines.{has-ended}
use Rattle.solo_procs.proofs.machine.Machine.has_ended.Goals as goal

pub returns : goal.returns
returns g c = λ h st. has-ended st.tracks

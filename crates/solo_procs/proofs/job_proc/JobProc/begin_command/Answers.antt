use Rattle.solo_procs.proofs.JobNeeds.{same-commands}
use Rattle.solo_procs.proofs.job_proc.JobProc.begin_command.Goals as goal

pub returns-clause-kept : goal.returns-clause-kept
returns-clause-kept g c = same-commands _ _ c.toil.ensures

use Rattle.std.proofs.Common.{refl}
use Rattle.batch_ends.proofs.DeviceVisits.{prints-done, prints-failed, prints-lacking}
use Rattle.batch_ends.proofs.device_calls.print.Goals as goal

pub returns-in-Ok-clause-prints : goal.returns-in-Ok-clause-prints
returns-in-Ok-clause-prints g c = prints-done g.J.HasJobs.jobs _ _ c.args.line.now _ c.in-Ok.ensures.line refl

pub returns-in-Err-Failed-clause-prints : goal.returns-in-Err-Failed-clause-prints
returns-in-Err-Failed-clause-prints g c = prints-failed g.J.HasJobs.jobs _ _ c.args.line.now _ c.print.ensures.line

pub returns-in-Err-NoMemory-clause-prints : goal.returns-in-Err-NoMemory-clause-prints
returns-in-Err-NoMemory-clause-prints g c = prints-lacking g.J.HasJobs.jobs _ _ c.args.line.now _ c.print.ensures.line

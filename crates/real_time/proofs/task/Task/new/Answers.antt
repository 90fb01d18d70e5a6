use Rattle.std.proofs.Common.{refl}
use Rattle.real_time.proofs.Due.{never-waits}
use Rattle.real_time.proofs.task.Task.new.Goals as goal

pub returns-clause-plan : goal.returns-clause-plan
returns-clause-plan c = λ now. never-waits now _ refl

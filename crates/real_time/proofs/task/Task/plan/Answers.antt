use Rattle.std.proofs.Common.{refl}
use Rattle.real_time.proofs.Due.{waits-first}
use Rattle.real_time.proofs.task.Task.plan.Goals as goal

pub returns-clause-plan : goal.returns-clause-plan
returns-clause-plan c = λ now below. waits-first c.args.time c.args.period now _ below refl refl

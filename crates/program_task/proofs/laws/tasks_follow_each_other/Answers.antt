use Rattle.program_task.proofs.Tasks.{nothing_follows, one_after_another}
use Rattle.program_task.proofs.laws.tasks_follow_each_other.Goals as goal

pub returns-clause-nothing : goal.returns-clause-nothing
returns-clause-nothing g c = nothing_follows

pub returns-clause-another : goal.returns-clause-another
returns-clause-another g c = one_after_another

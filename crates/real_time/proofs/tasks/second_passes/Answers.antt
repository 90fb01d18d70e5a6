use Rattle.real_time.proofs.Passing.{second-begins, second-ends}
use Rattle.real_time.proofs.tasks.second_passes.Goals as goal

pub returns-clause-begins : goal.returns-clause-begins
returns-clause-begins c = second-begins

pub returns-clause-ends : goal.returns-clause-ends
returns-clause-ends c = second-ends

use Rattle.prog_stack.proofs.Steps.{begins, runs_itself, asked, served_so, popped_so}
use Rattle.prog_stack.proofs.laws.stacks_do_their_tasks.Goals as goal

pub returns-clause-begins : goal.returns-clause-begins
returns-clause-begins c = begins

pub returns-clause-runs : goal.returns-clause-runs
returns-clause-runs c = runs_itself

pub returns-clause-asked : goal.returns-clause-asked
returns-clause-asked c = asked

pub returns-clause-served : goal.returns-clause-served
returns-clause-served c = served_so

pub returns-clause-popped : goal.returns-clause-popped
returns-clause-popped c = popped_so

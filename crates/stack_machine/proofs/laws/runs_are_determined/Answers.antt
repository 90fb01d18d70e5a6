use Rattle.stack_machine.proofs.Outcomes.{some_run, one_run}
use Rattle.stack_machine.proofs.laws.runs_are_determined.Goals as goal

pub returns-clause-some : goal.returns-clause-some
returns-clause-some c = some_run

pub returns-clause-one : goal.returns-clause-one
returns-clause-one c = one_run

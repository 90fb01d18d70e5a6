use Rattle.solo_task.proofs.Refusals.{refused-nothing, refused-program, exists-reads}
use Rattle.solo_task.proofs.laws.refusals_change_nothing.Goals as goal

pub returns-clause-commands : goal.returns-clause-commands
returns-clause-commands c = refused-nothing

pub returns-clause-programs : goal.returns-clause-programs
returns-clause-programs c = refused-program

pub returns-clause-exists : goal.returns-clause-exists
returns-clause-exists c = exists-reads

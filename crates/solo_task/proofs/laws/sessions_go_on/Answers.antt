use Rattle.solo_task.proofs.Sessions.{last-is-last, more-commands, more-keys}
use Rattle.solo_task.proofs.laws.sessions_go_on.Goals as goal

pub returns-clause-last : goal.returns-clause-last
returns-clause-last c = last-is-last

pub returns-clause-commands : goal.returns-clause-commands
returns-clause-commands c = more-commands

pub returns-clause-keys : goal.returns-clause-keys
returns-clause-keys c = more-keys

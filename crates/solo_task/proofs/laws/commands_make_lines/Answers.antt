use Rattle.solo_task.proofs.CommandLines.{line-lines, session-paper}
use Rattle.solo_task.proofs.laws.commands_make_lines.Goals as goal

pub returns-clause-commands : goal.returns-clause-commands
returns-clause-commands c = line-lines

pub returns-clause-paper : goal.returns-clause-paper
returns-clause-paper c = session-paper

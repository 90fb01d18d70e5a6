use Rattle.solo_task.proofs.PutsRefused.{puts-refused}
use Rattle.solo_task.proofs.laws.puts_are_refused_so.Goals as goal

pub returns : goal.returns
returns c = puts-refused

use Rattle.solo_base.specs.Card.{cards}
use Rattle.batch_job.proofs.LinesSoFar as lines
use Rattle.batch_job.proofs.lines.lines_go_on.Goals as goal

pub returns-clause-prefix : goal.returns-clause-prefix
returns-clause-prefix c = lines.lines_go_on

pub returns-clause-loads : goal.returns-clause-loads
returns-clause-loads c = lines.loads_go_on

pub returns-clause-whole : goal.returns-clause-whole
returns-clause-whole c = λ files deck. lines.whole_lines files (cards deck)

pub returns-clause-all : goal.returns-clause-all
returns-clause-all c = lines.all_loaded

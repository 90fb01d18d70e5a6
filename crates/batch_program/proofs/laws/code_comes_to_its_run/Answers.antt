use Rattle.batch_program.proofs.RunSoFar.{reaches_run, runs_go_further}
use Rattle.batch_program.proofs.laws.code_comes_to_its_run.Goals as goal

pub returns-clause-reaches : goal.returns-clause-reaches
returns-clause-reaches c = λ w code good lines. reaches_run w code good lines

pub returns-clause-goes_on : goal.returns-clause-goes_on
returns-clause-goes_on c = λ code limit cards more closed. runs_go_further code limit cards more closed

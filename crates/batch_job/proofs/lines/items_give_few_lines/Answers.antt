use Rattle.batch_job.proofs.FewLines.{few-lines}
use Rattle.batch_job.proofs.lines.items_give_few_lines.Goals as goal

pub returns : goal.returns
returns c = few-lines

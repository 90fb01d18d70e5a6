use Rattle.batch_job.proofs.ReportLines.{printable-lines}
use Rattle.batch_job.proofs.lines.lines_are_printable.Goals as goal

pub returns : goal.returns
returns c = printable-lines

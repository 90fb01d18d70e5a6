use Rattle.batch_job.proofs.GoodFiles.{files_are_good}
use Rattle.batch_job.proofs.lines.code_in_files_is_good.Goals as goal

pub returns : goal.returns
returns c = files_are_good

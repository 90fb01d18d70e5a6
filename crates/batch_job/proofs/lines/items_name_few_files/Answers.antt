use Rattle.batch_job.proofs.NamedFiles.{files_go_on, few_files}
use Rattle.batch_job.proofs.lines.items_name_few_files.Goals as goal

pub returns-clause-more : goal.returns-clause-more
returns-clause-more c = files_go_on

pub returns-clause-few : goal.returns-clause-few
returns-clause-few c = few_files

use Rattle.program_task.proofs.Rows.{character_rows, argument_rows, file_rows, run_rows}
use Rattle.program_task.proofs.laws.rows_of_the_table.Goals as goal

pub returns-clause-characters : goal.returns-clause-characters
returns-clause-characters c = character_rows

pub returns-clause-arguments : goal.returns-clause-arguments
returns-clause-arguments c = argument_rows

pub returns-clause-files : goal.returns-clause-files
returns-clause-files c = file_rows

pub returns-clause-runs : goal.returns-clause-runs
returns-clause-runs c = run_rows

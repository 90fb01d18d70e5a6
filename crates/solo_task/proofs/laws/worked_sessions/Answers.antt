use Rattle.solo_task.proofs.RowProofs.{quiet-rows, card-rows, program-rows}
use Rattle.solo_task.proofs.CatalogueRowProofs.{catalogue-rows, copy-rows}
use Rattle.solo_task.proofs.StoredRow.{stored-rows}
use Rattle.solo_task.proofs.DeepRow.{deep-rows}
use Rattle.solo_task.proofs.laws.worked_sessions.Goals as goal

pub returns-clause-quiet : goal.returns-clause-quiet
returns-clause-quiet c = quiet-rows

pub returns-clause-cards : goal.returns-clause-cards
returns-clause-cards c = card-rows

pub returns-clause-programs : goal.returns-clause-programs
returns-clause-programs c = program-rows

pub returns-clause-stored : goal.returns-clause-stored
returns-clause-stored c = stored-rows

pub returns-clause-deep : goal.returns-clause-deep
returns-clause-deep c = deep-rows

pub returns-clause-catalogue : goal.returns-clause-catalogue
returns-clause-catalogue c = catalogue-rows

pub returns-clause-copies : goal.returns-clause-copies
returns-clause-copies c = copy-rows

-- What one thread prints for a deck, as its jobs are told and as their reports are.
use Rattle.std.specs.Prelude.{◌≡◌, List}
use Rattle.solo_base.specs.declared.item.Item.{Item}
use Rattle.batch_job.specs.Report.{Loads}
use Rattle.batch_job.specs.OneThread.{one_thread_lines}
use Rattle.batch_job.proofs.LinesSoFar.{whole_lines}
use Rattle.batch_procs.specs.Jobs.{one_thread}
use Rattle.deck_work.specs.DeckJobs.{deck_jobs}

-- What one thread prints for a deck's jobs is the text of their reports.
pub one_thread_is : (items : List Item) (files : Loads) → one_thread deck_jobs items files ≡ one_thread_lines files items
one_thread_is items files = (whole_lines files items).0

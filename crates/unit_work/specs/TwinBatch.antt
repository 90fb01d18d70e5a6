-- What a batch prints on two job processes, and how long it can take.
use Rattle.std.specs.Prelude.{◌≡◌, ◌+◌, ◌*◌, ℕ, List, length, Some}
use Rattle.solo_base.specs.declared.item.Item.{Item}
use Rattle.solo_base.specs.Text.{text}
use Rattle.solo_devices.specs.PrinterUnit.{Gains}
use Rattle.deck_format.specs.Jobs.{jobs}
use Rattle.disk_contents.specs.declared.loading.Loaded.{Loaded}
use Rattle.batch_job.specs.Report.{Loads}
use Rattle.batch_job.specs.OneThread.{one_thread_lines}
use Rattle.deck_work.specs.DeckJobs.{deck_jobs}
use Rattle.twin_law.specs.Twin.{TwinState}
use Rattle.twin_law.specs.Opening.{AreTold, Opening}
use Rattle.twin_law.specs.Outcomes.{AllDone}

-- Over told areas the paper gained a first part of the reports of the jobs of a told deck, with these files,
-- and all of it where all six ended with their work done.
abbrev pub BatchPrints : Opening deck_jobs → TwinState Loaded → Type 0
BatchPrints o s = AreTold o.spools → (items : List Item) (found : Loads) → o.deck ≡ Some items
    → o.files ≡ Some found → Gains o.paper s.devices.paper (text (one_thread_lines found items)) (AllDone s)

-- No run over told devices has more events: by the cards of its deck, the lines of the reports and the jobs.
abbrev pub longest_batch : Loads → List Item → ℕ
longest_batch found items =
    40 * (length items + length (one_thread_lines found items) + 4) + 50 * length (jobs items)

-- What a batch prints on one job process.
use Rattle.std.specs.Prelude.{◌≡◌, List, Some}
use Rattle.solo_base.specs.declared.item.Item.{Item}
use Rattle.solo_base.specs.Text.{text}
use Rattle.solo_devices.specs.PrinterUnit.{Gains}
use Rattle.disk_contents.specs.declared.loading.Loaded.{Loaded}
use Rattle.batch_job.specs.Report.{Loads}
use Rattle.batch_job.specs.OneThread.{one_thread_lines}
use Rattle.deck_work.specs.DeckJobs.{deck_jobs, AreFound}
use Rattle.core_law.specs.Core.{CoreState}
use Rattle.core_law.specs.Opening.{Opening}
use Rattle.core_law.specs.Holds.{AreTold}
use Rattle.core_law.specs.Ends.{AllDone}

-- Over told areas the paper gained a first part of the reports of the jobs of a told deck, with the files as
-- they are told, or with any where no job names one; and all of it where all five ended with their work done.
abbrev pub PrintsReports : Opening deck_jobs → CoreState Loaded → Type 0
PrintsReports o s = AreTold o.spools → (items : List Item) (found : Loads) → o.deck ≡ Some items
    → AreFound o.files found items
    → Gains o.paper s.devices.paper (text (one_thread_lines found items)) (AllDone s)

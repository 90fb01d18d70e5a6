-- Whether each fault of a process was counted by its device.
use Rattle.std.specs.Prelude.{◌≡◌, ◌≤◌, ◌<◌, ◌⊎◌}
use Rattle.solo_base.specs.declared.outcome.Outcome.TheVariants as outcome
use Rattle.solo_base.specs.declared.outcome.Cause.TheVariants as cause
use Rattle.solo_devices.specs.Count.{Rose}
use Rattle.solo_devices.specs.CardUnit.{byte_limit}
use Rattle.batch_ends.specs.declared.ends.Outcomes.{Outcomes}
use Rattle.batch_ends.specs.declared.ends.Ran.{Ran}
use Rattle.batch_ends.specs.declared.units.Units.{Units}
use Rattle.batch_ends.specs.Causes.{Counts}

-- Where a process has a fault of its device, this device has counted it since. The limit is told exactly
-- where too many bytes were taken since. The job process uses both spools and the files. No count falls.
pub record AreCounted {S K F A B : Type 0} (counts : Counts S K F A B) (before now : Units S K F A B)
    (outcomes : Outcomes) : Type 0 where
  pub read : outcomes.card ≡ outcome.Fault cause.ReadFault
      → Rose (counts.read_faults before.deck.source) (counts.read_faults now.deck.source)
  pub limit : outcomes.card ≡ outcome.Fault cause.DeckLimit → byte_limit < counts.taken now.deck.source
  pub longer : counts.taken before.deck.source ≤ byte_limit → byte_limit < counts.taken now.deck.source
      → outcomes.card ≡ outcome.Fault cause.DeckLimit
  pub input : outcomes.input ≡ outcome.Fault cause.DiskFault
      → Rose (counts.input_faults before.input) (counts.input_faults now.input)
  pub job : outcomes.job ≡ outcome.Fault cause.DiskFault
      → Rose (counts.input_faults before.input) (counts.input_faults now.input)
      ⊎ Rose (counts.output_faults before.output) (counts.output_faults now.output)
      ⊎ Rose (counts.file_faults before.files) (counts.file_faults now.files)
  pub output : outcomes.output ≡ outcome.Fault cause.DiskFault
      → Rose (counts.output_faults before.output) (counts.output_faults now.output)
  pub print : outcomes.printer ≡ outcome.Fault cause.PrintFault
      → Rose (counts.print_faults before.paper.sink) (counts.print_faults now.paper.sink)
  pub read_on : counts.read_faults before.deck.source ≤ counts.read_faults now.deck.source
  pub print_on : counts.print_faults before.paper.sink ≤ counts.print_faults now.paper.sink
  pub files_on : counts.file_faults before.files ≤ counts.file_faults now.files
  pub input_on : counts.input_faults before.input ≤ counts.input_faults now.input
  pub output_on : counts.output_faults before.output ≤ counts.output_faults now.output

-- once all five have ended
abbrev pub FaultsAreCounted : {S K F A B : Type 0} → Counts S K F A B → Units S K F A B → Ran S K F A B
    → Type 0
FaultsAreCounted counts before ran = AreCounted counts before ran.units ran.outcomes

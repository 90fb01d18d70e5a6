-- Devices that counted no failure.
use Rattle.std.specs.Prelude.{◌≡◌, ◌≤◌, ℕ}
use Rattle.solo_base.specs.declared.outcome.Outcome.TheVariants as outcome
use Rattle.solo_base.specs.declared.outcome.Cause.TheVariants as cause
use Rattle.solo_devices.specs.Count.{Stayed}
use Rattle.solo_devices.specs.CardUnit.{byte_limit}
use Rattle.core_law.specs.Ends.{IsProcess}
use Rattle.batch_ends.specs.Causes.{Counts}
use Rattle.batch_ends.specs.Ended.{outcome_at}
use Rattle.batch_ends.specs.declared.ends.Outcomes.{Outcomes}
use Rattle.batch_ends.specs.declared.units.Units.{Units}

-- No count rose, and no more bytes were taken than the limit allows.
pub record NoneCounted {S K F A B : Type 0} (counts : Counts S K F A B) (before now : Units S K F A B)
    : Type 0 where
  pub read : Stayed (counts.read_faults before.deck.source) (counts.read_faults now.deck.source)
  pub print : Stayed (counts.print_faults before.paper.sink) (counts.print_faults now.paper.sink)
  pub input : Stayed (counts.input_faults before.input) (counts.input_faults now.input)
  pub output : Stayed (counts.output_faults before.output) (counts.output_faults now.output)
  pub files : Stayed (counts.file_faults before.files) (counts.file_faults now.files)
  pub within : counts.taken now.deck.source ≤ byte_limit

-- Memory was refused to none of the five.
abbrev pub NoneLacked : Outcomes → Type 0
NoneLacked outcomes = (p : ℕ) → IsProcess p → outcome_at outcomes p ≡ outcome.Fault cause.NoMemory → ⊥

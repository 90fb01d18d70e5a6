-- Whether each fault of a process was counted by its device, in a call of its own.
use Rattle.std.specs.Prelude.{◌≡◌, ◌≤◌, ◌<◌, ◌+◌, ◌==◌, ◌⊎◌, ℕ, if◌then◌else◌, false, Option, Some}
use Rattle.solo_base.specs.declared.outcome.Outcome.TheVariants as outcome
use Rattle.solo_base.specs.declared.outcome.Cause.TheVariants as cause
use Rattle.solo_base.specs.declared.outcome.Side.TheVariants.{Sender, Receiver}
use Rattle.solo_devices.specs.Count.{raised, Rose}
use Rattle.solo_devices.specs.CardUnit.{byte_limit}
use Rattle.place_law.specs.Ending.{outcome_by}
use Rattle.twin_law.specs.Twin.{seat, IsProcess}
use Rattle.twin_ends.specs.declared.units.TwinOutcomes.{TwinOutcomes}
use Rattle.twin_ends.specs.declared.units.TwinUnits.{TwinUnits}
use Rattle.twin_ends.specs.TwinTells.{TwinCounts}
use Rattle.twin_net.specs.declared.net.TwinNet.{TwinNet}
use Rattle.twin_net.specs.TwinStands.{shared_units}
use Rattle.twin_net.specs.Causes.{spool_faults}
use Rattle.twin_net.specs.Ended.{twin_outcome_at}

-- ---- where a call of the disk failed
-- at the spool of a number, or at the files
pub data DiskPlace : Type 0 where
  AtSpool : ℕ → DiskPlace
  AtFiles : DiskPlace

abbrev pub IsSpool : ℕ → Type 0
IsSpool b = (2 ≤ b) × (b ≤ 5)

-- A process calls there: it sits at the spool, or works on jobs.
abbrev pub IsOwnPlace : ℕ → DiskPlace → Type 0
IsOwnPlace p (AtSpool b) = IsSpool b × ((seat b Sender ≡ p) ⊎ (seat b Receiver ≡ p))
IsOwnPlace p AtFiles = (p ≡ 3) ⊎ (p ≡ 4)

abbrev pub met_here : ℕ → Option DiskPlace → ℕ
met_here b (Some (AtSpool n)) = if b == n then 1 else 0
met_here b other = 0

-- how many of the four that use the disk met a fault at a spool
abbrev pub met_at : ℕ → (ℕ → Option DiskPlace) → ℕ
met_at b met = met_here b (met 2) + met_here b (met 3) + met_here b (met 4) + met_here b (met 5)

-- Each process that ended with a fault of the disk met it in a call of its own: at each spool as many
-- failures were counted since as processes met theirs there, and at the files one where any did.
pub record DiskFaultsAreOwn {S K F A : Type 0} (counts : TwinCounts S K F A) (before now : TwinUnits S K F A)
    (outcomes : TwinOutcomes) : Type 0 where
  pub met : ℕ → Option DiskPlace
  pub own : (p : ℕ) → IsProcess p → twin_outcome_at outcomes p ≡ outcome.Fault cause.DiskFault
      → (place : DiskPlace) × (met p ≡ Some place) × IsOwnPlace p place
  pub spools : (b : ℕ) → IsSpool b
      → raised (spool_faults counts before b) (met_at b met) ≤ spool_faults counts now b
  pub files : (p : ℕ) → met p ≡ Some AtFiles
      → Rose (counts.file_faults before.files) (counts.file_faults now.files)

-- Where a process has a fault of its device, this device has counted it since. The limit is told exactly
-- where too many bytes were taken since. No count falls.
pub record TwinFaultsAreCounted {S K F A : Type 0} (counts : TwinCounts S K F A)
    (before now : TwinUnits S K F A) (outcomes : TwinOutcomes) : Type 0 where
  pub read : outcomes.card ≡ outcome.Fault cause.ReadFault
      → Rose (counts.read_faults before.deck.source) (counts.read_faults now.deck.source)
  pub limit : outcomes.card ≡ outcome.Fault cause.DeckLimit → byte_limit < counts.taken now.deck.source
  pub longer : counts.taken before.deck.source ≤ byte_limit → byte_limit < counts.taken now.deck.source
      → outcomes.card ≡ outcome.Fault cause.DeckLimit
  pub disk : DiskFaultsAreOwn counts before now outcomes
  pub print : outcomes.printer ≡ outcome.Fault cause.PrintFault
      → Rose (counts.print_faults before.paper.sink) (counts.print_faults now.paper.sink)
  pub read_on : counts.read_faults before.deck.source ≤ counts.read_faults now.deck.source
  pub print_on : counts.print_faults before.paper.sink ≤ counts.print_faults now.paper.sink
  pub files_on : counts.file_faults before.files ≤ counts.file_faults now.files
  pub spools_on : (b : ℕ) → spool_faults counts before b ≤ spool_faults counts now b

-- ---- on the way to the end
-- how each of the six ends with the cause to stop that it has now, or with none
abbrev pub outcomes_now : {X S K F A : Type 0} → TwinNet X S K F A → TwinOutcomes
outcomes_now net = record {
  card = outcome_by net.card.cause;
  input = outcome_by net.input.cause;
  job_a = outcome_by net.job_a.cause;
  job_b = outcome_by net.job_b.cause;
  output = outcome_by net.output.cause;
  printer = outcome_by net.printer.cause;
}

-- The faults so far were counted, and where the files are asked no more a load failed.
pub record CountedSoFar {X S K F A : Type 0} (counts : TwinCounts S K F A) (before : TwinUnits S K F A)
    (net : TwinNet X S K F A) : Type 0 where
  pub faults : TwinFaultsAreCounted counts before (shared_units net.shared) (outcomes_now net)
  pub unsound : net.shared.sound ≡ false
      → Rose (counts.file_faults before.files) (counts.file_faults net.shared.files)

-- Whether each fault of a process was counted by its device, and whether the job process met its own.
use Rattle.std.specs.Prelude.{◌≡◌, ◌≤◌, ◌⊎◌, ℕ, ◌+◌}
use Rattle.solo_base.specs.declared.outcome.Outcome.{Outcome}
use Rattle.solo_base.specs.declared.outcome.Outcome.TheVariants as outcome
use Rattle.solo_base.specs.declared.outcome.Cause.TheVariants as cause
use Rattle.solo_devices.specs.Count.{raised, Rose}
use Rattle.batch_procs.specs.Causes.{caused}
use Rattle.batch_procs.specs.Jobs.{Jobs}
use Rattle.core_law.specs.Core.{CoreState}
use Rattle.core_law.specs.Ends.{outcome_by}
use Rattle.batch_ends.specs.declared.ends.Outcomes.{Outcomes}
use Rattle.batch_ends.specs.declared.units.Units.{Units}
use Rattle.batch_ends.specs.Causes.{Counts}
use Rattle.batch_ends.specs.Faults.{AreCounted}
use Rattle.batch_ends.specs.Tells.{Tells}
use Rattle.net_core.specs.declared.net.Net.{Net}
use Rattle.net_core.specs.declared.shared.Shared.{Shared}
use Rattle.net_core.specs.Net.{Keeps, NetStands}

-- the devices that the five share
abbrev pub units_of : {X S K F A B : Type 0} → Shared X S K F A B → Units S K F A B
units_of shared = record {
  deck = shared.deck;
  paper = shared.paper;
  files = shared.files;
  input = shared.input.area;
  output = shared.output.area;
}

-- ---- whose failure it was
-- 1 where a process ended with a fault of the disk
abbrev pub disk_fault : Outcome → ℕ
disk_fault (outcome.Fault cause.DiskFault) = 1
disk_fault other = 0

-- The job process met its fault of the disk in a call of its own: at one of the spools a failure was counted
-- beside the one of the other process there, or at the files.
abbrev pub JobFaultIsOwn : {S K F A B : Type 0} → Counts S K F A B → Units S K F A B → Units S K F A B
    → Outcomes → Type 0
JobFaultIsOwn counts before now outcomes =
    outcomes.job ≡ outcome.Fault cause.DiskFault
    → (raised (counts.input_faults before.input) (disk_fault outcomes.input + 1)
    ≤ counts.input_faults now.input)
    ⊎ (raised (counts.output_faults before.output) (disk_fault outcomes.output + 1)
    ≤ counts.output_faults now.output)
    ⊎ Rose (counts.file_faults before.files) (counts.file_faults now.files)

-- Each fault was counted, and that of the job process was its own.
pub record AreMet {S K F A B : Type 0} (counts : Counts S K F A B) (before now : Units S K F A B)
    (outcomes : Outcomes) : Type 0 where
  pub counted : AreCounted counts before now outcomes
  pub own : JobFaultIsOwn counts before now outcomes

-- ---- on the way to the end
-- how each of the five ends with the cause to stop that it has in this state, or with none
abbrev pub outcomes_in : {L : Type 0} → CoreState L → Outcomes
outcomes_in s = record {
  card = outcome_by (caused (s.histories 1));
  input = outcome_by (caused (s.histories 2));
  job = outcome_by (caused (s.histories 3));
  output = outcome_by (caused (s.histories 4));
  printer = outcome_by (caused (s.histories 5));
}

-- The faults of each state that the network stands for were met and counted since.
abbrev pub CausesAreCounted : {L X S K F A B : Type 0} → Jobs L → Keeps L X → Tells L S K F A B
    → Counts S K F A B → Units S K F A B → Net X S K F A B → Type 0
CausesAreCounted {L} J keeps tells counts before net =
    (s : CoreState L) → NetStands J keeps tells net s
    → AreMet counts before (units_of net.shared) (outcomes_in s)

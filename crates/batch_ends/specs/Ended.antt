-- How a run of the five ended, once all have.
use Rattle.std.specs.Prelude.{◌≡◌, ◌≢◌, ◌↔◌, ◌==◌, ◌-◌, ◌⊎◌, ℕ, List, [], ◌∷◌, Option, None, Some, if◌then◌else◌}
use Rattle.solo_base.specs.declared.outcome.Side.{Side}
use Rattle.solo_base.specs.declared.outcome.Outcome.{Outcome}
use Rattle.solo_base.specs.declared.outcome.Outcome.TheVariants as outcome
use Rattle.solo_base.specs.declared.outcome.Cause.{Cause}
use Rattle.solo_base.specs.declared.outcome.Cause.TheVariants as cause
use Rattle.queue_var.specs.Sides.{other}
use Rattle.batch_procs.specs.Faults.{IsDamaged}
use Rattle.core_law.specs.Core.{IsBuffer, seat}
use Rattle.core_law.specs.Ends.{IsProcess}
use Rattle.batch_ends.specs.declared.ends.Outcomes.{Outcomes}

-- the outcome of a process, by its number
abbrev pub outcome_at : Outcomes → ℕ → Outcome
outcome_at outcomes p =
    if p == 1 then outcomes.card
    else if p == 2 then outcomes.input
    else if p == 3 then outcomes.job
    else if p == 4 then outcomes.output
    else outcomes.printer

-- all five did their work
abbrev pub all_done : Outcomes
all_done = record {
  card = outcome.Done;
  input = outcome.Done;
  job = outcome.Done;
  output = outcome.Done;
  printer = outcome.Done;
}

-- no buffer was stopped
abbrev pub none_stopped : List (Option Side)
none_stopped = None ∷ None ∷ None ∷ None ∷ []

-- the side that stopped a buffer first, by its number
abbrev pub stopped_at : List (Option Side) → ℕ → Option Side
stopped_at [] b = None
stopped_at (first ∷ later) b = if b == 1 then first else stopped_at later (b - 1)

-- one of its buffers was first stopped by the other side
pub record StoppedBeside (stops : List (Option Side)) (p : ℕ) : Type 0 where
  pub buffer : ℕ
  pub side : Side
  pub is_buffer : IsBuffer buffer
  pub seated : seat buffer side ≡ p
  pub by : stopped_at stops buffer ≡ Some (other side)

-- Some process ended with a fault.
pub record SomeFault (outcomes : Outcomes) : Type 0 where
  pub process : ℕ
  pub cause : Cause
  pub one : IsProcess process
  pub is : outcome_at outcomes process ≡ outcome.Fault cause

-- All are done exactly where no buffer was stopped. Who ended Stopped had the other side stop one of its
-- buffers first, and then some process ended with a fault.
pub record EndTogether (outcomes : Outcomes) (stops : List (Option Side)) : Type 0 where
  pub done : (outcomes ≡ all_done) ↔ (stops ≡ none_stopped)
  pub stopped : (p : ℕ) → IsProcess p → outcome_at outcomes p ≡ outcome.Stopped
      → StoppedBeside stops p × SomeFault outcomes

-- None ended with a page that was damaged.
abbrev pub NoneDamaged : Outcomes → Type 0
NoneDamaged outcomes =
    (p : ℕ) (c : Cause) → IsProcess p → outcome_at outcomes p ≡ outcome.Fault c → IsDamaged c → ⊥

-- The numbers of a damaged page: it has another place in its stream exactly where the first of its bytes is
-- the first that is wrong.
abbrev pub TellsWhere : Cause → Type 0
TellsWhere (cause.Damaged expected found at) = (found ≢ expected) ↔ (at ≡ 0)
TellsWhere other = Unit {0}

-- Each process has only faults of its own, and the numbers of a damaged page agree.
pub record FaultsAre (outcomes : Outcomes) : Type 0 where
  pub card : (c : Cause) → outcomes.card ≡ outcome.Fault c → (c ≡ cause.ReadFault) ⊎ (c ≡ cause.DeckLimit)
  pub input : (c : Cause) → outcomes.input ≡ outcome.Fault c → c ≡ cause.DiskFault
  pub job : (c : Cause) → outcomes.job ≡ outcome.Fault c
      → (c ≡ cause.DiskFault) ⊎ (IsDamaged c ⊎ (c ≡ cause.NoMemory))
  pub output : (c : Cause) → outcomes.output ≡ outcome.Fault c → (c ≡ cause.DiskFault) ⊎ IsDamaged c
  pub printer : (c : Cause) → outcomes.printer ≡ outcome.Fault c
      → (c ≡ cause.PrintFault) ⊎ (c ≡ cause.NoMemory)
  pub numbers : (p : ℕ) (c : Cause) → IsProcess p → outcome_at outcomes p ≡ outcome.Fault c → TellsWhere c

-- How the network ended, once all six have.
use Rattle.std.specs.Prelude.{◌≡◌, ◌⊎◌, ◌==◌, ℕ, if◌then◌else◌, List, [], ◌∷◌, Option, Some}
use Rattle.solo_base.specs.declared.outcome.Side.{Side}
use Rattle.solo_base.specs.declared.outcome.Outcome.{Outcome}
use Rattle.solo_base.specs.declared.outcome.Outcome.TheVariants as outcome
use Rattle.solo_base.specs.declared.outcome.Cause.{Cause}
use Rattle.solo_base.specs.declared.outcome.Cause.TheVariants as cause
use Rattle.queue_var.specs.Sides.{stopped_by, other}
use Rattle.batch_procs.specs.Faults.{IsDamaged}
use Rattle.batch_procs.specs.Jobs.{Jobs}
use Rattle.batch_ends.specs.Ended.{stopped_at, TellsWhere}
use Rattle.network_run.specs.Law.{Placed, AllEnded}
use Rattle.twin_law.specs.Process.{caused}
use Rattle.twin_law.specs.Table.{process}
use Rattle.twin_law.specs.Twin.{seat, TwinState, IsBuffer, IsProcess}
use Rattle.twin_law.specs.TheLaw.{the_law}
use Rattle.twin_law.specs.Outcomes.{HasEndedSo, GivenBy}
use Rattle.twin_ends.specs.declared.units.TwinOutcomes.{TwinOutcomes}

-- The value stands for some reached state in which all six have ended.
pub record TwinHaveEnded {L : Type 0} (J : Jobs L) (Stands : TwinState L → Type 0) : Type 0 where
  pub at : Placed (the_law J) Stands
  pub all : AllEnded (the_law J) at.state

-- the outcome of a process, by its number
abbrev pub twin_outcome_at : TwinOutcomes → ℕ → Outcome
twin_outcome_at outcomes p =
    if p == 1 then outcomes.card else if p == 2 then outcomes.input else if p == 3 then outcomes.job_a
    else if p == 4 then outcomes.job_b else if p == 5 then outcomes.output else outcomes.printer

-- all six did their work
abbrev pub twin_all_done : TwinOutcomes
twin_all_done = record {
  card = outcome.Done;
  input = outcome.Done;
  job_a = outcome.Done;
  job_b = outcome.Done;
  output = outcome.Done;
  printer = outcome.Done;
}

-- the sides that stopped the six buffers first
abbrev pub six_sides : {L : Type 0} → TwinState L → List (Option Side)
six_sides s =
    stopped_by (s.buffers 1).sides ∷ stopped_by (s.buffers 2).sides ∷ stopped_by (s.buffers 3).sides
    ∷ stopped_by (s.buffers 4).sides ∷ stopped_by (s.buffers 5).sides ∷ stopped_by (s.buffers 6).sides ∷ []

-- Each process ended so in this state, one with a cause by an entry that gave it, and the buffers were first
-- stopped by these sides.
pub record TwinEndsSo {L : Type 0} (J : Jobs L) (s : TwinState L) (outcomes : TwinOutcomes)
    (stops : List (Option Side)) : Type 0 where
  pub ended : (p : ℕ) → IsProcess p → HasEndedSo s (twin_outcome_at outcomes p) p
  pub given : (p : ℕ) (how : Outcome) → IsProcess p → caused (process J p) (s.histories p) ≡ Some how
      → (twin_outcome_at outcomes p ≡ how) × GivenBy (process J p) how (s.histories p)
  pub first : stops ≡ six_sides s

-- one of its buffers was first stopped by the other side
pub record TwinStoppedBeside (stops : List (Option Side)) (p : ℕ) : Type 0 where
  pub buffer : ℕ
  pub side : Side
  pub is_buffer : IsBuffer buffer
  pub seated : seat buffer side ≡ p
  pub by : stopped_at stops buffer ≡ Some (other side)

-- Who ended Stopped had the other side stop one of its buffers first.
abbrev pub TwinStoppedSo : TwinOutcomes → List (Option Side) → Type 0
TwinStoppedSo outcomes stops =
    (p : ℕ) → IsProcess p → twin_outcome_at outcomes p ≡ outcome.Stopped → TwinStoppedBeside stops p

-- Some process ended with a fault.
pub record TwinSomeFault (outcomes : TwinOutcomes) : Type 0 where
  pub process : ℕ
  pub cause : Cause
  pub one : IsProcess process
  pub is : twin_outcome_at outcomes process ≡ outcome.Fault cause

-- Where any ended Stopped, some process ended with a fault.
abbrev pub TwinTogether : TwinOutcomes → Type 0
TwinTogether outcomes =
    (p : ℕ) → IsProcess p → twin_outcome_at outcomes p ≡ outcome.Stopped → TwinSomeFault outcomes

-- None ended with a page that was damaged.
abbrev pub TwinNoneDamaged : TwinOutcomes → Type 0
TwinNoneDamaged outcomes =
    (p : ℕ) (c : Cause) → IsProcess p → twin_outcome_at outcomes p ≡ outcome.Fault c → IsDamaged c → ⊥

-- Each process has only faults of its own, and the numbers of a damaged page agree.
pub record TwinFaultsAre (outcomes : TwinOutcomes) : Type 0 where
  pub card : (c : Cause) → outcomes.card ≡ outcome.Fault c → (c ≡ cause.ReadFault) ⊎ (c ≡ cause.DeckLimit)
  pub input : (c : Cause) → outcomes.input ≡ outcome.Fault c → c ≡ cause.DiskFault
  pub job_a : (c : Cause) → outcomes.job_a ≡ outcome.Fault c
      → (c ≡ cause.DiskFault) ⊎ (IsDamaged c ⊎ (c ≡ cause.NoMemory))
  pub job_b : (c : Cause) → outcomes.job_b ≡ outcome.Fault c
      → (c ≡ cause.DiskFault) ⊎ (IsDamaged c ⊎ (c ≡ cause.NoMemory))
  pub output : (c : Cause) → outcomes.output ≡ outcome.Fault c → (c ≡ cause.DiskFault) ⊎ IsDamaged c
  pub printer : (c : Cause) → outcomes.printer ≡ outcome.Fault c
      → (c ≡ cause.PrintFault) ⊎ (c ≡ cause.NoMemory)
  pub numbers : (p : ℕ) (c : Cause) → IsProcess p → twin_outcome_at outcomes p ≡ outcome.Fault c
      → TellsWhere c

-- How the processes end: who was told of a stop, and where the faults come from.
use Rattle.std.specs.Prelude.{◌≡◌, ◌⊎◌, ◌≤◌, ℕ, Option, None, Some}
use Rattle.solo_base.specs.declared.outcome.Side.{Side}
use Rattle.solo_base.specs.declared.outcome.Outcome.{Outcome}
use Rattle.solo_base.specs.declared.outcome.Outcome.TheVariants as outcome
use Rattle.solo_base.specs.declared.outcome.Cause.{Cause}
use Rattle.solo_base.specs.declared.outcome.Cause.TheVariants as cause
use Rattle.queue_var.specs.Sides.{stopped_by, other}
use Rattle.solo_devices.specs.declared.card_read.CardRead.TheVariants as read
use Rattle.batch_procs.specs.declared.actions.Action.TheVariants as act
use Rattle.batch_procs.specs.declared.actions.Reply.TheVariants as reply
use Rattle.batch_procs.specs.History.{Entry, Does, LacksMemory, newest}
use Rattle.batch_procs.specs.Faults.{GivenBy, IsDamaged}
use Rattle.batch_procs.specs.Laws.{IsNotDone}
use Rattle.core_law.specs.Core.{CoreState, IsBuffer, seat}

abbrev pub IsProcess : ℕ → Type 0
IsProcess p = (1 ≤ p) × (p ≤ 5)

abbrev pub HasEndedSo : {L : Type 0} → CoreState L → Outcome → ℕ → Type 0
HasEndedSo s how p = newest (s.histories p) ≡ Some (act.Ended how)

abbrev pub HasEnded : {L : Type 0} → CoreState L → ℕ → Type 0
HasEnded s p = (how : Outcome) × HasEndedSo s how p

-- all five ended with their work done
abbrev pub AllDone : {L : Type 0} → CoreState L → Type 0
AllDone s = (p : ℕ) → IsProcess p → HasEndedSo s outcome.Done p

-- how one ends that has this cause to stop, or none
abbrev pub outcome_by : Option Outcome → Outcome
outcome_by None = outcome.Done
outcome_by (Some how) = how

-- the other side of one of its buffers was the first to stop it
pub record WasTold {L : Type 0} (s : CoreState L) (p : ℕ) : Type 0 where
  pub buffer : ℕ
  pub side : Side
  pub is_buffer : IsBuffer buffer
  pub seated : seat buffer side ≡ p
  pub by : stopped_by (s.buffers buffer).sides ≡ Some (other side)

-- Where all have ended: all are done exactly where no buffer was stopped; who ended Stopped was told so at a
-- buffer, and then some process ended with a fault.
pub record EndsTogether {L : Type 0} (s : CoreState L) : Type 0 where
  pub done : AllDone s → (b : ℕ) → IsBuffer b → stopped_by (s.buffers b).sides ≡ None
  pub unstopped : ((b : ℕ) → IsBuffer b → stopped_by (s.buffers b).sides ≡ None) → (p : ℕ) (how : Outcome)
      → IsProcess p → HasEndedSo s how p → how ≡ outcome.Done
  pub stopped : ((p : ℕ) → IsProcess p → HasEnded s p) → (p : ℕ) → IsProcess p
      → HasEndedSo s outcome.Stopped p
      → WasTold s p × ((q : ℕ) × (cause : Cause) × IsProcess q × HasEndedSo s (outcome.Fault cause) q)

-- ---- causes
-- Each process that isn't done has the entry that gave its cause, and each fault is one of its own.
pub record HaveCauses {L : Type 0} (s : CoreState L) : Type 0 where
  pub given : (p : ℕ) (how : Outcome) → IsProcess p → HasEndedSo s how p → IsNotDone (Some how)
      → GivenBy (s.histories p) how
  pub card : (c : Cause) → HasEndedSo s (outcome.Fault c) 1 → (c ≡ cause.ReadFault) ⊎ (c ≡ cause.DeckLimit)
  pub input : (c : Cause) → HasEndedSo s (outcome.Fault c) 2 → c ≡ cause.DiskFault
  pub job : (c : Cause) → HasEndedSo s (outcome.Fault c) 3
      → (c ≡ cause.DiskFault) ⊎ (IsDamaged c ⊎ (c ≡ cause.NoMemory))
  pub output : (c : Cause) → HasEndedSo s (outcome.Fault c) 4 → (c ≡ cause.DiskFault) ⊎ IsDamaged c
  pub printer : (c : Cause) → HasEndedSo s (outcome.Fault c) 5
      → (c ≡ cause.PrintFault) ⊎ (c ≡ cause.NoMemory)

-- ---- never stuck
-- an entry in which no device failed and no memory was refused
abbrev pub IsSmooth : {L : Type 0} → Entry L → Type 0
IsSmooth (Does action reply.Failed) = ⊥
IsSmooth (Does action reply.NoMemory) = ⊥
IsSmooth (Does action (reply.Card read.Failed)) = ⊥
IsSmooth (Does action (reply.Card read.Limit)) = ⊥
IsSmooth (LacksMemory action r) = ⊥
IsSmooth entry = Unit {0}

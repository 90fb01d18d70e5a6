-- How the processes end, and why: the cause of each, the entry that gave it, and which faults are whose.
use Rattle.std.specs.Prelude.{◌≡◌, ◌⊎◌, ℕ, true, List, [], ◌∷◌, Option, None, Some}
use Rattle.std.specs.List.{AllByRecursion}
use Rattle.batch_procs.specs.Faults.{IsDamaged}
use Rattle.place_law.specs.Ending.{outcome_by}
use Rattle.solo_base.specs.declared.outcome.Outcome.{Outcome}
use Rattle.solo_base.specs.declared.outcome.Cause.{Cause}
use Rattle.batch_procs.specs.Jobs.{Jobs}
use Rattle.place_law.specs.Process.{Does, LacksMemory, Delays, or_new}
use Rattle.solo_base.specs.declared.outcome.Outcome.TheVariants as outcome
use Rattle.solo_base.specs.declared.outcome.Cause.TheVariants as cause
use Rattle.twin_law.specs.Process.{Action, Ended, Entry, Finishes, Process, place, aim, given_cause, caused, has_stopped}
use Rattle.twin_law.specs.Table.{process}
use Rattle.twin_law.specs.Twin.{TwinState, IsProcess}

-- how an action ends its process, if it does
abbrev pub ends_as : Action → Option Outcome
ends_as (Ended how) = Some how
ends_as a = None

-- how one ended; none while it goes on
abbrev pub how_ended : {L : Type 0} → List (Entry L) → Option Outcome
how_ended [] = None
how_ended (Does action r ∷ before) = or_new (how_ended before) (ends_as action)
how_ended (LacksMemory action r ∷ before) = how_ended before
how_ended (Delays action ∷ before) = how_ended before

abbrev pub HasEndedSo : {L : Type 0} → TwinState L → Outcome → ℕ → Type 0
HasEndedSo s how p = how_ended (s.histories p) ≡ Some how

-- all six ended with their work done
abbrev pub AllDone : {L : Type 0} → TwinState L → Type 0
AllDone s = (p : ℕ) → IsProcess p → HasEndedSo s outcome.Done p

abbrev pub AreStopped : {L : Type 0} → List ℕ → List (Entry L) → Type 0
AreStopped buffers h = AllByRecursion (λ b. has_stopped b h ≡ true) buffers

-- It ended as its cause says; without one where it had done all its work, behind the stops of its spools;
-- with one behind the stops of all its buffers.
pub record EndsRightly {L : Type 0} (p : Process L) (h : List (Entry L)) (how : Outcome) : Type 0 where
  pub by_cause : outcome_by (caused p h) ≡ how
  pub done : caused p h ≡ None → (aim p h ≡ Finishes) × AreStopped p.spools h
  pub closed : (why : Outcome) → caused p h ≡ Some why → AreStopped p.buffers h

-- Some process has a fault.
abbrev pub HasAFault : {L : Type 0} → Jobs L → TwinState L → Type 0
HasAFault J s = (p : ℕ) × (c : Cause) × IsProcess p
    × (caused (process J p) (s.histories p) ≡ Some (outcome.Fault c))

-- This entry of its history gave it the cause: it had none before.
abbrev pub GivenBy : {L : Type 0} → Process L → Outcome → List (Entry L) → Type 0
GivenBy p how [] = ⊥
GivenBy p how (Does action r ∷ before) =
    ((caused p before ≡ None) × (given_cause p (place p before) action r ≡ Some how)) ⊎ GivenBy p how before
GivenBy p how (LacksMemory action r ∷ before) =
    ((caused p before ≡ None) × (how ≡ outcome.Fault cause.NoMemory)) ⊎ GivenBy p how before
GivenBy p how (Delays action ∷ before) = GivenBy p how before

-- Each cause was given by an entry, and each fault is one of its process's own.
pub record HaveCauses {L : Type 0} (J : Jobs L) (s : TwinState L) : Type 0 where
  pub given : (p : ℕ) (how : Outcome) → IsProcess p → caused (process J p) (s.histories p) ≡ Some how
      → GivenBy (process J p) how (s.histories p)
  pub card : (c : Cause) → caused (process J 1) (s.histories 1) ≡ Some (outcome.Fault c)
      → (c ≡ cause.ReadFault) ⊎ (c ≡ cause.DeckLimit)
  pub input : (c : Cause) → caused (process J 2) (s.histories 2) ≡ Some (outcome.Fault c)
      → c ≡ cause.DiskFault
  pub job_a : (c : Cause) → caused (process J 3) (s.histories 3) ≡ Some (outcome.Fault c)
      → (c ≡ cause.DiskFault) ⊎ (IsDamaged c ⊎ (c ≡ cause.NoMemory))
  pub job_b : (c : Cause) → caused (process J 4) (s.histories 4) ≡ Some (outcome.Fault c)
      → (c ≡ cause.DiskFault) ⊎ (IsDamaged c ⊎ (c ≡ cause.NoMemory))
  pub output : (c : Cause) → caused (process J 5) (s.histories 5) ≡ Some (outcome.Fault c)
      → (c ≡ cause.DiskFault) ⊎ IsDamaged c
  pub printer : (c : Cause) → caused (process J 6) (s.histories 6) ≡ Some (outcome.Fault c)
      → (c ≡ cause.PrintFault) ⊎ (c ≡ cause.NoMemory)

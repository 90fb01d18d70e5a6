-- How the processes of a table end, each and together.
use Rattle.std.specs.Prelude.{◌≡◌, ◌⊎◌, ℕ, true, List, [], ◌∷◌, Option, None, Some}
use Rattle.std.specs.List.{AllByRecursion}
use Rattle.solo_base.specs.declared.outcome.Side.{Side}
use Rattle.solo_base.specs.declared.outcome.Outcome.{Outcome}
use Rattle.solo_base.specs.declared.outcome.Outcome.TheVariants as outcome
use Rattle.solo_base.specs.declared.outcome.Cause.{Cause}
use Rattle.solo_base.specs.declared.outcome.Cause.TheVariants as cause
use Rattle.queue_var.specs.Sides.{stopped_by, other}
use Rattle.network_law.specs.Network.{State, IsOne}
use Rattle.place_law.specs.Process.{Entry, Does, LacksMemory, Delays, View, Process, place, caused, given_cause, has_stopped, how_ended}
use Rattle.place_law.specs.Table.{Table, network_of}

-- how one ends that has this cause to stop, or none
abbrev pub outcome_by : Option Outcome → Outcome
outcome_by None = outcome.Done
outcome_by (Some how) = how

-- It ended so: as its cause says; without one at its last place, and with one behind the stops of all its
-- buffers.
pub record EndsRightly {Action Reply Parcel : Type 0} (view : View Action Reply Parcel)
    (p : Process Action Reply) (h : List (Entry Action Reply)) (how : Outcome) : Type 0 where
  pub by_cause : outcome_by (caused view p h) ≡ how
  pub done : caused view p h ≡ None → view.ends (p.does (place p h)) ≡ Some outcome.Done
  pub closed : (why : Outcome) → caused view p h ≡ Some why
      → AllByRecursion (λ b. has_stopped p b h ≡ true) p.buffers

-- This entry of its history gave it the cause: it had none before.
abbrev pub GivenBy : {Action Reply Parcel : Type 0} → View Action Reply Parcel → Process Action Reply
    → Outcome
    → List (Entry Action Reply) → Type 0
GivenBy view p how [] = ⊥
GivenBy view p how (Does action reply ∷ before) =
    ((caused view p before ≡ None) × (given_cause view p (place p before) action reply ≡ Some how))
    ⊎ GivenBy view p how before
GivenBy view p how (LacksMemory action reply ∷ before) =
    ((caused view p before ≡ None) × (how ≡ outcome.Fault cause.NoMemory)) ⊎ GivenBy view p how before
GivenBy view p how (Delays action ∷ before) = GivenBy view p how before

module _ {Devices Action Reply Parcel : Type 0} (t : Table Devices Action Reply Parcel)
    (s : State Devices (Entry Action Reply) Parcel) where
  abbrev pub HasEndedSo : ℕ → Outcome → Type 0
  HasEndedSo p how = how_ended t.view (s.histories p) ≡ Some how

  abbrev pub HasEnded : ℕ → Type 0
  HasEnded p = (how : Outcome) × HasEndedSo p how

  -- all ended with their work done
  abbrev pub AllDone : Type 0
  AllDone = (p : ℕ) → IsOne (network_of t) p → HasEndedSo p outcome.Done

  -- the other side of one of its buffers was the first to stop it
  pub record WasTold (p : ℕ) : Type 0 where
    pub buffer : ℕ
    pub side : Side
    pub seated : t.seat buffer side ≡ p
    pub by : stopped_by (s.buffers buffer).sides ≡ Some (other side)

  -- Who has the cause Stopped was told so at a buffer; and where one has a cause, some process has a fault
  -- for its cause.
  pub record HaveReasons : Type 0 where
    pub told : (p : ℕ) → IsOne (network_of t) p
        → caused t.view (t.process p) (s.histories p) ≡ Some outcome.Stopped → WasTold p
    pub fault : (p : ℕ) (how : Outcome) → IsOne (network_of t) p
        → caused t.view (t.process p) (s.histories p) ≡ Some how
        → (q : ℕ) × (c : Cause) × IsOne (network_of t) q
        × (caused t.view (t.process q) (s.histories q) ≡ Some (outcome.Fault c))

  -- Where all are done no buffer was stopped; who has ended and none of whose buffers was stopped is done.
  -- Where all have ended, who ended Stopped was told so at a buffer, and some process ended with a fault.
  pub record EndsTogether : Type 0 where
    pub done : AllDone → (b : ℕ) → stopped_by (s.buffers b).sides ≡ None
    pub unstopped : (p : ℕ) (how : Outcome) → IsOne (network_of t) p → HasEndedSo p how
        → AllByRecursion (λ b. stopped_by (s.buffers b).sides ≡ None) (t.process p).buffers
        → how ≡ outcome.Done
    pub stopped : ((p : ℕ) → IsOne (network_of t) p → HasEnded p) → (p : ℕ) → IsOne (network_of t) p
        → HasEndedSo p outcome.Stopped
        → WasTold p × ((q : ℕ) × (c : Cause) × IsOne (network_of t) q × HasEndedSo q (outcome.Fault c))

-- How the processes of a row end, and why.
use Rattle.std.specs.Prelude.{◌≡◌, ◌⊎◌, ℕ, true, List, [], ◌∷◌, None, Some}
use Rattle.std.specs.List.{AllByRecursion}
use Rattle.solo_base.specs.declared.outcome.Side.{Side}
use Rattle.solo_base.specs.declared.outcome.Outcome.{Outcome}
use Rattle.solo_base.specs.declared.outcome.Outcome.TheVariants as outcome
use Rattle.solo_base.specs.declared.outcome.Cause.{Cause}
use Rattle.solo_base.specs.declared.outcome.Cause.TheVariants as cause
use Rattle.queue_var.specs.Sides.{stopped_by, other}
use Rattle.network_law.specs.Network.{State, IsOne}
use Rattle.place_law.specs.Process.{Entry, Does, LacksMemory, Delays}
use Rattle.place_law.specs.Ending.{outcome_by}
use Rattle.row_law.specs.Process.{View, Process, place, caused, given_cause, has_stopped, how_ended}
use Rattle.row_law.specs.Row.{Row, network_of}

abbrev pub AreStopped : {Action Reply : Type 0} → Process Action Reply → List (Entry Action Reply) → List ℕ
    → Type 0
AreStopped p h buffers = AllByRecursion (λ b. has_stopped p b h ≡ true) buffers

-- It ended so: as its cause says; without one where it had done all its work, behind the stops of its
-- spools; with one
-- behind the stops of all its buffers.
pub record EndsRightly {Action Reply Parcel : Type 0} (view : View Action Reply Parcel)
    (p : Process Action Reply) (h : List (Entry Action Reply)) (how : Outcome) : Type 0 where
  pub by_cause : outcome_by (caused view p h) ≡ how
  pub done : caused view p h ≡ None → (p.does (place p h) ≡ None) × AreStopped p h p.spools
  pub closed : (why : Outcome) → caused view p h ≡ Some why → AreStopped p h p.buffers

-- This entry of its history gave it the cause: it had none before.
abbrev pub GivenBy : {Action Reply Parcel : Type 0} → View Action Reply Parcel → Process Action Reply
    → Outcome → List (Entry Action Reply) → Type 0
GivenBy view p how [] = ⊥
GivenBy view p how (Does action reply ∷ before) =
    ((caused view p before ≡ None) × (given_cause view p (place p before) action reply ≡ Some how))
    ⊎ GivenBy view p how before
GivenBy view p how (LacksMemory action reply ∷ before) =
    ((caused view p before ≡ None) × (how ≡ outcome.Fault cause.NoMemory)) ⊎ GivenBy view p how before
GivenBy view p how (Delays action ∷ before) = GivenBy view p how before

module _ {Devices Action Reply Parcel : Type 0} (t : Row Devices Action Reply Parcel)
    (s : State Devices (Entry Action Reply) Parcel) where
  abbrev pub HasEndedSo : ℕ → Outcome → Type 0
  HasEndedSo p how = how_ended t.view (s.histories p) ≡ Some how

  abbrev pub HasEnded : ℕ → Type 0
  HasEnded p = (how : Outcome) × HasEndedSo p how

  -- the other side of one of its buffers was the first to stop it
  pub record WasTold (p : ℕ) : Type 0 where
    pub buffer : ℕ
    pub side : Side
    pub seated : t.seat buffer side ≡ p
    pub by : stopped_by (s.buffers buffer).sides ≡ Some (other side)

  abbrev pub HasCause : ℕ → Outcome → Type 0
  HasCause p how = caused t.view (t.process p) (s.histories p) ≡ Some how

  -- Each ends as its cause says; each cause was given by an entry; who has the cause Stopped was told so at a
  -- buffer that the other side was the first to stop.
  pub record EndsByCause : Type 0 where
    pub ends : (p : ℕ) (how : Outcome) → IsOne (network_of t) p → HasEndedSo p how
        → EndsRightly t.view (t.process p) (s.histories p) how
    pub given : (p : ℕ) (how : Outcome) → IsOne (network_of t) p → HasCause p how
        → GivenBy t.view (t.process p) how (s.histories p)
    pub told : (p : ℕ) → IsOne (network_of t) p → HasCause p outcome.Stopped → WasTold p

  -- Where one has a cause, some process has a fault for its cause; where all have ended, some process ended
  -- with it.
  pub record FirstIsAFault : Type 0 where
    pub fault : (p : ℕ) (how : Outcome) → IsOne (network_of t) p → HasCause p how
        → (q : ℕ) × (c : Cause) × IsOne (network_of t) q × HasCause q (outcome.Fault c)
    pub ended : ((p : ℕ) → IsOne (network_of t) p → HasEnded p) → (p : ℕ) → IsOne (network_of t) p
        → HasEndedSo p outcome.Stopped
        → (q : ℕ) × (c : Cause) × IsOne (network_of t) q × HasEndedSo q (outcome.Fault c)

-- What a process of a row does is determined by what it takes and what its devices answer; and so is what
-- goes through
-- the buffers of a row, whatever the order of the events.
use Rattle.std.specs.Prelude.{◌≡◌, ◌⊎◌, ℕ, List, [], ◌∷◌, ◌++◌, length, Option, None, Some}
use Rattle.solo_base.specs.declared.outcome.Side.{Side}
use Rattle.solo_base.specs.declared.outcome.Side.TheVariants.{Sender, Receiver}
use Rattle.solo_base.specs.declared.outcome.Outcome.{Outcome}
use Rattle.solo_base.specs.Prefixes.{IsPrefixOf}
use Rattle.network_law.specs.Acts.{Call, Alone, At, Asks, Gives, moved_by}
use Rattle.network_law.specs.Network.{State, IsOne}
use Rattle.network_law.specs.Kept.{passed}
use Rattle.place_law.specs.Process.{Entry, Does, LacksMemory, Delays}
use Rattle.place_law.specs.Table.{MovesNothing}
use Rattle.row_law.specs.Process.{View, Process, place, given_cause, caused}
use Rattle.row_law.specs.Row.{Row, network_of}
use Rattle.row_law.specs.Waits.{IsDone}

-- one of them is a first part of the other
abbrev pub AreComparable : {T : Type 0} → List T → List T → Type 0
AreComparable xs ys = IsPrefixOf xs ys ⊎ IsPrefixOf ys xs

-- ---- what a process did at its places before it had a cause to stop
pub record Step (Action Reply : Type 0) : Type 0 where
  pub action : Action
  pub reply : Reply

abbrev pub step_if : {Action Reply : Type 0} → Option Outcome → Option Action → Action → Reply
    → List (Step Action Reply)
step_if None (Some does) action reply = record { action = action; reply = reply } ∷ []
step_if None None action reply = []
step_if (Some how) does action reply = []

-- the first of all first
abbrev pub steps : {Action Reply Parcel : Type 0} → View Action Reply Parcel → Process Action Reply
    → List (Entry Action Reply) → List (Step Action Reply)
steps view p [] = []
steps view p (Does action reply ∷ before) =
    steps view p before
    ++ step_if (caused view p (Does action reply ∷ before)) (p.does (place p before)) action reply
steps view p (LacksMemory action reply ∷ before) = steps view p before
steps view p (Delays action ∷ before) = steps view p before

-- what they moved at a side of a buffer, and what the devices answered
abbrev pub moves_of : {Action Reply Parcel : Type 0} → View Action Reply Parcel → Process Action Reply → ℕ
    → Side
    → List (Step Action Reply) → List Parcel
moves_of view p b side [] = []
moves_of view p b side (step ∷ later) =
    moved_by b side (p.calls step.action) (view.went step.action step.reply) ++ moves_of view p b side later

abbrev pub answer_by : {Reply : Type 0} → Call → Reply → List Reply
answer_by Alone reply = reply ∷ []
answer_by (At b side visit) reply = []
answer_by Asks reply = []
answer_by Gives reply = []

abbrev pub answers_of : {Action Reply : Type 0} → Process Action Reply → List (Step Action Reply) → List Reply
answers_of p [] = []
answers_of p (step ∷ later) = answer_by (p.calls step.action) step.reply ++ answers_of p later

-- ---- what is asked of a process
-- this reply may come at this place, and gives no cause
pub record IsClean {Action Reply Parcel : Type 0} (view : View Action Reply Parcel) (p : Process Action Reply)
    (at : p.Place) (action : Action) (reply : Reply) : Type 0 where
  pub does : p.does at ≡ Some action
  pub fits : view.Fits action reply
  pub none : given_cause view p at action reply ≡ None

-- a list of steps each of which may come at its place, and where it leads
abbrev pub RunsFrom : {Action Reply Parcel : Type 0} → View Action Reply Parcel → (p : Process Action Reply)
    → p.Place → List (Step Action Reply) → Type 0
RunsFrom view p at [] = Unit {0}
RunsFrom view p at (step ∷ later) = IsClean view p at step.action step.reply
    × RunsFrom view p (p.behind at step.reply) later

abbrev pub stands_from : {Action Reply : Type 0} → (p : Process Action Reply) → p.Place
    → List (Step Action Reply)
    → p.Place
stands_from p at [] = at
stands_from p at (step ∷ later) = stands_from p (p.behind at step.reply) later

pub record IsDetermined {Action Reply Parcel : Type 0} (view : View Action Reply Parcel)
    (p : Process Action Reply) : Type 0 where
  -- Two replies to one call take as many parcels, and are the same where they take the same and a device
  -- answers the
  -- same.
  pub alike : (at : p.Place) (action : Action) (one two : Reply) → IsClean view p at action one
      → IsClean view p at action two → (b : ℕ)
      → length (moved_by b Receiver (p.calls action) (view.went action one))
      ≡ length (moved_by b Receiver (p.calls action) (view.went action two))
  pub hears : (at : p.Place) (action : Action) (one two : Reply) → IsClean view p at action one
      → IsClean view p at action two
      → ((b : ℕ) → moved_by b Receiver (p.calls action) (view.went action one)
      ≡ moved_by b Receiver (p.calls action) (view.went action two))
      → answer_by (p.calls action) one ≡ answer_by (p.calls action) two → one ≡ two
  -- what gives a cause, lacks memory or stops a buffer puts nothing; a stop takes nothing
  pub puts_not : (at : p.Place) (action : Action) (reply : Reply) (how : Outcome) (b : ℕ)
      → p.does at ≡ Some action
      → view.Fits action reply → given_cause view p at action reply ≡ Some how
      → moved_by b Sender (p.calls action) (view.went action reply) ≡ []
  pub lacks_not : (action : Action) (reply : Reply) (b : ℕ) → view.MayLack action reply
      → moved_by b Sender (p.calls action) (view.went action reply) ≡ []
  pub stop_moves_not : (b : ℕ) (reply : Reply) → MovesNothing (view.went (view.stop b) reply)

-- ---- in a row
module _ {Devices Action Reply Parcel : Type 0} (t : Row Devices Action Reply Parcel) where
  -- what the devices of a process answered it
  abbrev pub answers : State Devices (Entry Action Reply) Parcel → ℕ → List Reply
  answers s p = answers_of (t.process p) (steps t.view (t.process p) (s.histories p))

  -- the devices of each process answered the same in both, as far as they did
  abbrev pub AnswerAlike : State Devices (Entry Action Reply) Parcel
      → State Devices (Entry Action Reply) Parcel
      → Type 0
  AnswerAlike s z = (p : ℕ) → IsOne (network_of t) p → AreComparable (answers s p) (answers z p)

  -- then so is what went into each buffer
  abbrev pub PassAlike : State Devices (Entry Action Reply) Parcel → State Devices (Entry Action Reply) Parcel
      → Type 0
  PassAlike s z = (b : ℕ)
      → AreComparable (passed (network_of t) s b Sender) (passed (network_of t) z b Sender)

  pub record AreDetermined : Type 0 where
    pub processes : (p : ℕ) → IsOne (network_of t) p → IsDetermined t.view (t.process p)
    -- nobody sits at both sides of a buffer
    pub apart : (b : ℕ) → t.seat b Sender ≡ t.seat b Receiver → ⊥

  -- A process alone: steps up to where all its work is done, for a first part of what each of its buffers
  -- gives, and with
  -- all that it is to give.
  pub record WorksAlone (gives : ℕ → List Parcel) (p : ℕ) : Type 0 where
    pub list : List (Step Action Reply)
    pub runs : RunsFrom t.view (t.process p) (t.process p).start list
    pub over : (t.process p).does (stands_from (t.process p) (t.process p).start list) ≡ None
    pub takes : (b : ℕ) → t.seat b Receiver ≡ p
        → IsPrefixOf (moves_of t.view (t.process p) b Receiver list) (gives b)
    pub puts : (b : ℕ) → t.seat b Sender ≡ p → moves_of t.view (t.process p) b Sender list ≡ gives b

  -- the devices of each process answered as when it works alone, as far as they did
  abbrev pub HeardAlone : (gives : ℕ → List Parcel) → ((p : ℕ) → IsOne (network_of t) p → WorksAlone gives p)
      → State Devices (Entry Action Reply) Parcel → Type 0
  HeardAlone gives alone s = (p : ℕ) (one : IsOne (network_of t) p)
      → AreComparable (answers s p) (answers_of (t.process p) (alone p one).list)

  -- What went into each buffer is a first part of what the processes give alone, and all of it where its
  -- sender has
  -- done all its work.
  pub record PassesAsAlone (gives : ℕ
      → List Parcel) (s : State Devices (Entry Action Reply) Parcel) : Type 0 where
    pub first : (b : ℕ) → IsPrefixOf (passed (network_of t) s b Sender) (gives b)
    pub whole : (b : ℕ) → IsOne (network_of t) (t.seat b Sender)
        → IsDone t (t.seat b Sender) (s.histories (t.seat b Sender))
        → passed (network_of t) s b Sender ≡ gives b

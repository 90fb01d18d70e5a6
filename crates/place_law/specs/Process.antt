-- A process by its places: what it does at each, and where it stands behind an answer. What a process does
-- next is a function of its history.
use Rattle.std.specs.Prelude.{◌≡◌, ℕ, ◌==◌, ◌||◌, Bool, true, false, if◌then◌else◌, List, [], ◌∷◌, Option, None, Some}
use Rattle.solo_base.specs.declared.outcome.Outcome.{Outcome}
use Rattle.solo_base.specs.declared.outcome.Outcome.TheVariants as outcome
use Rattle.solo_base.specs.declared.outcome.Cause.{Cause}
use Rattle.solo_base.specs.declared.outcome.Cause.TheVariants as cause
use Rattle.network_law.specs.Acts.{Call, At, Stops, Went, Delayed}

-- An action with its reply; one whose reply came without the memory to use it; or a call that waits.
pub data Entry (Action Reply : Type 0) : Type 0 where
  Does : Action → Reply → Entry Action Reply
  LacksMemory : Action → Reply → Entry Action Reply
  Delays : Action → Entry Action Reply

abbrev pub action_of : {Action Reply : Type 0} → Entry Action Reply → Action
action_of (Does action reply) = action
action_of (LacksMemory action reply) = action
action_of (Delays action) = action

-- How the actions and replies of a network are read.
pub record View (Action Reply Parcel : Type 0) : Type 1 where
  -- how an action went at the monitors, by its reply
  pub went : Action → Reply → Went Parcel
  -- the stop of a buffer, and the end
  pub stop : ℕ → Action
  pub end : Outcome → Action
  -- how an action ends its process, if it does
  pub ends : Action → Option Outcome
  -- why a process stops by a reply, wherever it stands
  pub cause : Action → Reply → Option Outcome
  -- which replies an action may have, which of them may come without the memory to use them, and whether it
  -- may wait
  pub Fits : Action → Reply → Type 0
  pub MayLack : Action → Reply → Type 0
  pub MayWait : Action → Type 0

-- What tells one process from another: where it begins, what it does at a place, where it stands behind an
-- answer, the fault that it finds in one, whether it may lack memory, what its actions are to the monitors,
-- and its buffers in the order in which it stops them.
pub record Process (Action Reply : Type 0) : Type 1 where
  pub Place : Type 0
  pub start : Place
  pub does : Place → Action
  pub behind : Place → Reply → Place
  pub finds : Place → Reply → Option Cause
  pub may_lack : Bool
  pub calls : Action → Call
  pub buffers : List ℕ

-- ---- where it stands
abbrev pub place : {Action Reply : Type 0} → (p : Process Action Reply) → List (Entry Action Reply) → p.Place
place p [] = p.start
place p (Does action reply ∷ before) = p.behind (place p before) reply
place p (LacksMemory action reply ∷ before) = place p before
place p (Delays action ∷ before) = place p before

-- ---- why it stops
abbrev pub fault_in : Option Cause → Option Outcome
fault_in None = None
fault_in (Some c) = Some (outcome.Fault c)

-- the earlier cause stays
abbrev pub or_new : Option Outcome → Option Outcome → Option Outcome
or_new None new = new
or_new (Some how) new = Some how

-- by an action with its reply, at a place
abbrev pub given_cause : {Action Reply Parcel : Type 0} → View Action Reply Parcel
    → (p : Process Action Reply)
    → p.Place → Action → Reply → Option Outcome
given_cause view p at action reply = or_new (view.cause action reply) (fault_in (p.finds at reply))

abbrev pub caused : {Action Reply Parcel : Type 0} → View Action Reply Parcel → Process Action Reply
    → List (Entry Action Reply) → Option Outcome
caused view p [] = None
caused view p (Does action reply ∷ before) =
    or_new (caused view p before) (given_cause view p (place p before) action reply)
caused view p (LacksMemory action reply ∷ before) =
    or_new (caused view p before) (Some (outcome.Fault cause.NoMemory))
caused view p (Delays action ∷ before) = caused view p before

-- ---- the stops, and the end
abbrev pub stops_by : ℕ → Call → Bool
stops_by b (At c side Stops) = b == c
stops_by b call = false

-- whether it has stopped a buffer
abbrev pub has_stopped : {Action Reply : Type 0} → Process Action Reply → ℕ → List (Entry Action Reply) → Bool
has_stopped p b [] = false
has_stopped p b (Does action reply ∷ before) = stops_by b (p.calls action) || has_stopped p b before
has_stopped p b (LacksMemory action reply ∷ before) = has_stopped p b before
has_stopped p b (Delays action ∷ before) = has_stopped p b before

-- how it has ended; none while it goes on
abbrev pub how_ended : {Action Reply Parcel : Type 0} → View Action Reply Parcel → List (Entry Action Reply)
    → Option Outcome
how_ended view [] = None
how_ended view (Does action reply ∷ before) = or_new (how_ended view before) (view.ends action)
how_ended view (LacksMemory action reply ∷ before) = how_ended view before
how_ended view (Delays action ∷ before) = how_ended view before

abbrev pub stops_next : {Action Reply Parcel : Type 0} → View Action Reply Parcel → Process Action Reply
    → List ℕ → Outcome → List (Entry Action Reply) → Action
stops_next view p [] how h = view.end how
stops_next view p (b ∷ later) how h =
    if has_stopped p b h then stops_next view p later how h else view.stop b

-- ---- what comes next
-- with a cause it stops its buffers in order and ends; else it does what it does at its place
abbrev pub next_by : {Action Reply Parcel : Type 0} → View Action Reply Parcel → Process Action Reply
    → Option Outcome → List (Entry Action Reply) → Action
next_by view p None h = p.does (place p h)
next_by view p (Some how) h = stops_next view p p.buffers how h

abbrev pub unless_ended : {Action : Type 0} → Option Outcome → Action → Option Action
unless_ended None action = Some action
unless_ended (Some how) action = None

-- There is none once it has ended.
abbrev pub next_action : {Action Reply Parcel : Type 0} → View Action Reply Parcel → Process Action Reply
    → List (Entry Action Reply) → Option Action
next_action view p h = unless_ended (how_ended view h) (next_by view p (caused view p h) h)

-- ---- which entries it may have, and how they went
abbrev pub EntrySuits : {Action Reply Parcel : Type 0} → View Action Reply Parcel → Process Action Reply
    → Entry Action Reply → Type 0
EntrySuits view p (Does action reply) = view.Fits action reply
EntrySuits view p (LacksMemory action reply) = (p.may_lack ≡ true) × view.MayLack action reply
EntrySuits view p (Delays action) = view.MayWait action

abbrev pub went : {Action Reply Parcel : Type 0} → View Action Reply Parcel → Entry Action Reply → Went Parcel
went view (Does action reply) = view.went action reply
went view (LacksMemory action reply) = view.went action reply
went view (Delays action) = Delayed

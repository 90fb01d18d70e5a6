-- A process by its places: what it does at each, and where it stands behind an answer; with a cause, or
-- where all its
-- work is done, it gives the disk back, stops buffers in order and ends. What it does next is a function of
-- its
-- history.
use Rattle.std.specs.Prelude.{◌≡◌, ℕ, ◌||◌, Bool, true, false, if◌then◌else◌, List, [], ◌∷◌, Option, None, Some}
use Rattle.solo_base.specs.declared.outcome.Outcome.{Outcome}
use Rattle.solo_base.specs.declared.outcome.Outcome.TheVariants as outcome
use Rattle.solo_base.specs.declared.outcome.Cause.{Cause}
use Rattle.solo_base.specs.declared.outcome.Cause.TheVariants as cause
use Rattle.network_law.specs.Acts.{Call, Went, Delayed, holds_by}
use Rattle.place_law.specs.Process.{Entry, Does, LacksMemory, Delays, fault_in, or_new, stops_by, unless_ended}

-- How the actions and replies of a row are read.
pub record View (Action Reply Parcel : Type 0) : Type 1 where
  -- how an action went at the monitors, by its reply
  pub went : Action → Reply → Went Parcel
  -- the disk is given back; the stop of a buffer; the end
  pub give : Action
  pub stop : ℕ → Action
  pub end : Outcome → Action
  -- how an action ends its process, if it does
  pub ends : Action → Option Outcome
  -- why a process stops by a reply, wherever it stands
  pub cause : Action → Reply → Option Outcome
  -- which replies an action may have, which of them may come without the memory to use them, and whether it
  -- may wait
  pub Fits : Action → Reply → Type 0
  pub MayLack : Action → Reply → Type 0
  pub MayWait : Action → Type 0

-- Where it begins, what it does at a place (nothing more where all its work is done), where it stands behind
-- an
-- answer, the fault that it finds in one, whether it may lack memory, what its actions are to the monitors,
-- its
-- buffers, and those of them that it stops where all its work is done, each in order.
pub record Process (Action Reply : Type 0) : Type 1 where
  pub Place : Type 0
  pub start : Place
  pub does : Place → Option Action
  pub behind : Place → Reply → Place
  pub finds : Place → Reply → Option Cause
  pub may_lack : Bool
  pub calls : Action → Call
  pub buffers : List ℕ
  pub spools : List ℕ

-- ---- where it stands
abbrev pub place : {Action Reply : Type 0} → (p : Process Action Reply) → List (Entry Action Reply) → p.Place
place p [] = p.start
place p (Does action reply ∷ before) = p.behind (place p before) reply
place p (LacksMemory action reply ∷ before) = place p before
place p (Delays action ∷ before) = place p before

-- ---- why it stops: by an action with its reply, at a place, and by the first cause that an entry gave
abbrev pub given_cause : {Action Reply Parcel : Type 0} → View Action Reply Parcel
    → (p : Process Action Reply) → p.Place → Action → Reply → Option Outcome
given_cause view p at action reply = or_new (view.cause action reply) (fault_in (p.finds at reply))

abbrev pub caused : {Action Reply Parcel : Type 0} → View Action Reply Parcel → Process Action Reply
    → List (Entry Action Reply) → Option Outcome
caused view p [] = None
caused view p (Does action reply ∷ before) =
    or_new (caused view p before) (given_cause view p (place p before) action reply)
caused view p (LacksMemory action reply ∷ before) =
    or_new (caused view p before) (Some (outcome.Fault cause.NoMemory))
caused view p (Delays action ∷ before) = caused view p before

-- ---- the disk, the stops, and the end
abbrev pub went : {Action Reply Parcel : Type 0} → View Action Reply Parcel → Entry Action Reply → Went Parcel
went view (Does action reply) = view.went action reply
went view (LacksMemory action reply) = view.went action reply
went view (Delays action) = Delayed

-- whether it has the disk
abbrev pub has_disk : {Action Reply Parcel : Type 0} → View Action Reply Parcel → Process Action Reply
    → List (Entry Action Reply) → Bool
has_disk view p [] = false
has_disk view p (Does action reply ∷ before) =
    holds_by (has_disk view p before) (p.calls action) (view.went action reply)
has_disk view p (LacksMemory action reply ∷ before) =
    holds_by (has_disk view p before) (p.calls action) (view.went action reply)
has_disk view p (Delays action ∷ before) = has_disk view p before

-- whether it has stopped a buffer
abbrev pub has_stopped : {Action Reply : Type 0} → Process Action Reply → ℕ → List (Entry Action Reply) → Bool
has_stopped p b [] = false
has_stopped p b (Does action reply ∷ before) = stops_by b (p.calls action) || has_stopped p b before
has_stopped p b (LacksMemory action reply ∷ before) = stops_by b (p.calls action) || has_stopped p b before
has_stopped p b (Delays action ∷ before) = has_stopped p b before

-- how it has ended; none while it goes on
abbrev pub how_ended : {Action Reply Parcel : Type 0} → View Action Reply Parcel → List (Entry Action Reply)
    → Option Outcome
how_ended view [] = None
how_ended view (Does action reply ∷ before) = or_new (how_ended view before) (view.ends action)
how_ended view (LacksMemory action reply ∷ before) = how_ended view before
how_ended view (Delays action ∷ before) = how_ended view before

-- ---- closing down
abbrev pub stops_next : {Action Reply Parcel : Type 0} → View Action Reply Parcel → Process Action Reply
    → List ℕ → Outcome → List (Entry Action Reply) → Action
stops_next view p [] how h = view.end how
stops_next view p (b ∷ later) how h =
    if has_stopped p b h then stops_next view p later how h else view.stop b

abbrev pub closes : {Action Reply Parcel : Type 0} → View Action Reply Parcel → Process Action Reply → List ℕ
    → Outcome → List (Entry Action Reply) → Action
closes view p buffers how h = if has_disk view p h then view.give else stops_next view p buffers how h

-- ---- what comes next, by its cause and by what it does at its place
abbrev pub next_by : {Action Reply Parcel : Type 0} → View Action Reply Parcel → Process Action Reply
    → Option Outcome → Option Action → List (Entry Action Reply) → Action
next_by view p (Some how) does h = closes view p p.buffers how h
next_by view p None None h = closes view p p.spools outcome.Done h
next_by view p None (Some action) h = action

-- There is none once it has ended.
abbrev pub next_action : {Action Reply Parcel : Type 0} → View Action Reply Parcel → Process Action Reply
    → List (Entry Action Reply) → Option Action
next_action view p h =
    unless_ended (how_ended view h) (next_by view p (caused view p h) (p.does (place p h)) h)

-- ---- which entries it may have
abbrev pub EntrySuits : {Action Reply Parcel : Type 0} → View Action Reply Parcel → Process Action Reply
    → Entry Action Reply → Type 0
EntrySuits view p (Does action reply) = view.Fits action reply
EntrySuits view p (LacksMemory action reply) = (p.may_lack ≡ true) × view.MayLack action reply
EntrySuits view p (Delays action) = view.MayWait action

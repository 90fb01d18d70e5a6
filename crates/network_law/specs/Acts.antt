-- What an entry of a process is to the monitors: which call it was, and how that went.
use Rattle.std.specs.Prelude.{ℕ, ◌==◌, Bool, true, false, ◌&&◌, ◌||◌, List, [], ◌∷◌, ◌++◌}
use Rattle.solo_base.specs.declared.outcome.Side.{Side}
use Rattle.queue_var.specs.Sides.{same_side}

-- What a process does at its side of a buffer: it waits until there is room or a parcel, it waits and then
-- puts or takes one, it puts or takes one that it awaited, or it stops the buffer.
pub data Visit : Type 0 where
  Awaits : Visit
  Passes : Visit
  Moves : Visit
  Stops : Visit

-- A call on no monitor, at a side of the buffer of a number, or at the desk, which grants the disk.
pub data Call : Type 0 where
  Alone : Call
  At : ℕ → Side → Visit → Call
  Asks : Call
  Gives : Call

-- How a call went: it waits in a queue, it was told that the other side has stopped, it is done and moved
-- nothing, or it moved this parcel.
pub data Went (Parcel : Type 0) : Type 0 where
  Delayed : Went Parcel
  Told : Went Parcel
  Done : Went Parcel
  Moved : Parcel → Went Parcel

pub record Act (Parcel : Type 0) : Type 0 where
  pub call : Call
  pub went : Went Parcel

-- ---- what the acts of a process tell; the newest stands first
abbrev pub is_same : ℕ → Side → ℕ → Side → Bool
is_same b side c of = (b == c) && same_side side of

abbrev pub if_at : {Parcel : Type 0} → Bool → Parcel → List Parcel
if_at true parcel = parcel ∷ []
if_at false parcel = []

-- what an act moved at a side of a buffer
abbrev pub moved_by : {Parcel : Type 0} → ℕ → Side → Call → Went Parcel → List Parcel
moved_by b side (At c of visit) (Moved parcel) = if_at (is_same b side c of) parcel
moved_by b side call went = []

-- the parcels that it moved there, the first of all first
abbrev pub moved : {Parcel : Type 0} → ℕ → Side → List (Act Parcel) → List Parcel
moved b side [] = []
moved b side (act ∷ before) = moved b side before ++ moved_by b side act.call act.went

abbrev pub stops_at : ℕ → Side → Call → Bool
stops_at b side (At c of Stops) = is_same b side c of
stops_at b side call = false

-- whether it stopped a side of a buffer
abbrev pub made_stop : {Parcel : Type 0} → ℕ → Side → List (Act Parcel) → Bool
made_stop b side [] = false
made_stop b side (act ∷ before) = stops_at b side act.call || made_stop b side before

abbrev pub told_at : {Parcel : Type 0} → ℕ → Side → Call → Went Parcel → Bool
told_at b side (At c of visit) Told = is_same b side c of
told_at b side call went = false

-- whether it was told there that the other side has stopped
abbrev pub was_told : {Parcel : Type 0} → ℕ → Side → List (Act Parcel) → Bool
was_told b side [] = false
was_told b side (act ∷ before) = told_at b side act.call act.went || was_told b side before

-- whether its newest act is a delay
abbrev pub is_delayed : {Parcel : Type 0} → Went Parcel → Bool
is_delayed Delayed = true
is_delayed went = false

abbrev pub waits : {Parcel : Type 0} → List (Act Parcel) → Bool
waits [] = false
waits (act ∷ before) = is_delayed act.went

-- whether it was granted the disk and has not released it
abbrev pub holds_by : {Parcel : Type 0} → Bool → Call → Went Parcel → Bool
holds_by before Asks Delayed = before
holds_by before Asks went = true
holds_by before Gives went = false
holds_by before Alone went = before
holds_by before (At b side visit) went = before

abbrev pub holds : {Parcel : Type 0} → List (Act Parcel) → Bool
holds [] = false
holds (act ∷ before) = holds_by (holds before) act.call act.went

-- It awaited this side of this buffer and found it ready, and since then made no call on a buffer.
abbrev pub found_by : {Parcel : Type 0} → ℕ → Side → Bool → Call → Went Parcel → Bool
found_by b side before call Delayed = before
found_by b side before (At c of Awaits) Done = is_same b side c of
found_by b side before (At c of visit) went = false
found_by b side before call went = before

abbrev pub found_ready : {Parcel : Type 0} → ℕ → Side → List (Act Parcel) → Bool
found_ready b side [] = false
found_ready b side (act ∷ before) = found_by b side (found_ready b side before) act.call act.went

-- The ends of a running buffer at their gate, and what their calls tell of a history.
use Rattle.std.specs.Prelude.{◌≡◌, ℕ, false, List, map}
use Rattle.solo_base.specs.declared.outcome.Side.{Side}
use Rattle.solo_base.specs.declared.outcome.Side.TheVariants.{Sender, Receiver}
use Rattle.monitor_gate.specs.Calls.{after_call}
use Rattle.slot_buffer.specs.declared.call.SlotCall.{SlotCall}
use Rattle.slot_buffer.specs.Calls.{sent_of, taken_of, has_stop, was_refused}
use Rattle.network_law.specs.Acts.{Act, moved, made_stop, was_told}
use Rattle.network_law.specs.Network.{acts}
use Rattle.exchange_law.specs.Parcels.{Parcel}
use Rattle.solo_law.specs.Solo.{solo, SoloEntry}
use Rattle.solo_run.specs.declared.ends.Sending.{Sending}
use Rattle.solo_run.specs.declared.ends.Taking.{Taking}

-- an end behind one call more
abbrev pub sent : {T : Type 0} → Sending T → SlotCall T → Sending T
sent s call = record s { end = after_call s.end call }

abbrev pub took : {T : Type 0} → Taking T → SlotCall T → Taking T
took s call = record s { end = after_call s.end call }

-- the end is one of its gate
abbrev pub SendsAt : {T : Type 0} → Sending T → Type 0
SendsAt s = s.end.gate ≡ s.gate.now

abbrev pub TakesAt : {T : Type 0} → Taking T → Type 0
TakesAt s = s.end.gate ≡ s.gate.now

-- and has not stopped
abbrev pub MaySend : {T : Type 0} → Sending T → Type 0
MaySend s = SendsAt s × (has_stop s.end.calls ≡ false)

abbrev pub MayTake : {T : Type 0} → Taking T → Type 0
MayTake s = TakesAt s × (has_stop s.end.calls ≡ false)

-- what calls moved at a side
abbrev pub moved_by_calls : {T : Type 0} → Side → List (SlotCall T) → List T
moved_by_calls Sender calls = sent_of calls
moved_by_calls Receiver calls = taken_of calls

-- Calls at a side of a buffer are those of these acts: they moved the same parcels, they have a stop or none,
-- and were told of one or not.
pub record AreCalls {T : Type 0} (wrap : T → Parcel) (b : ℕ) (side : Side) (acts : List (Act Parcel))
    (calls : List (SlotCall T)) : Type 0 where
  pub moves : map wrap (moved_by_calls side calls) ≡ moved b side acts
  pub stops : has_stop calls ≡ made_stop b side acts
  pub told : was_refused calls ≡ was_told b side acts

-- The end of a process at a buffer, from its first call on: at the same gate, with the calls of its history.
pub record HasSent {T : Type 0} (wrap : T → Parcel) (p b : ℕ) (start now : Sending T) (h : List SoloEntry)
    : Type 0 where
  pub gate : now.gate.now ≡ start.gate.now
  pub at : SendsAt now
  pub calls : AreCalls wrap b Sender (acts solo p h) now.end.calls

pub record HasTaken {T : Type 0} (wrap : T → Parcel) (p b : ℕ) (start now : Taking T) (h : List SoloEntry)
    : Type 0 where
  pub gate : now.gate.now ≡ start.gate.now
  pub at : TakesAt now
  pub calls : AreCalls wrap b Receiver (acts solo p h) now.end.calls

-- A chain of stages: stage p takes from the buffer p - 1 and puts into the buffer p; the first takes from no
-- buffer, and
-- the last puts into none. Each stage is told by its places and what it aims at there.
use Rattle.std.specs.Prelude.{◌≡◌, ℕ, zero, suc, ◌==◌, Bool, true, false, not, if◌then◌else◌, List, [], ◌∷◌, Option, None, Some}
use Rattle.solo_base.specs.declared.outcome.Side.{Side}
use Rattle.solo_base.specs.declared.outcome.Side.TheVariants.{Sender, Receiver}
use Rattle.solo_base.specs.declared.outcome.Outcome.{Outcome}
use Rattle.solo_base.specs.declared.outcome.Outcome.TheVariants as outcome
use Rattle.solo_base.specs.declared.outcome.Cause.{Cause}
use Rattle.network_law.specs.Acts.{Call, Alone, At, Asks, Gives, Awaits, Passes, Moves, Stops, Went, Told, Moved}
use Rattle.network_law.specs.Acts as go
use Rattle.place_law.specs.Process.{Entry}
use Rattle.row_law.specs.Process.{View}
use Rattle.row_law.specs.Row.{Row}
use Rattle.row_law.specs.Aims.{Makes, Conveys, Borrows, Aims, by_places}
use Rattle.row_law.specs.Aims as row

-- ---- what a stage does, and what it is answered; a call at a buffer has the buffer's number
pub data Action (Device Parcel : Type 0) : Type 0 where
  Take : ℕ → Action Device Parcel
  Put : ℕ → Parcel → Action Device Parcel
  AwaitParcel : ℕ → Action Device Parcel
  AwaitRoom : ℕ → Action Device Parcel
  TakePage : ℕ → Action Device Parcel
  PutPage : ℕ → Parcel → Action Device Parcel
  Ask : Action Device Parcel
  Give : Action Device Parcel
  Use : Device → Action Device Parcel
  Stop : ℕ → Action Device Parcel
  Ended : Outcome → Action Device Parcel

pub data Reply (Answer Parcel : Type 0) : Type 0 where
  Done : Reply Answer Parcel
  Stopped : Reply Answer Parcel
  Failed : Cause → Reply Answer Parcel
  Taken : Parcel → Reply Answer Parcel
  Answered : Answer → Reply Answer Parcel

-- ---- a stage
-- What it aims at: it takes and puts parcels, some of them through the disk, and calls devices, some of them
-- with the
-- disk. It takes where a stage stands before it, and puts where one stands behind it.
pub data Aim (before behind : Bool) (Device Parcel : Type 0) : Type 0 where
  Takes : before ≡ true → Aim before behind Device Parcel
  Puts : behind ≡ true → Parcel → Aim before behind Device Parcel
  TakesPage : before ≡ true → Aim before behind Device Parcel
  PutsPage : behind ≡ true → Parcel → Aim before behind Device Parcel
  Uses : Device → Aim before behind Device Parcel
  UsesWithDisk : Device → Aim before behind Device Parcel
  Finishes : Aim before behind Device Parcel

-- what it is given
pub data Given (Answer Parcel : Type 0) : Type 0 where
  Nothing : Given Answer Parcel
  Parcel_taken : Parcel → Given Answer Parcel
  Device_answer : Answer → Given Answer Parcel

pub record Stage (before behind : Bool) (Device Answer Parcel : Type 0) : Type 1 where
  pub Place : Type 0
  pub start : Place
  pub aims : Place → Aim before behind Device Parcel
  -- where it stands behind what it was given, and the fault that it finds in a parcel or an answer
  pub goes : Place → Given Answer Parcel → Place
  pub finds : Place → Given Answer Parcel → Option Cause

-- ---- a chain of so many stages
abbrev pub has_before : ℕ → Bool
has_before p = not (p == 1)

abbrev pub has_behind : ℕ → ℕ → Bool
has_behind size p = not (p == size)

pub record Chain (Devices Device Answer Parcel : Type 0) : Type 1 where
  pub size : ℕ
  pub stage : (p : ℕ) → Stage (has_before p) (has_behind size p) Device Answer Parcel
  pub mark : Parcel → Bool
  pub Allows : Devices → Entry (Action Device Parcel) (Reply Answer Parcel) → List ℕ → Type 0
  pub given : Devices → Entry (Action Device Parcel) (Reply Answer Parcel) → List ℕ → Devices

-- ---- what its actions are
abbrev pub upstream : ℕ → ℕ
upstream zero = zero
upstream (suc b) = b

abbrev pub seat : ℕ → Side → ℕ
seat b Sender = b
seat b Receiver = suc b

abbrev pub side_at : ℕ → ℕ → Side
side_at p b = if p == b then Sender else Receiver

abbrev pub calls : {Device Parcel : Type 0} → ℕ → Action Device Parcel → Call
calls p (Take b) = At b Receiver Passes
calls p (Put b parcel) = At b Sender Passes
calls p (AwaitParcel b) = At b Receiver Awaits
calls p (AwaitRoom b) = At b Sender Awaits
calls p (TakePage b) = At b Receiver Moves
calls p (PutPage b parcel) = At b Sender Moves
calls p Ask = Asks
calls p Give = Gives
calls p (Use device) = Alone
calls p (Stop b) = At b (side_at p b) Stops
calls p (Ended how) = Alone

abbrev pub went : {Device Answer Parcel : Type 0} → Action Device Parcel → Reply Answer Parcel → Went Parcel
went (Put b parcel) Done = Moved parcel
went (PutPage b parcel) Done = Moved parcel
went (Take b) (Taken parcel) = Moved parcel
went (TakePage b) (Taken parcel) = Moved parcel
went action Stopped = Told
went action reply = go.Done

abbrev pub Fits : {Device Answer Parcel : Type 0} → Action Device Parcel → Reply Answer Parcel → Type 0
Fits (Take b) (Taken parcel) = Unit {0}
Fits (Take b) Stopped = Unit {0}
Fits (Put b parcel) Done = Unit {0}
Fits (Put b parcel) Stopped = Unit {0}
Fits (AwaitParcel b) Done = Unit {0}
Fits (AwaitParcel b) Stopped = Unit {0}
Fits (AwaitRoom b) Done = Unit {0}
Fits (AwaitRoom b) Stopped = Unit {0}
Fits (TakePage b) (Taken parcel) = Unit {0}
Fits (TakePage b) (Failed cause) = Unit {0}
Fits (PutPage b parcel) Done = Unit {0}
Fits (PutPage b parcel) (Failed cause) = Unit {0}
Fits Ask Done = Unit {0}
Fits Give Done = Unit {0}
Fits (Use device) (Answered answer) = Unit {0}
Fits (Use device) (Failed cause) = Unit {0}
Fits (Stop b) Done = Unit {0}
Fits (Ended how) Done = Unit {0}
Fits action reply = ⊥

abbrev pub MayWait : {Device Parcel : Type 0} → Action Device Parcel → Type 0
MayWait (Take b) = Unit {0}
MayWait (Put b parcel) = Unit {0}
MayWait (AwaitParcel b) = Unit {0}
MayWait (AwaitRoom b) = Unit {0}
MayWait Ask = Unit {0}
MayWait action = ⊥

abbrev pub ends_as : {Device Parcel : Type 0} → Action Device Parcel → Option Outcome
ends_as (Ended how) = Some how
ends_as action = None

abbrev pub cause_of : {Answer Parcel : Type 0} → Reply Answer Parcel → Option Outcome
cause_of Done = None
cause_of Stopped = Some outcome.Stopped
cause_of (Failed cause) = Some (outcome.Fault cause)
cause_of (Taken parcel) = None
cause_of (Answered answer) = None

-- want of memory is a reply that failed
abbrev pub chain_view : {Device Answer Parcel : Type 0}
    → View (Action Device Parcel) (Reply Answer Parcel) Parcel
chain_view = record {
  went = went;
  give = Give;
  stop = Stop;
  end = Ended;
  ends = ends_as;
  cause = λ action reply. cause_of reply;
  Fits = Fits;
  MayLack = λ action reply. ⊥;
  MayWait = MayWait;
}

-- ---- a stage as a process
abbrev pub aim_of : {before behind : Bool} {Device Parcel : Type 0} → ℕ → Aim before behind Device Parcel
    → row.Aim (Action Device Parcel)
aim_of p (Takes is) = Makes (Take (upstream p))
aim_of p (Puts is parcel) = Makes (Put p parcel)
aim_of p (TakesPage is) = Conveys (upstream p) Receiver (AwaitParcel (upstream p)) (TakePage (upstream p))
aim_of p (PutsPage is parcel) = Conveys p Sender (AwaitRoom p) (PutPage p parcel)
aim_of p (Uses device) = Makes (Use device)
aim_of p (UsesWithDisk device) = Borrows (Use device)
aim_of p Finishes = row.Finishes

abbrev pub given_by : {Answer Parcel : Type 0} → Reply Answer Parcel → Given Answer Parcel
given_by Done = Nothing
given_by Stopped = Nothing
given_by (Failed cause) = Nothing
given_by (Taken parcel) = Parcel_taken parcel
given_by (Answered answer) = Device_answer answer

abbrev pub finds_by : {before behind : Bool} {Device Answer Parcel : Type 0}
    → (stage : Stage before behind Device Answer Parcel) → stage.Place → Reply Answer Parcel → Option Cause
finds_by stage at (Taken parcel) = stage.finds at (Parcel_taken parcel)
finds_by stage at (Answered answer) = stage.finds at (Device_answer answer)
finds_by stage at Done = None
finds_by stage at Stopped = None
finds_by stage at (Failed cause) = None

abbrev pub buffers_by : Bool → Bool → ℕ → List ℕ
buffers_by true true p = upstream p ∷ p ∷ []
buffers_by true false p = upstream p ∷ []
buffers_by false true p = p ∷ []
buffers_by false false p = []

-- It stops its buffers where its work is done, as where it has a cause.
abbrev pub stage_aims : {before behind : Bool} {Device Answer Parcel : Type 0} → ℕ
    → Stage before behind Device Answer Parcel → Aims (Action Device Parcel) (Reply Answer Parcel)
stage_aims {before} {behind} p stage = record {
  Place = stage.Place;
  start = stage.start;
  aims = λ at. aim_of p (stage.aims at);
  behind = λ at reply. stage.goes at (given_by reply);
  finds = finds_by stage;
  may_lack = false;
  calls = calls p;
  ask = Ask;
  buffers = buffers_by before behind p;
  spools = buffers_by before behind p;
}

abbrev pub row_of : {Devices Device Answer Parcel : Type 0} → Chain Devices Device Answer Parcel
    → Row Devices (Action Device Parcel) (Reply Answer Parcel) Parcel
row_of chain = record {
  view = chain_view;
  size = chain.size;
  process = λ p. by_places Give (stage_aims p (chain.stage p));
  mark = chain.mark;
  seat = seat;
  Allows = chain.Allows;
  given = chain.given;
}

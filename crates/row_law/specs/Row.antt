-- A row: a network whose processes are told by their places, and what each of them has to meet.
use Rattle.std.specs.Prelude.{◌≡◌, ℕ, Bool, List, None, Some}
use Rattle.std.specs.List.{AllByRecursion}
use Rattle.solo_base.specs.declared.outcome.Side.{Side}
use Rattle.solo_base.specs.declared.outcome.Outcome.{Outcome}
use Rattle.solo_base.specs.declared.outcome.Outcome.TheVariants as outcome
use Rattle.network_law.specs.Acts.{Call, Alone, At, Asks, Gives, Awaits, Passes, Moves, Stops, Delayed, Done}
use Rattle.network_law.specs.Network.{Network, IsOne}
use Rattle.place_law.specs.Process.{Entry, action_of}
use Rattle.place_law.specs.Table.{StopsOwn, IsToldAt}
use Rattle.row_law.specs.Process.{View, Process, given_cause, next_action, EntrySuits, went}

pub record Row (Devices Action Reply Parcel : Type 0) : Type 1 where
  pub view : View Action Reply Parcel
  pub size : ℕ
  pub process : ℕ → Process Action Reply
  -- whether a parcel is the last of its stream, and the process at a side of a buffer
  pub mark : Parcel → Bool
  pub seat : ℕ → Side → ℕ
  -- what the devices allow, with the bytes that they gain, and how they stand then
  pub Allows : Devices → Entry Action Reply → List ℕ → Type 0
  pub given : Devices → Entry Action Reply → List ℕ → Devices

abbrev pub network_of : {Devices Action Reply Parcel : Type 0} → Row Devices Action Reply Parcel
    → Network Devices Action (Entry Action Reply) Parcel
network_of t = record {
  size = t.size;
  next = λ p h. next_action t.view (t.process p) h;
  action = action_of;
  call = λ p action. (t.process p).calls action;
  went = went t.view;
  Suits = λ p entry. EntrySuits t.view (t.process p) entry;
  mark = t.mark;
  seat = t.seat;
  Allows = t.Allows;
  given = t.given;
}

-- ---- how far a process is with a call that needs the disk
pub data Stage : Type 0 where
  -- nothing is under way
  Free : Stage
  -- what it awaited at this side of this buffer is there
  Awaited : ℕ → Side → Stage
  -- and it has the disk
  Granted : ℕ → Side → Stage
  -- it has the disk
  Holding : Stage

-- the calls that it may make then
abbrev pub MayDo : (ℕ → Side → ℕ) → ℕ → Stage → Call → Type 0
MayDo seat p Free Alone = Unit {0}
MayDo seat p Free (At b side Passes) = seat b side ≡ p
MayDo seat p Free (At b side Awaits) = seat b side ≡ p
MayDo seat p Free Asks = Unit {0}
MayDo seat p (Awaited b side) Asks = Unit {0}
MayDo seat p (Granted b side) (At c of Moves) = (c ≡ b) × (of ≡ side) × (seat c of ≡ p)
MayDo seat p Holding Alone = Unit {0}
MayDo seat p Holding Gives = Unit {0}
MayDo seat p stage call = ⊥

-- and how far it is behind one
abbrev pub granted_behind : Stage → Stage
granted_behind (Awaited b side) = Granted b side
granted_behind stage = Holding

abbrev pub stage_behind : Stage → Call → Stage
stage_behind stage Alone = stage
stage_behind stage (At b side Passes) = Free
stage_behind stage (At b side Awaits) = Awaited b side
stage_behind stage (At b side Moves) = Holding
stage_behind stage (At b side Stops) = stage
stage_behind stage Asks = granted_behind stage
stage_behind stage Gives = Free

-- a call that may wait
abbrev pub MayDelay : Call → Type 0
MayDelay (At b side Awaits) = Unit {0}
MayDelay (At b side Passes) = Unit {0}
MayDelay Asks = Unit {0}
MayDelay call = ⊥

-- ---- what is asked of a row: of how its actions are read, and of each process at each place
pub record ReadsRightly {Action Reply Parcel : Type 0} (view : View Action Reply Parcel) : Type 0 where
  -- only the end ends a process
  pub ends : (how : Outcome) → view.ends (view.end how) ≡ Some how
  pub gives_on : view.ends view.give ≡ None
  pub stops_on : (b : ℕ) → view.ends (view.stop b) ≡ None
  -- only a call that waits is delayed
  pub answered : (action : Action) (reply : Reply) → view.went action reply ≡ Delayed → ⊥

pub record IsPlaced {Action Reply Parcel : Type 0} (view : View Action Reply Parcel) (seat : ℕ → Side → ℕ)
    (n : ℕ) (p : Process Action Reply) : Type 0 where
  -- how far it is at each place; there it makes a call that it may make, and goes on behind it
  pub stage : p.Place → Stage
  pub starts : stage p.start ≡ Free
  pub may : (at : p.Place) (action : Action) → p.does at ≡ Some action
      → MayDo seat n (stage at) (p.calls action)
  pub staged : (at : p.Place) (action : Action) (reply : Reply) → p.does at ≡ Some action
      → view.Fits action reply → given_cause view p at action reply ≡ None
      → stage (p.behind at reply) ≡ stage_behind (stage at) (p.calls action)
  pub goes_on : (at : p.Place) (action : Action) → p.does at ≡ Some action → view.ends action ≡ None
  -- what was awaited is there where the reply gives no cause
  pub finds_there : (at : p.Place) (action : Action) (reply : Reply) (b : ℕ) (side : Side)
      → p.does at ≡ Some action → view.Fits action reply → given_cause view p at action reply ≡ None
      → p.calls action ≡ At b side Awaits → view.went action reply ≡ Done
  -- only a call that may be delayed waits
  pub waits : (action : Action) → view.MayWait action → MayDelay (p.calls action)
  -- where all its work is done it stays
  pub stays : (at : p.Place) (reply : Reply) → p.does at ≡ None → p.does (p.behind at reply) ≡ None
  -- how it closes down
  pub gives : p.calls view.give ≡ Gives
  pub stops : AllByRecursion (StopsOwn seat n p.calls view.stop) p.buffers
  pub stops_done : AllByRecursion (StopsOwn seat n p.calls view.stop) p.spools
  pub ends : (how : Outcome) → p.calls (view.end how) ≡ Alone
  -- the reply to the end is no cause
  pub quiet : (at : p.Place) (reply : Reply) (how : Outcome) → view.Fits (view.end how) reply
      → given_cause view p at (view.end how) reply ≡ None

-- That it is placed, by process.
pub record IsRow {Devices Action Reply Parcel : Type 0} (t : Row Devices Action Reply Parcel) : Type 0 where
  pub view : ReadsRightly t.view
  pub placed : (p : ℕ) → IsOne (network_of t) p → IsPlaced t.view t.seat p (t.process p)

-- ---- and of its causes
pub record CausesRightly {Action Reply Parcel : Type 0} (view : View Action Reply Parcel)
    (p : Process Action Reply) : Type 0 where
  -- no reply is the cause that the work is done
  pub not_done : (at : p.Place) (action : Action) (reply : Reply)
      → given_cause view p at action reply ≡ Some outcome.Done → ⊥
  -- Stopped is the cause of who was told at a buffer
  pub told : (at : p.Place) (action : Action) (reply : Reply) → view.Fits action reply
      → given_cause view p at action reply ≡ Some outcome.Stopped
      → IsToldAt (p.calls action) (view.went action reply)

pub record HasCauses {Devices Action Reply Parcel : Type 0}
    (t : Row Devices Action Reply Parcel) : Type 0 where
  pub causes : (p : ℕ) → IsOne (network_of t) p → CausesRightly t.view (t.process p)

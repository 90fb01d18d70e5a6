-- A network whose processes are told by their places, and what each of them has to meet.
use Rattle.std.specs.Prelude.{◌≡◌, ℕ, Bool, List, [], None, Some}
use Rattle.std.specs.List.{AllByRecursion}
use Rattle.solo_base.specs.declared.outcome.Side.{Side}
use Rattle.solo_base.specs.declared.outcome.Outcome.{Outcome}
use Rattle.solo_base.specs.declared.outcome.Outcome.TheVariants as outcome
use Rattle.network_law.specs.Acts.{Call, Alone, At, Passes, Stops, Went, Delayed, Told, Moved}
use Rattle.network_law.specs.Network.{Network, IsOne}
use Rattle.place_law.specs.Process.{Entry, action_of, View, Process, given_cause, next_action, EntrySuits, went}

pub record Table (Devices Action Reply Parcel : Type 0) : Type 1 where
  pub view : View Action Reply Parcel
  pub size : ℕ
  pub process : ℕ → Process Action Reply
  -- whether a parcel is the last of its stream, and the process at a side of a buffer
  pub mark : Parcel → Bool
  pub seat : ℕ → Side → ℕ
  -- what the devices allow, with the bytes that they gain, and how they stand then
  pub Allows : Devices → Entry Action Reply → List ℕ → Type 0
  pub given : Devices → Entry Action Reply → List ℕ → Devices

abbrev pub network_of : {Devices Action Reply Parcel : Type 0} → Table Devices Action Reply Parcel
    → Network Devices Action (Entry Action Reply) Parcel
network_of t = record {
  size = t.size;
  next = λ p h. next_action t.view (t.process p) h;
  action = action_of;
  call = λ p action. (t.process p).calls action;
  went = went t.view;
  Suits = λ p entry. EntrySuits t.view (t.process p) entry;
  mark = t.mark;
  seat = t.seat;
  Allows = t.Allows;
  given = t.given;
}

-- ---- what is asked of the table
-- It passes at a side at which the process sits, or is no call of a monitor.
abbrev pub PassesHere : (ℕ → Side → ℕ) → ℕ → Call → Type 0
PassesHere seat p Alone = Unit {0}
PassesHere seat p (At b side Passes) = seat b side ≡ p
PassesHere seat p call = ⊥

-- The stop of a buffer is one at the side at which the process sits.
pub record StopsOwn {Action : Type 0} (seat : ℕ → Side → ℕ) (p : ℕ) (calls : Action → Call) (stop : ℕ
    → Action)
    (b : ℕ) : Type 0 where
  pub side : Side
  pub seated : seat b side ≡ p
  pub is : calls (stop b) ≡ At b side Stops

-- A side was told that the other has stopped.
abbrev pub IsToldAt : {Parcel : Type 0} → Call → Went Parcel → Type 0
IsToldAt (At b side visit) Told = Unit {0}
IsToldAt call went = ⊥

abbrev pub MovesNothing : {Parcel : Type 0} → Went Parcel → Type 0
MovesNothing (Moved parcel) = ⊥
MovesNothing went = Unit {0}

pub record IsPlaced {Devices Action Reply Parcel : Type 0}
    (t : Table Devices Action Reply Parcel) : Type 0 where
  pub passes : (p : ℕ) → IsOne (network_of t) p → (at : (t.process p).Place)
      → PassesHere t.seat p ((t.process p).calls ((t.process p).does at))
  pub stops : (p : ℕ) → IsOne (network_of t) p
      → AllByRecursion (StopsOwn t.seat p (t.process p).calls t.view.stop) (t.process p).buffers
  pub some : (p : ℕ) → IsOne (network_of t) p → (t.process p).buffers ≡ [] → ⊥
  -- the end is no call, and a stop no end; a stop neither lacks memory nor waits, and moves nothing
  pub ends : (p : ℕ) (how : Outcome) → IsOne (network_of t) p → (t.process p).calls (t.view.end how) ≡ Alone
  pub ends_so : (how : Outcome) → t.view.ends (t.view.end how) ≡ Some how
  pub goes_on : (b : ℕ) → t.view.ends (t.view.stop b) ≡ None
  pub stop_kept : (b : ℕ) (reply : Reply) → t.view.MayLack (t.view.stop b) reply → ⊥
  pub stop_prompt : (b : ℕ) → t.view.MayWait (t.view.stop b) → ⊥
  pub stop_moves_not : (b : ℕ) (reply : Reply) → MovesNothing (t.view.went (t.view.stop b) reply)
  -- from the place at which a process ends there is no way, and it ends there with its work done
  pub last : (p : ℕ) → IsOne (network_of t) p → (at : (t.process p).Place) (how : Outcome)
      → t.view.ends ((t.process p).does at) ≡ Some how → how ≡ outcome.Done
  pub stays : (p : ℕ) → IsOne (network_of t) p → (at : (t.process p).Place) (reply : Reply) (how : Outcome)
      → t.view.ends ((t.process p).does at) ≡ Some how
      → t.view.ends ((t.process p).does ((t.process p).behind at reply)) ≡ Some how
  -- the reply to an end is no cause, and no reply is the cause that the work is done
  pub quiet : (p : ℕ) → IsOne (network_of t) p → (at : (t.process p).Place) (action : Action) (reply : Reply)
      (how : Outcome) → t.view.Fits action reply → t.view.ends action ≡ Some how
      → given_cause t.view (t.process p) at action reply ≡ None
  pub not_done : (p : ℕ) → IsOne (network_of t) p
      → (at : (t.process p).Place) (action : Action) (reply : Reply)
      → given_cause t.view (t.process p) at action reply ≡ Some outcome.Done → ⊥
  -- Stopped is the cause of who was told at a buffer
  pub told : (p : ℕ) → IsOne (network_of t) p → (at : (t.process p).Place) (action : Action) (reply : Reply)
      → t.view.Fits action reply → given_cause t.view (t.process p) at action reply ≡ Some outcome.Stopped
      → IsToldAt ((t.process p).calls action) (t.view.went action reply)
  -- only a call that waits is delayed
  pub answered : (action : Action) (reply : Reply) → t.view.went action reply ≡ Delayed → ⊥
  -- what may come without the memory to use it may come
  pub lack_fits : (action : Action) (reply : Reply) → t.view.MayLack action reply → t.view.Fits action reply

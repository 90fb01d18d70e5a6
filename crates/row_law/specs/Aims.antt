-- A process by what it aims at: one call, a move for which it awaits and asks for the disk, or a call with
-- the disk. The
-- calls around a move are the same for all, and are places of their own.
use Rattle.std.specs.Prelude.{◌≡◌, ℕ, Bool, List, Option, None, Some}
use Rattle.std.specs.List.{AllByRecursion}
use Rattle.solo_base.specs.declared.outcome.Side.{Side}
use Rattle.solo_base.specs.declared.outcome.Cause.{Cause}
use Rattle.solo_base.specs.declared.outcome.Outcome.{Outcome}
use Rattle.network_law.specs.Acts.{Call, Alone, At, Asks, Gives, Awaits, Passes, Moves, Done}
use Rattle.place_law.specs.Process.{Entry, or_new, fault_in}
use Rattle.place_law.specs.Table.{StopsOwn}
use Rattle.row_law.specs.Process.{View, Process, place}
use Rattle.row_law.specs.Row.{Stage, Free, Awaited, Granted, Holding, MayDelay}

pub data Aim (Action : Type 0) : Type 0 where
  -- one call: it passes a parcel at a side of a buffer, or calls no monitor
  Makes : Action → Aim Action
  -- at this side of this buffer it awaits, asks for the disk, moves, and gives the disk back
  Conveys : ℕ → Side → Action → Action → Aim Action
  -- it asks for the disk, makes this call, and gives the disk back
  Borrows : Action → Aim Action
  -- all its work is done
  Finishes : Aim Action

pub record Aims (Action Reply : Type 0) : Type 1 where
  pub Place : Type 0
  pub start : Place
  pub aims : Place → Aim Action
  pub behind : Place → Reply → Place
  pub finds : Place → Reply → Option Cause
  pub may_lack : Bool
  pub calls : Action → Call
  pub ask : Action
  pub buffers : List ℕ
  pub spools : List ℕ

-- ---- on the way to an aim
pub data Step : Type 0 where
  Begins : Step
  HasAwaited : Step
  HasDisk : Step
  HasMoved : Step

pub record Standing (Place : Type 0) : Type 0 where
  pub at : Place
  pub step : Step

-- what is done next on the way
pub data Way (Action : Type 0) : Type 0 where
  MakesIt : Action → Way Action
  AwaitsAt : ℕ → Side → Action → Way Action
  AsksAt : ℕ → Side → Way Action
  AsksFor : Way Action
  MovesAt : ℕ → Side → Action → Way Action
  MovesWith : Action → Way Action
  GivesBack : Way Action
  IsDone : Way Action

abbrev pub way_first : {Action : Type 0} → Aim Action → Way Action
way_first (Makes a) = MakesIt a
way_first (Conveys b side await move) = AwaitsAt b side await
way_first (Borrows a) = AsksFor
way_first Finishes = IsDone

abbrev pub way_awaited : {Action : Type 0} → Aim Action → Way Action
way_awaited (Makes a) = MakesIt a
way_awaited (Conveys b side await move) = AsksAt b side
way_awaited (Borrows a) = AsksFor
way_awaited Finishes = IsDone

abbrev pub way_granted : {Action : Type 0} → Aim Action → Way Action
way_granted (Makes a) = MakesIt a
way_granted (Conveys b side await move) = MovesAt b side move
way_granted (Borrows a) = MovesWith a
way_granted Finishes = IsDone

abbrev pub way : {Action : Type 0} → Step → Aim Action → Way Action
way Begins aim = way_first aim
way HasAwaited aim = way_awaited aim
way HasDisk aim = way_granted aim
way HasMoved aim = GivesBack

abbrev pub does_on : {Action : Type 0} → Action → Action → Way Action → Option Action
does_on ask give (MakesIt a) = Some a
does_on ask give (AwaitsAt b side await) = Some await
does_on ask give (AsksAt b side) = Some ask
does_on ask give AsksFor = Some ask
does_on ask give (MovesAt b side move) = Some move
does_on ask give (MovesWith a) = Some a
does_on ask give GivesBack = Some give
does_on ask give IsDone = None

abbrev pub stage_on : {Action : Type 0} → Way Action → Stage
stage_on (MakesIt a) = Free
stage_on (AwaitsAt b side await) = Free
stage_on (AsksAt b side) = Awaited b side
stage_on AsksFor = Free
stage_on (MovesAt b side move) = Granted b side
stage_on (MovesWith a) = Holding
stage_on GivesBack = Holding
stage_on IsDone = Free

-- behind an answer: at this place, or at the next
abbrev pub stands_on : {Action Place : Type 0} → Place → Place → Way Action → Standing Place
stands_on at next (MakesIt a) = record { at = next; step = Begins }
stands_on at next (AwaitsAt b side await) = record { at = at; step = HasAwaited }
stands_on at next (AsksAt b side) = record { at = at; step = HasDisk }
stands_on at next AsksFor = record { at = at; step = HasDisk }
stands_on at next (MovesAt b side move) = record { at = next; step = HasMoved }
stands_on at next (MovesWith a) = record { at = next; step = HasMoved }
stands_on at next GivesBack = record { at = at; step = Begins }
stands_on at next IsDone = record { at = at; step = Begins }

-- ---- the process by its places
abbrev pub way_at : {Action Reply : Type 0} → (p : Aims Action Reply) → Standing p.Place → Way Action
way_at p x = way x.step (p.aims x.at)

abbrev pub by_places : {Action Reply : Type 0} → Action → Aims Action Reply → Process Action Reply
by_places give p = record {
  Place = Standing p.Place;
  start = record { at = p.start; step = Begins };
  does = λ x. does_on p.ask give (way_at p x);
  behind = λ x reply. stands_on x.at (p.behind x.at reply) (way_at p x);
  finds = λ x reply. p.finds x.at reply;
  may_lack = p.may_lack;
  calls = p.calls;
  buffers = p.buffers;
  spools = p.spools;
}

-- where it stands among its own places, and what it aims at there
abbrev pub aim : {Action Reply : Type 0} → Action → Aims Action Reply → List (Entry Action Reply) → Aim Action
aim give p h = p.aims (place (by_places give p) h).at

-- ---- what is asked of its aims
-- a call that a process makes where it doesn't need the disk
abbrev pub PassesOwn : (ℕ → Side → ℕ) → ℕ → Call → Type 0
PassesOwn seat n Alone = Unit {0}
PassesOwn seat n (At b side Passes) = seat b side ≡ n
PassesOwn seat n call = ⊥

pub record ConveysOwn {Action Reply Parcel : Type 0} (view : View Action Reply Parcel) (seat : ℕ → Side → ℕ)
    (n : ℕ) (calls : Action → Call) (b : ℕ) (side : Side) (await move : Action) : Type 0 where
  pub seated : seat b side ≡ n
  pub await_is : calls await ≡ At b side Awaits
  pub move_is : calls move ≡ At b side Moves
  pub await_on : view.ends await ≡ None
  pub move_on : view.ends move ≡ None

abbrev pub AimsRightly : {Action Reply Parcel : Type 0} → View Action Reply Parcel → (ℕ → Side → ℕ) → ℕ
    → (Action → Call) → Aim Action → Type 0
AimsRightly view seat n calls (Makes a) = PassesOwn seat n (calls a) × (view.ends a ≡ None)
AimsRightly view seat n calls (Conveys b side await move) = ConveysOwn view seat n calls b side await move
AimsRightly view seat n calls (Borrows a) = (calls a ≡ Alone) × (view.ends a ≡ None)
AimsRightly view seat n calls Finishes = Unit {0}

-- it aims at a side of a buffer
abbrev pub PassesAt : Call → ℕ → Side → Type 0
PassesAt (At c of Passes) b side = (c ≡ b) × (of ≡ side)
PassesAt call b side = ⊥

abbrev pub AimsAt : {Action : Type 0} → (Action → Call) → Aim Action → ℕ → Side → Type 0
AimsAt calls (Makes a) b side = PassesAt (calls a) b side
AimsAt calls (Conveys c of await move) b side = (c ≡ b) × (of ≡ side)
AimsAt calls (Borrows a) b side = ⊥
AimsAt calls Finishes b side = ⊥

pub record IsAimed {Action Reply Parcel : Type 0} (view : View Action Reply Parcel) (seat : ℕ → Side → ℕ)
    (n : ℕ) (p : Aims Action Reply) : Type 0 where
  -- at each place it aims rightly
  pub aims : (at : p.Place) → AimsRightly view seat n p.calls (p.aims at)
  -- the desk
  pub ask_is : p.calls p.ask ≡ Asks
  pub ask_on : view.ends p.ask ≡ None
  pub give_is : p.calls view.give ≡ Gives
  pub give_on : view.ends view.give ≡ None
  -- what was awaited is there where the reply gives no cause; and only a call that may be delayed waits
  pub finds_there : (action : Action) (reply : Reply) (b : ℕ) (side : Side) → view.Fits action reply
      → view.cause action reply ≡ None → p.calls action ≡ At b side Awaits → view.went action reply ≡ Done
  pub waits : (action : Action) → view.MayWait action → MayDelay (p.calls action)
  -- how it closes down
  pub stops : AllByRecursion (StopsOwn seat n p.calls view.stop) p.buffers
  pub stops_done : AllByRecursion (StopsOwn seat n p.calls view.stop) p.spools
  pub ends : (how : Outcome) → p.calls (view.end how) ≡ Alone
  -- the reply to the end is no cause
  pub quiet : (at : p.Place) (reply : Reply) (how : Outcome) → view.Fits (view.end how) reply
      → or_new (view.cause (view.end how) reply) (fault_in (p.finds at reply)) ≡ None

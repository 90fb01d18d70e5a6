-- A buffer: what is inside, who waits, who stopped, and what a call at one of its sides does to it.
use Rattle.std.specs.Prelude.{◌≡◌, ℕ, ◌==◌, Bool, true, false, List, [], ◌∷◌, ◌++◌, length, drop, Option, Some}
use Rattle.std.specs.Option.{option_map}
use Rattle.solo_base.specs.declared.outcome.Side.{Side}
use Rattle.solo_base.specs.declared.outcome.Side.TheVariants.{Sender, Receiver}
use Rattle.queue_var.specs.Sides.{Sides, MayEnter, MayStop, nobody, stopped_by, entered, delayed, continued, stopped, other}
use Rattle.network_law.specs.Acts.{Visit, Awaits, Passes, Moves, Stops, Went, Delayed, Told, Done, Moved}

-- How many parcels it has room for, the marks of those inside, the parcels where they are told, its two
-- sides, and which sides stopped it, in order.
pub record Buffer (Parcel : Type 0) : Type 0 where
  pub capacity : ℕ
  pub marks : List Bool
  pub inside : Option (List Parcel)
  pub sides : Sides
  pub stops : List Side

abbrev pub fresh : {Parcel : Type 0} → ℕ → Option (List Parcel) → Buffer Parcel
fresh capacity inside = record {
  capacity = capacity;
  marks = [];
  inside = inside;
  sides = nobody;
  stops = [];
}

-- ---- what a call does to it; `mark` says whether a parcel is the last of its stream
abbrev pub moved_through : {Parcel : Type 0} → (Parcel → Bool) → Side → Parcel → Buffer Parcel → Buffer Parcel
moved_through mark Sender parcel buffer =
    record buffer {
      marks = buffer.marks ++ mark parcel ∷ [];
      inside = option_map (λ inside. inside ++ parcel ∷ []) buffer.inside;
      sides = continued buffer.sides Receiver;
    }
moved_through mark Receiver parcel buffer =
    record buffer {
      marks = drop 1 buffer.marks;
      inside = option_map (drop 1) buffer.inside;
      sides = continued buffer.sides Sender;
    }

abbrev pub let_in : {Parcel : Type 0} → Side → Buffer Parcel → Buffer Parcel
let_in side buffer = record buffer { sides = entered buffer.sides side }

abbrev pub after_wait : {Parcel : Type 0} → (Parcel → Bool) → Side → ℕ → Went Parcel → Buffer Parcel
    → Buffer Parcel
after_wait mark side p Delayed buffer = record buffer { sides = delayed (entered buffer.sides side) side p }
after_wait mark side p Told buffer = let_in side buffer
after_wait mark side p Done buffer = let_in side buffer
after_wait mark side p (Moved parcel) buffer = moved_through mark side parcel (let_in side buffer)

abbrev pub after_move : {Parcel : Type 0} → (Parcel → Bool) → Side → Went Parcel → Buffer Parcel
    → Buffer Parcel
after_move mark side (Moved parcel) buffer = moved_through mark side parcel buffer
after_move mark side went buffer = buffer

abbrev pub after_stop : {Parcel : Type 0} → Side → Buffer Parcel → Buffer Parcel
after_stop side buffer = record buffer {
  sides = continued (stopped buffer.sides side) (other side);
  stops = buffer.stops ++ side ∷ [];
}

abbrev pub after_visit : {Parcel : Type 0} → (Parcel → Bool) → Visit → Side → ℕ → Went Parcel → Buffer Parcel
    → Buffer Parcel
after_visit mark Awaits side p went buffer = after_wait mark side p went buffer
after_visit mark Passes side p went buffer = after_wait mark side p went buffer
after_visit mark Moves side p went buffer = after_move mark side went buffer
after_visit mark Stops side p went buffer = after_stop side buffer

-- ---- at its turn: who waits enters, and who doesn't needs a free turn
abbrev pub MayVisit : Sides → Side → ℕ → Visit → Type 0
MayVisit sides side p Awaits = MayEnter sides side p
MayVisit sides side p Passes = MayEnter sides side p
MayVisit sides side p Moves = MayStop sides side
MayVisit sides side p Stops = MayStop sides side

-- ---- how a call may go
-- What a side finds: what it waits for, nothing of that, or that the other side stopped first. A receiver
-- still finds what is inside.
pub data Found : Type 0 where
  Ready : Found
  Lacking : Found
  Closed : Found

abbrev pub room_found : Option Side → Bool → Found
room_found (Some Receiver) full = Closed
room_found by true = Lacking
room_found by false = Ready

abbrev pub parcel_found : Option Side → List Bool → Found
parcel_found by (mark ∷ more) = Ready
parcel_found (Some Sender) [] = Closed
parcel_found by [] = Lacking

abbrev pub found : {Parcel : Type 0} → Buffer Parcel → Side → Found
found buffer Sender = room_found (stopped_by buffer.sides) (length buffer.marks == buffer.capacity)
found buffer Receiver = parcel_found (stopped_by buffer.sides) buffer.marks

-- It is the first inside, where that is told, and its mark is the first mark.
pub record IsFirst {Parcel : Type 0} (mark : Parcel → Bool) (buffer : Buffer Parcel)
    (parcel : Parcel) : Type 0 where
  pub marked : buffer.marks ≡ mark parcel ∷ drop 1 buffer.marks
  pub told : (inside : List Parcel) → buffer.inside ≡ Some inside → inside ≡ parcel ∷ drop 1 inside

-- A sender may put any parcel, a receiver takes the first.
abbrev pub MayMove : {Parcel : Type 0} → (Parcel → Bool) → Side → Buffer Parcel → Parcel → Type 0
MayMove mark Sender buffer parcel = Unit {0}
MayMove mark Receiver buffer parcel = IsFirst mark buffer parcel

abbrev pub awaited : {Parcel : Type 0} → Found → Went Parcel
awaited Ready = Done
awaited Lacking = Delayed
awaited Closed = Told

abbrev pub PassFits : {Parcel : Type 0} → (Parcel → Bool) → Side → Buffer Parcel → Found → Went Parcel
    → Type 0
PassFits mark side buffer Ready (Moved parcel) = MayMove mark side buffer parcel
PassFits mark side buffer Lacking Delayed = Unit {0}
PassFits mark side buffer Closed Told = Unit {0}
PassFits mark side buffer finds went = ⊥

-- A move fails and leaves the buffer as it is, or it moves a parcel.
abbrev pub MoveFits : {Parcel : Type 0} → (Parcel → Bool) → Side → Buffer Parcel → Went Parcel → Type 0
MoveFits mark side buffer Done = Unit {0}
MoveFits mark side buffer (Moved parcel) = MayMove mark side buffer parcel
MoveFits mark side buffer went = ⊥

abbrev pub VisitFits : {Parcel : Type 0} → (Parcel → Bool) → Side → Buffer Parcel → Visit → Went Parcel
    → Type 0
VisitFits mark side buffer Awaits went = went ≡ awaited (found buffer side)
VisitFits mark side buffer Passes went = PassFits mark side buffer (found buffer side) went
VisitFits mark side buffer Moves went = MoveFits mark side buffer went
VisitFits mark side buffer Stops went = went ≡ Done

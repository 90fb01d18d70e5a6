-- What a call at a side of a buffer leaves as it was.
use Rattle.std.proofs.Common.{◌≡◌, ℕ, ◌≤◌, Bool, List, [], ◌∷◌, ◌++◌, length, drop, Option, None, Some, refl, sym, ◌∙◌, ap, arith}
use Rattle.std.proofs.lemmas.List.{append-nil, length_push}
use Rattle.solo_base.specs.declared.outcome.Side.{Side}
use Rattle.solo_base.specs.declared.outcome.Side.TheVariants.{Sender, Receiver}
use Rattle.queue_var.specs.Sides.{queue, stopped_by, other}
use Rattle.queue_var.specs.HandsOver.{StoppedFirst, earliest}
use Rattle.network_law.specs.Acts.{Visit, Awaits, Passes, Moves, Stops as Halts, Went, Delayed, Told, Done, Moved}
use Rattle.network_law.specs.Buffer.{Buffer, moved_through, let_in, after_wait, after_move, after_stop, after_visit}
use Rattle.network_law.specs.Kept.{IsReady}

-- ---- the stops
abbrev pub stop_of : Visit → Side → List Side
stop_of Halts side = side ∷ []
stop_of visit side = []

wait-stops : {Parcel : Type 0} (mark : Parcel → Bool) (side : Side) (p : ℕ) (went : Went Parcel) (buffer : Buffer Parcel)
    → (after_wait mark side p went buffer).stops ≡ buffer.stops
wait-stops mark side p Delayed buffer = refl
wait-stops mark side p Told buffer = refl
wait-stops mark side p Done buffer = refl
wait-stops mark Sender p (Moved parcel) buffer = refl
wait-stops mark Receiver p (Moved parcel) buffer = refl

move-stops : {Parcel : Type 0} (mark : Parcel → Bool) (side : Side) (went : Went Parcel) (buffer : Buffer Parcel)
    → (after_move mark side went buffer).stops ≡ buffer.stops
move-stops mark Sender (Moved parcel) buffer = refl
move-stops mark Receiver (Moved parcel) buffer = refl
move-stops mark side Delayed buffer = refl
move-stops mark side Told buffer = refl
move-stops mark side Done buffer = refl

pub visit-stops : {Parcel : Type 0} (mark : Parcel → Bool) (visit : Visit) (side : Side) (p : ℕ) (went : Went Parcel) (buffer : Buffer Parcel)
    → (after_visit mark visit side p went buffer).stops ≡ buffer.stops ++ stop_of visit side
visit-stops mark Awaits side p went buffer = wait-stops mark side p went buffer ∙ sym (append-nil buffer.stops)
visit-stops mark Passes side p went buffer = wait-stops mark side p went buffer ∙ sym (append-nil buffer.stops)
visit-stops mark Moves side p went buffer = move-stops mark side went buffer ∙ sym (append-nil buffer.stops)
visit-stops mark Halts side p went buffer = refl

earliest-stays : (stops more : List Side) (by : Side) → earliest stops ≡ Some by → earliest (stops ++ more) ≡ Some by
earliest-stays [] more by e = absurd cc
earliest-stays (first ∷ later) more by e = e

-- who stopped first stays the first
pub first-stays : {Parcel : Type 0} (old new : Buffer Parcel) (more : List Side) (by : Side) → StoppedFirst old.stops old.sides.stops
    → StoppedFirst new.stops new.sides.stops → new.stops ≡ old.stops ++ more → stopped_by old.sides ≡ Some by → stopped_by new.sides ≡ Some by
first-stays old new more by before now e is =
    now.first ∙ ap earliest e ∙ earliest-stays old.stops more by (sym before.first ∙ is)

-- ---- what the other side finds
pub record IsLarger {Parcel : Type 0} (old new : Buffer Parcel) : Type 0 where
  pub marks : length old.marks ≤ length new.marks
  pub capacity : new.capacity ≡ old.capacity

pub record SameContent {Parcel : Type 0} (old new : Buffer Parcel) : Type 0 where
  pub marks : new.marks ≡ old.marks
  pub capacity : new.capacity ≡ old.capacity

pub same-ready : {Parcel : Type 0} (old new : Buffer Parcel) (x : Side) → SameContent old new → IsReady old x → IsReady new x
same-ready old new Sender same ready = rw (same.marks, same.capacity) ready
same-ready old new Receiver same ready = rw (same.marks) ready

drop-fewer : (marks : List Bool) → length (drop 1 marks) ≤ length marks
drop-fewer [] = omega arith
drop-fewer (m ∷ marks) = omega arith

-- a parcel that goes through one side leaves the other ready
through-ready : {Parcel : Type 0} (mark : Parcel → Bool) (side : Side) (parcel : Parcel) (buffer : Buffer Parcel) → IsReady buffer (other side)
    → IsReady (moved_through mark side parcel buffer) (other side)
through-ready mark Sender parcel buffer ready = omega (arith, ready, length_push buffer.marks (mark parcel))
through-ready mark Receiver parcel buffer ready = let less = drop-fewer buffer.marks in omega (arith, ready, less)

entered-ready : {Parcel : Type 0} (side x : Side) (buffer : Buffer Parcel) → IsReady buffer x → IsReady (let_in side buffer) x
entered-ready side Sender buffer ready = ready
entered-ready side Receiver buffer ready = ready

wait-ready : {Parcel : Type 0} (mark : Parcel → Bool) (side : Side) (p : ℕ) (went : Went Parcel) (buffer : Buffer Parcel) → IsReady buffer (other side)
    → IsReady (after_wait mark side p went buffer) (other side)
wait-ready mark Sender p Delayed buffer ready = ready
wait-ready mark Receiver p Delayed buffer ready = ready
wait-ready mark side p Told buffer ready = entered-ready side (other side) buffer ready
wait-ready mark side p Done buffer ready = entered-ready side (other side) buffer ready
wait-ready mark side p (Moved parcel) buffer ready = through-ready mark side parcel (let_in side buffer) (entered-ready side (other side) buffer ready)

move-ready : {Parcel : Type 0} (mark : Parcel → Bool) (side : Side) (went : Went Parcel) (buffer : Buffer Parcel) → IsReady buffer (other side)
    → IsReady (after_move mark side went buffer) (other side)
move-ready mark side (Moved parcel) buffer ready = through-ready mark side parcel buffer ready
move-ready mark side Delayed buffer ready = ready
move-ready mark side Told buffer ready = ready
move-ready mark side Done buffer ready = ready

stop-ready : {Parcel : Type 0} (side x : Side) (buffer : Buffer Parcel) → IsReady buffer x → IsReady (after_stop side buffer) x
stop-ready side Sender buffer ready = ready
stop-ready side Receiver buffer ready = ready

pub other-ready : {Parcel : Type 0} (mark : Parcel → Bool) (visit : Visit) (side : Side) (p : ℕ) (went : Went Parcel) (buffer : Buffer Parcel)
    → IsReady buffer (other side) → IsReady (after_visit mark visit side p went buffer) (other side)
other-ready mark Awaits side p went buffer ready = wait-ready mark side p went buffer ready
other-ready mark Passes side p went buffer ready = wait-ready mark side p went buffer ready
other-ready mark Moves side p went buffer ready = move-ready mark side went buffer ready
other-ready mark Halts side p went buffer ready = stop-ready side (other side) buffer ready

-- ---- an empty buffer stays empty without its sender
pub stays-empty : {Parcel : Type 0} (mark : Parcel → Bool) (visit : Visit) (p : ℕ) (went : Went Parcel) (buffer : Buffer Parcel) → buffer.marks ≡ []
    → (after_visit mark visit Receiver p went buffer).marks ≡ []
stays-empty mark Awaits p Delayed buffer e = e
stays-empty mark Awaits p Told buffer e = e
stays-empty mark Awaits p Done buffer e = e
stays-empty mark Awaits p (Moved parcel) buffer e = ap (drop 1) e
stays-empty mark Passes p Delayed buffer e = e
stays-empty mark Passes p Told buffer e = e
stays-empty mark Passes p Done buffer e = e
stays-empty mark Passes p (Moved parcel) buffer e = ap (drop 1) e
stays-empty mark Moves p Delayed buffer e = e
stays-empty mark Moves p Told buffer e = e
stays-empty mark Moves p Done buffer e = e
stays-empty mark Moves p (Moved parcel) buffer e = ap (drop 1) e
stays-empty mark Halts p went buffer e = e

-- ---- the capacity
pub same-capacity : {Parcel : Type 0} (mark : Parcel → Bool) (visit : Visit) (side : Side) (p : ℕ) (went : Went Parcel) (buffer : Buffer Parcel)
    → (after_visit mark visit side p went buffer).capacity ≡ buffer.capacity
same-capacity mark Awaits side p Delayed buffer = refl
same-capacity mark Awaits side p Told buffer = refl
same-capacity mark Awaits side p Done buffer = refl
same-capacity mark Awaits Sender p (Moved parcel) buffer = refl
same-capacity mark Awaits Receiver p (Moved parcel) buffer = refl
same-capacity mark Passes side p Delayed buffer = refl
same-capacity mark Passes side p Told buffer = refl
same-capacity mark Passes side p Done buffer = refl
same-capacity mark Passes Sender p (Moved parcel) buffer = refl
same-capacity mark Passes Receiver p (Moved parcel) buffer = refl
same-capacity mark Moves side p Delayed buffer = refl
same-capacity mark Moves side p Told buffer = refl
same-capacity mark Moves side p Done buffer = refl
same-capacity mark Moves Sender p (Moved parcel) buffer = refl
same-capacity mark Moves Receiver p (Moved parcel) buffer = refl
same-capacity mark Halts side p went buffer = refl

-- ---- who waits
-- who called by this side is in its queue where it is delayed, and not otherwise
abbrev pub OwnQueue : {Parcel : Type 0} → Went Parcel → ℕ → Option ℕ → Type 0
OwnQueue Delayed p held = held ≡ Some p
OwnQueue went p held = held ≡ None

through-queue : {Parcel : Type 0} (mark : Parcel → Bool) (of : Side) (parcel : Parcel) (buffer : Buffer Parcel) (x : Side)
    → queue (moved_through mark of parcel buffer).sides x ≡ queue buffer.sides x
through-queue mark Sender parcel buffer Sender = refl
through-queue mark Sender parcel buffer Receiver = refl
through-queue mark Receiver parcel buffer Sender = refl
through-queue mark Receiver parcel buffer Receiver = refl

entered-queue : {Parcel : Type 0} (side : Side) (buffer : Buffer Parcel) → queue (let_in side buffer).sides side ≡ None
entered-queue Sender buffer = refl
entered-queue Receiver buffer = refl

pub wait-own : {Parcel : Type 0} (mark : Parcel → Bool) (side : Side) (p : ℕ) (went : Went Parcel) (buffer : Buffer Parcel)
    → OwnQueue went p (queue (after_wait mark side p went buffer).sides side)
wait-own mark Sender p Delayed buffer = refl
wait-own mark Receiver p Delayed buffer = refl
wait-own mark side p Told buffer = entered-queue side buffer
wait-own mark side p Done buffer = entered-queue side buffer
wait-own mark side p (Moved parcel) buffer = through-queue mark side parcel (let_in side buffer) side ∙ entered-queue side buffer

entered-other : {Parcel : Type 0} (side : Side) (buffer : Buffer Parcel) → queue (let_in side buffer).sides (other side) ≡ queue buffer.sides (other side)
entered-other Sender buffer = refl
entered-other Receiver buffer = refl

wait-other : {Parcel : Type 0} (mark : Parcel → Bool) (side : Side) (p : ℕ) (went : Went Parcel) (buffer : Buffer Parcel)
    → queue (after_wait mark side p went buffer).sides (other side) ≡ queue buffer.sides (other side)
wait-other mark Sender p Delayed buffer = refl
wait-other mark Receiver p Delayed buffer = refl
wait-other mark side p Told buffer = entered-other side buffer
wait-other mark side p Done buffer = entered-other side buffer
wait-other mark side p (Moved parcel) buffer = through-queue mark side parcel (let_in side buffer) (other side) ∙ entered-other side buffer

move-queue : {Parcel : Type 0} (mark : Parcel → Bool) (side : Side) (went : Went Parcel) (buffer : Buffer Parcel) (x : Side)
    → queue (after_move mark side went buffer).sides x ≡ queue buffer.sides x
move-queue mark side (Moved parcel) buffer x = through-queue mark side parcel buffer x
move-queue mark side Delayed buffer x = refl
move-queue mark side Told buffer x = refl
move-queue mark side Done buffer x = refl

stop-queue : {Parcel : Type 0} (side : Side) (buffer : Buffer Parcel) (x : Side) → queue (after_stop side buffer).sides x ≡ queue buffer.sides x
stop-queue side buffer Sender = refl
stop-queue side buffer Receiver = refl

pub visit-other : {Parcel : Type 0} (mark : Parcel → Bool) (visit : Visit) (side : Side) (p : ℕ) (went : Went Parcel) (buffer : Buffer Parcel)
    → queue (after_visit mark visit side p went buffer).sides (other side) ≡ queue buffer.sides (other side)
visit-other mark Awaits side p went buffer = wait-other mark side p went buffer
visit-other mark Passes side p went buffer = wait-other mark side p went buffer
visit-other mark Moves side p went buffer = move-queue mark side went buffer (other side)
visit-other mark Halts side p went buffer = stop-queue side buffer (other side)

-- a call that doesn't wait leaves both queues
pub no_wait-queue : {Parcel : Type 0} (mark : Parcel → Bool) (side : Side) (p : ℕ) (went : Went Parcel) (buffer : Buffer Parcel) (x : Side)
    → (queue (after_visit mark Moves side p went buffer).sides x ≡ queue buffer.sides x)
    × (queue (after_visit mark Halts side p went buffer).sides x ≡ queue buffer.sides x)
no_wait-queue mark side p went buffer x = (move-queue mark side went buffer x, stop-queue side buffer x)

-- A buffer between two processes: the sender is process 1, and the receiver process 2.
use Rattle.std.specs.Prelude.{◌≡◌, ◌≢◌, ◌⊎◌, ℕ, ◌==◌, Bool, true, false, ◌||◌, if◌then◌else◌, Option, None, Some, List, [], ◌∷◌, ◌++◌, map}
use Rattle.solo_base.specs.declared.outcome.Side.{Side}
use Rattle.solo_base.specs.declared.outcome.Side.TheVariants.{Sender, Receiver}
use Rattle.queue_var.specs.declared.turn.Turn.TheVariants.{Handed}
use Rattle.queue_var.specs.Turn.{handed}
use Rattle.queue_var.specs.Sides.{Sides, queue, has_stopped, stopped_by, other, same_side}

-- the number of the process at a side
abbrev pub process_at : Side → ℕ
process_at Sender = 1
process_at Receiver = 2

-- Each queue holds nobody but the process of its side, and that only while this side hasn't stopped.
pub record IsBetweenTwo (sides : Sides) : Type 0 where
  pub in_place : (side : Side) (p : ℕ) → queue sides side ≡ Some p → p ≡ process_at side
  pub running : (side : Side) (p : ℕ) → queue sides side ≡ Some p → has_stopped sides side ≡ false

-- How the two sides stand after the calls of both: by whether a side has made a stop, and by whether it was
-- told that the other side had stopped first.
pub record IsTiedToCalls (has_stop was_told : Side → Bool) (sides : Sides) : Type 0 where
  pub between : IsBetweenTwo sides
  pub stopped : (side : Side) → has_stopped sides side ≡ has_stop side
  pub told : (side : Side) → was_told side ≡ true → stopped_by sides ≡ Some (other side)

-- Who stopped first, as it is known once both ends have met: neither, or one that did stop; a side was told so only
-- where it was the other.
pub record WhoStopped (has_stop was_told : Side → Bool) (first : Option Side) : Type 0 where
  pub neither : first ≡ None → (side : Side) → has_stop side ≡ false
  pub did : (side : Side) → first ≡ Some side → has_stop side ≡ true
  pub told : (side : Side) → was_told side ≡ true → first ≡ Some (other side)

-- the one for the sender, the other for the receiver
abbrev pub by_side : {X : Type 0} → X → X → Side → X
by_side x y Sender = x
by_side x y Receiver = y

-- the calls of each side, by the entries of both processes
abbrev pub calls_of : {E C : Type 0} → (E → C) → (ℕ → List E) → Side → List C
calls_of value lists side = map value (lists (process_at side))

-- the calls of both sides, with one more of this side
abbrev pub with_call : {C : Type 0} → (Side → List C) → Side → C → Side → List C
with_call calls side call s = if same_side s side then calls s ++ call ∷ [] else calls s

abbrev pub holds : Option ℕ → ℕ → Bool
holds None p = false
holds (Some q) p = q == p

-- the process is in one of the two queues
abbrev pub is_waiting : ℕ → Sides → Bool
is_waiting p sides = holds sides.sender p || holds sides.receiver p

-- the process to which the turn is handed
abbrev pub handed_to : Sides → Option ℕ
handed_to sides = handed sides.turn (queue sides)

-- What the process of this side waits for is there, or the other side stopped first.
abbrev pub CanGoOn : (Side → Type 0) → Sides → Side → Type 0
CanGoOn lacks sides side = (lacks side → ⊥) ⊎ (stopped_by sides ≡ Some (other side))

-- The turn is handed to the process, which can go on.
pub record IsWoken (lacks : Side → Type 0) (p : ℕ) (sides : Sides) : Type 0 where
  pub turn : handed_to sides ≡ Some p
  pub can : (side : Side) → sides.turn ≡ Handed side → CanGoOn lacks sides side

-- An entry of process p is done: p is out, the others wait as before, and whoever has the turn can go on.
pub record LetsOut (lacks : Side → Type 0) (p : ℕ) (before after : Sides) : Type 0 where
  pub out : is_waiting p after ≡ false
  pub others : (q : ℕ) → q ≢ p → is_waiting q after ≡ is_waiting q before
  pub woken : (q : ℕ) → handed_to after ≡ Some q → (is_waiting q after ≡ true) × IsWoken lacks q after

-- An entry of process p ended in a delay: p waits, the others wait as before, and nobody has the turn.
pub record LetsWait (p : ℕ) (before after : Sides) : Type 0 where
  pub waiting : is_waiting p after ≡ true
  pub others : (q : ℕ) → q ≢ p → is_waiting q after ≡ is_waiting q before
  pub free : handed_to after ≡ None

-- What a buffer keeps, whatever its capacity and the kind of its items.
use Rattle.std.specs.Prelude.{◌≡◌, ◌⊎◌, ℕ, ◌≤◌, Bool, false, ◌||◌, Option, None, Some, List, [], ◌∷◌, ◌++◌, length}
use Rattle.solo_base.specs.declared.outcome.Side.{Side}
use Rattle.solo_base.specs.declared.outcome.Side.TheVariants.{Sender, Receiver}
use Rattle.queue_var.specs.declared.turn.Turn.TheVariants.{Handed}
use Rattle.queue_var.specs.declared.stops.Stops.{Stops}
use Rattle.queue_var.specs.Sides.{Sides, NamesWhoWaits, queue, stopped_by, first_of, is_among, same_side}

-- what a side waits for: a sender for room, a receiver for an item
abbrev pub Lacks : {T : Type 0} → ℕ → List T → Side → Type 0
Lacks capacity inside Sender = length inside ≡ capacity
Lacks capacity inside Receiver = inside ≡ []

-- A process waits only where its side lacks what it waits for and nobody has stopped, or where the turn
-- was handed to it.
pub record WaitsWithCause (lacks : Side → Type 0) (sides : Sides) : Type 0 where
  pub cause : (side : Side) (p : ℕ) → queue sides side ≡ Some p → (lacks side × (stopped_by sides ≡ None)) ⊎ (sides.turn ≡ Handed side)
  pub named : NamesWhoWaits sides

-- What was taken, and then what is inside, is what was sent.
pub record HandsOver {T : Type 0} (capacity : ℕ) (sent taken inside : List T) (sides : Sides) : Type 0 where
  pub in_order : taken ++ inside ≡ sent
  pub within : length inside ≤ capacity
  pub waits : WaitsWithCause (Lacks capacity inside) sides

abbrev pub is_one_of : Side → List Side → Bool
is_one_of side [] = false
is_one_of side (first ∷ later) = same_side side first || is_one_of side later

abbrev pub earliest : List Side → Option Side
earliest [] = None
earliest (first ∷ later) = Some first

-- After these stops, in order, the marks name the first of them, and each side that has stopped.
pub record StoppedFirst (stops : List Side) (marks : Stops) : Type 0 where
  pub first : first_of marks ≡ earliest stops
  pub each : (side : Side) → is_among side marks ≡ is_one_of side stops

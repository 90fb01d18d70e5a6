-- What the processes of a pipeline do at their buffers, as a chain: each takes an item and puts what it
-- gives for it, one
-- after the other; behind the last it puts what it gives at the end, and the end.
use Rattle.std.specs.Prelude.{ℕ, Bool, true, false, refl, List, [], ◌∷◌, Option, None, Some}
use Rattle.network_run.specs.Law.{Law}
use Rattle.network_law.specs.Stepping.{Openings, law_of}
use Rattle.place_law.specs.Process.{Entry}
use Rattle.row_law.specs.Row.{network_of}
use Rattle.row_chain.specs.Chain.{Action, Reply, Aim, Takes, Puts, Uses, Finishes, Given, Nothing, Parcel_taken, Device_answer, Stage, Chain, has_before, has_behind, row_of}

-- A stage, item by item: how it stands behind an item, what it gives for it, and what it gives at the end.
pub record Steps (X : Type 0) : Type 1 where
  pub State : Type 0
  pub start : State
  pub behind : State → X → State
  pub gives : State → X → List X
  pub last : State → List X

-- Where its process stands: it waits for an item; it has this item still to put and then those; the same at
-- the end; it
-- has still to put the end; or it has.
pub data Spot (State X : Type 0) : Type 0 where
  Waits : State → Spot State X
  Passes : State → X → List X → Spot State X
  PassesLast : X → List X → Spot State X
  PassesEnd : Spot State X
  IsOver : Spot State X

-- ---- what it does there. None is the end
-- The first process reads from a device, and the last shows what it takes.
abbrev pub aims_at : {State X : Type 0} → (before behind : Bool) → Spot State X
    → Aim before behind (Option (Option X)) (Option X)
aims_at true behind (Waits s) = Takes refl
aims_at false behind (Waits s) = Uses None
aims_at before true (Passes s x xs) = Puts refl (Some x)
aims_at before false (Passes s x xs) = Uses (Some (Some x))
aims_at before true (PassesLast x xs) = Puts refl (Some x)
aims_at before false (PassesLast x xs) = Uses (Some (Some x))
aims_at before true PassesEnd = Puts refl None
aims_at before false PassesEnd = Uses (Some None)
aims_at before behind IsOver = Finishes

-- ---- where it goes
abbrev pub to_pass : {State X : Type 0} → State → List X → Spot State X
to_pass s [] = Waits s
to_pass s (x ∷ xs) = Passes s x xs

abbrev pub to_pass_last : {State X : Type 0} → List X → Spot State X
to_pass_last [] = PassesEnd
to_pass_last (x ∷ xs) = PassesLast x xs

abbrev pub behind_parcel : {X : Type 0} → (steps : Steps X) → steps.State → Option X → Spot steps.State X
behind_parcel steps s (Some x) = to_pass (steps.behind s x) (steps.gives s x)
behind_parcel steps s None = to_pass_last (steps.last s)

abbrev pub goes_behind : {X : Type 0} → (steps : Steps X) → Spot steps.State X → Given (Option X) (Option X)
    → Spot steps.State X
goes_behind steps (Waits s) (Parcel_taken parcel) = behind_parcel steps s parcel
goes_behind steps (Waits s) (Device_answer parcel) = behind_parcel steps s parcel
goes_behind steps (Waits s) Nothing = Waits s
goes_behind steps (Passes s x xs) given = to_pass s xs
goes_behind steps (PassesLast x xs) given = to_pass_last xs
goes_behind steps PassesEnd given = IsOver
goes_behind steps IsOver given = IsOver

-- ---- the chain of so many processes
abbrev pub stage_of : {X : Type 0} → (before behind : Bool) → Steps X
    → Stage before behind (Option (Option X)) (Option X) (Option X)
stage_of before behind steps = record {
  Place = Spot steps.State _;
  start = Waits steps.start;
  aims = aims_at before behind;
  goes = goes_behind steps;
  finds = λ at given. None;
}

abbrev pub is_end : {X : Type 0} → Option X → Bool
is_end None = true
is_end (Some x) = false

abbrev pub pipeline_of : {X : Type 0} → ℕ → (ℕ → Steps X) → Chain ℕ (Option (Option X)) (Option X) (Option X)
pipeline_of size steps = record {
  size = size;
  stage = λ p. stage_of (has_before p) (has_behind size p) (steps p);
  mark = is_end;
  Allows = λ devices entry gained. Unit {0};
  given = λ devices entry gained. devices;
}

-- It opens with all buffers empty, each of as many places as is said.
abbrev pub openings_of : (X : Type 0) → (ℕ → ℕ)
    → Openings ℕ (Entry (Action (Option (Option X)) (Option X)) (Reply (Option X) (Option X)))
openings_of X places = record {
  Opening = ℕ;
  devices = λ o. o;
  sizes = λ o b. places b;
  told = λ o b. true;
  IsTold = λ o. ⊥;
  IsSmooth = λ entry. Unit {0};
}

-- all that may happen of it
abbrev pub law_of_steps : (X : Type 0) → ℕ → (ℕ → Steps X) → (ℕ → ℕ) → Law
law_of_steps X size steps places =
    law_of (network_of (row_of (pipeline_of size steps))) (openings_of X places)

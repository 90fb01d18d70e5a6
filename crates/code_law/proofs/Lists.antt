-- The activations by their numbers: maps, frames and words of each, where one changes, one comes and one goes.
use Rattle.std.proofs.Common.{◌≡◌, ℕ, zero, suc, ◌<◌, ◌≤◌, List, [], ◌∷◌, ◌++◌, length, take, ℤ, Some, None, refl, ap, arith}
use Rattle.std.specs.Prelude.{slice_get}
use Rattle.stack_machine.specs.States.{Activation}
use Rattle.stack_machine.specs.Activations.{words_from, waiting_with, own_with}
use Rattle.pascal_mean.specs.Situation.{Map}
use Rattle.pascal_mean.specs.Variables.{map_at, with_map}

-- ---- one changes
pub this_map : (maps : List Map) (k : ℕ) (change : Map → Map) → k < length maps → map_at (with_map k change maps) k ≡ change (map_at maps k)
this_map [] k change low = absurd (omega (arith, low))
this_map (m ∷ more) zero change low = refl
this_map (m ∷ more) (suc k) change low = this_map more k change (omega (arith, low))

pub other_map : (maps : List Map) (k d : ℕ) (change : Map → Map) → (d ≡ k → ⊥) → map_at (with_map k change maps) d ≡ map_at maps d
other_map [] k d change apart = refl
other_map (m ∷ more) zero zero change apart = absurd (apart refl)
other_map (m ∷ more) zero (suc d) change apart = refl
other_map (m ∷ more) (suc k) zero change apart = refl
other_map (m ∷ more) (suc k) (suc d) change apart = other_map more k d change (λ same. apart (ap suc same))

pub as_many_maps : (maps : List Map) (k : ℕ) (change : Map → Map) → length (with_map k change maps) ≡ length maps
as_many_maps [] k change = refl
as_many_maps (m ∷ more) zero change = refl
as_many_maps (m ∷ more) (suc k) change = ap suc (as_many_maps more k change)

-- a change that keeps references keeps them all
pub references_kept : (maps : List Map) (k : ℕ) (change : Map → Map) → ((m : Map) → (change m).references ≡ m.references) → (d : ℕ)
    → (map_at (with_map k change maps) d).references ≡ (map_at maps d).references
references_kept [] k change keeps d = refl
references_kept (m ∷ more) zero change keeps zero = keeps m
references_kept (m ∷ more) zero change keeps (suc d) = refl
references_kept (m ∷ more) (suc k) change keeps zero = refl
references_kept (m ∷ more) (suc k) change keeps (suc d) = references_kept more k change keeps d

pub this_frame : (below : List Activation) (own : List ℤ) (k : ℕ) (words : List ℤ) → k ≤ length below
    → words_from (waiting_with below k words) (own_with below own k words) k ≡ words
this_frame [] own zero words low = refl
this_frame [] own (suc k) words low = absurd (omega (arith, low))
this_frame (a ∷ above) own zero words low = refl
this_frame (a ∷ above) own (suc k) words low = this_frame above own k words (omega (arith, low))

pub other_frame : (below : List Activation) (own : List ℤ) (k d : ℕ) (words : List ℤ) → (d ≡ k → ⊥)
    → words_from (waiting_with below k words) (own_with below own k words) d ≡ words_from below own d
other_frame [] own zero zero words apart = absurd (apart refl)
other_frame [] own zero (suc d) words apart = refl
other_frame [] own (suc k) zero words apart = refl
other_frame [] own (suc k) (suc d) words apart = refl
other_frame (a ∷ above) own zero zero words apart = absurd (apart refl)
other_frame (a ∷ above) own zero (suc d) words apart = refl
other_frame (a ∷ above) own (suc k) zero words apart = refl
other_frame (a ∷ above) own (suc k) (suc d) words apart = other_frame above own k d words (λ same. apart (ap suc same))

-- ---- one comes
pub first_of_more : {T : Type 0} (xs : List T) (y : T) (k : ℕ) → k < length xs → slice_get (xs ++ y ∷ []) k ≡ slice_get xs k
first_of_more [] y k low = absurd (omega (arith, low))
first_of_more (x ∷ xs) y zero low = refl
first_of_more (x ∷ xs) y (suc k) low = first_of_more xs y k (omega (arith, low))

pub last_of_more : {T : Type 0} (xs : List T) (y : T) (k : ℕ) → k ≡ length xs → slice_get (xs ++ y ∷ []) k ≡ Some y
last_of_more [] y zero is = refl
last_of_more [] y (suc k) is = absurd (omega (arith, is))
last_of_more (x ∷ xs) y zero is = absurd (omega (arith, is))
last_of_more (x ∷ xs) y (suc k) is = last_of_more xs y k (omega (arith, is))

pub none_of_more : {T : Type 0} (xs : List T) (y : T) (k : ℕ) → length xs < k → slice_get (xs ++ y ∷ []) k ≡ None
none_of_more [] y zero high = absurd (omega (arith, high))
none_of_more [] y (suc k) high = refl
none_of_more (x ∷ xs) y zero high = absurd (omega (arith, high))
none_of_more (x ∷ xs) y (suc k) high = none_of_more xs y k (omega (arith, high))

pub first_map : (maps : List Map) (m : Map) (k : ℕ) → k < length maps → map_at (maps ++ m ∷ []) k ≡ map_at maps k
first_map [] m k low = absurd (omega (arith, low))
first_map (n ∷ more) m zero low = refl
first_map (n ∷ more) m (suc k) low = first_map more m k (omega (arith, low))

pub last_map : (maps : List Map) (m : Map) (k : ℕ) → k ≡ length maps → map_at (maps ++ m ∷ []) k ≡ m
last_map [] m zero is = refl
last_map [] m (suc k) is = absurd (omega (arith, is))
last_map (n ∷ more) m zero is = absurd (omega (arith, is))
last_map (n ∷ more) m (suc k) is = last_map more m k (omega (arith, is))

pub first_frames : (below : List Activation) (a : Activation) (own : List ℤ) (k : ℕ) → k ≤ length below
    → words_from (below ++ a ∷ []) own k ≡ words_from below a.words k
first_frames [] a own zero low = refl
first_frames [] a own (suc k) low = absurd (omega (arith, low))
first_frames (b ∷ above) a own zero low = refl
first_frames (b ∷ above) a own (suc k) low = first_frames above a own k (omega (arith, low))

pub last_frame : (below : List Activation) (own : List ℤ) (k : ℕ) → k ≡ length below → words_from below own k ≡ own
last_frame [] own zero is = refl
last_frame [] own (suc k) is = absurd (omega (arith, is))
last_frame (b ∷ above) own zero is = absurd (omega (arith, is))
last_frame (b ∷ above) own (suc k) is = last_frame above own k (omega (arith, is))

-- ---- one goes
pub map_below : (maps : List Map) (n k : ℕ) → k < n → map_at (take n maps) k ≡ map_at maps k
map_below [] zero k low = absurd (omega (arith, low))
map_below [] (suc n) k low = refl
map_below (m ∷ more) zero k low = absurd (omega (arith, low))
map_below (m ∷ more) (suc n) zero low = refl
map_below (m ∷ more) (suc n) (suc k) low = map_below more n k (omega (arith, low))

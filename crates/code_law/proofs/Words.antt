-- A word of a list is written.
use Rattle.std.proofs.Common.{◌≡◌, ℕ, zero, suc, ◌<◌, List, [], ◌∷◌, length, ℤ, Some, refl, ap, arith}
use Rattle.std.specs.Prelude.{slice_get, slice_set}
use Rattle.std.proofs.lemmas.Option.{none-some}

pub same_word : (words : List ℤ) (a : ℕ) (old v : ℤ) → slice_get words a ≡ Some old → slice_get (slice_set words a v) a ≡ Some v
same_word [] a old v found = absurd (none-some old found)
same_word (w ∷ words) zero old v found = refl
same_word (w ∷ words) (suc a) old v found = same_word words a old v found

pub other_word : (words : List ℤ) (a b : ℕ) (v : ℤ) → (a ≡ b → ⊥) → slice_get (slice_set words a v) b ≡ slice_get words b
other_word [] a b v apart = refl
other_word (w ∷ words) zero zero v apart = absurd (apart refl)
other_word (w ∷ words) zero (suc b) v apart = refl
other_word (w ∷ words) (suc a) zero v apart = refl
other_word (w ∷ words) (suc a) (suc b) v apart = other_word words a b v (λ same. apart (ap suc same))

pub written_word : (words : List ℤ) (a : ℕ) (v : ℤ) → a < length words → slice_get (slice_set words a v) a ≡ Some v
written_word [] a v low = absurd (omega (arith, low))
written_word (w ∷ words) zero v low = refl
written_word (w ∷ words) (suc a) v low = written_word words a v (omega (arith, low))

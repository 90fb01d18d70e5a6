-- Where the first that passes a test stands.
use Rattle.std.proofs.Common.{◌≡◌, Bool, not, cond, List, length, Some, None, refl, arith, inl, inr}
use Rattle.std.specs.Prelude.{unwrap_or}
use Rattle.std.specs.List.{position_or_len}
use Rattle.std.proofs.lemmas.Bool.{cases_Bool, ltb-false}
use Rattle.std.proofs.lemmas.List.Sums.{prefix_len-le-length}
use lib.Dec.{ltb}

-- its place, or the length where none passes
pub unwrapped : {A : Type 0} (p : A → Bool) (xs : List A)
    → unwrap_or (cond (ltb (position_or_len p xs) (length xs)) (Some (position_or_len p xs)) None) (length xs) ≡ position_or_len p xs
unwrapped p xs =
    elim (cases_Bool (ltb (position_or_len p xs) (length xs))) [
      | inl inside ↦ rw inside refl
      | inr past ↦ rw past (omega (arith, prefix_len-le-length (λ x. not (p x)) xs, ltb-false (position_or_len p xs) (length xs) past))
    ]

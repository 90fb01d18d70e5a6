-- The characters from the front of a text that pass a test.
use Rattle.std.proofs.Common.{◌≡◌, ℕ, ◌+◌, Bool, true, false, cond, List, [], ◌∷◌, refl, take, length, ◌≤◌, arith}
use Rattle.std.specs.Prelude.{take_while}
use Rattle.std.specs.List.{prefix_len, list_all}
use Rattle.std.proofs.lemmas.Grind.{common_steps}

list_all-step : (p : ℕ → Bool) (x : ℕ) (xs : List ℕ) (passes : Bool) → p x ≡ passes → list_all p (take_while p xs) ≡ true → list_all p (take (cond passes (1 + prefix_len p xs) 0) (x ∷ xs)) ≡ true
list_all-step p x xs true is others = grind (arith, common_steps)
list_all-step p x xs false is others = refl

-- each of them passes
pub list_all-take_while : (p : ℕ → Bool) (xs : List ℕ) → list_all p (take_while p xs) ≡ true
list_all-take_while p [] = refl
list_all-take_while p (x ∷ xs) = list_all-step p x xs (p x) refl (list_all-take_while p xs)

-- one that passes stands at their front
pub take_while-passes : (p : ℕ → Bool) (x : ℕ) (xs : List ℕ) → p x ≡ true → take_while p (x ∷ xs) ≡ x ∷ take_while p xs
take_while-passes p x xs passes = grind (arith, common_steps)

pub length-take_while : (p : ℕ → Bool) (xs : List ℕ) → length (take_while p xs) ≤ length xs
length-take_while p xs = grind (arith, common_steps)

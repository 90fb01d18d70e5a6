-- One activation of a list, seen as a map.
use Rattle.std.proofs.Common.{◌≡◌, ℕ, zero, suc, ◌<◌, ◌≤◌, List, [], ◌∷◌, map, length, get_or, set, refl, ap, arith}
use Rattle.std.specs.Prelude.{Result, Ok, Err, OnOk, IfOk}
use Rattle.pascal_mean.specs.Situation.{Map}
use Rattle.pascal_mean.specs.Variables.{fresh_map, map_at, with_map}

module _ {A : Type 0} (see : A → Map) where
  pub map_at-here : (xs : List A) (n : ℕ) (d : A) → n < length xs → map_at (map see xs) n ≡ see (get_or xs n d)
  map_at-here [] n d here = absurd (omega (arith, here))
  map_at-here (x ∷ xs) zero d here = refl
  map_at-here (x ∷ xs) (suc n) d here = map_at-here xs n d (omega (arith, here))

  pub map_at-past : (xs : List A) (n : ℕ) → length xs ≤ n → map_at (map see xs) n ≡ fresh_map
  map_at-past [] n past = refl
  map_at-past (x ∷ xs) zero past = absurd (omega (arith, past))
  map_at-past (x ∷ xs) (suc n) past = map_at-past xs n (omega (arith, past))

  pub with_map-here : (xs : List A) (n : ℕ) (d a : A) (change : Map → Map) → n < length xs → see a ≡ change (see (get_or xs n d))
      → map see (set xs n a) ≡ with_map n change (map see xs)
  with_map-here [] n d a change here is = absurd (omega (arith, here))
  with_map-here (x ∷ xs) zero d a change here is = ap (λ m. m ∷ map see xs) is
  with_map-here (x ∷ xs) (suc n) d a change here is =
      ap (λ ms. see x ∷ ms) (with_map-here xs n d a change (omega (arith, here)) is)

  pub with_map-past : (xs : List A) (n : ℕ) (change : Map → Map) → length xs ≤ n → with_map n change (map see xs) ≡ map see xs
  with_map-past [] zero change past = refl
  with_map-past [] (suc n) change past = refl
  with_map-past (x ∷ xs) zero change past = absurd (omega (arith, past))
  with_map-past (x ∷ xs) (suc n) change past = ap (λ ms. see x ∷ ms) (with_map-past xs n change (omega (arith, past)))

-- what follows of an answer without a refusal
pub on_ok : {A E : Type 0} (r : Result A E) (P Q : Type 0) → OnOk r P → (P → Q) → OnOk r Q
on_ok (Ok a) P Q holds then_holds = then_holds holds
on_ok (Err e) P Q holds then_holds = tt

pub if_ok : {A E : Type 0} (r : Result A E) (P Q : A → Type 0) → IfOk r P → ((a : A) → P a → Q a) → IfOk r Q
if_ok (Ok a) P Q holds then_holds = then_holds a holds
if_ok (Err e) P Q holds then_holds = tt

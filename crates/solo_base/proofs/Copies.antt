-- A list that is filled place by place.
use Rattle.std.proofs.Common.{◌≡◌, ℕ, ◌+◌, ◌<◌, Bool, true, List, length, get_or, set, map, ℤ, pos, sym, ◌∙◌, arith, inl, inr}
use Rattle.std.specs.Prelude.{unsigned_abs}
use Rattle.std.specs.List.{list_all}
use Rattle.std.proofs.lemmas.Bool.{cases_eq, cases_Bool, true≢false}
use Rattle.std.proofs.lemmas.List.{ext_get_or, get_or-map, length-map, get_or-set_same, get_or-set_other}
use Rattle.std.proofs.lemmas.List.Folds.{list_all_at}
use Rattle.solo_base.specs.Arithmetic.{is_byte}

-- what holds of each place so far, and of the next, holds of one place more
pub one_place_more : {A : Type 0} (Holds : ℕ → A → Type 0) (d : A) (ys : List A) (k : ℕ) (y : A) → k < length ys
    → ((i : ℕ) → i < k → Holds i (get_or ys i d)) → Holds k y → (i : ℕ) → i < k + 1 → Holds i (get_or (set ys k y) i d)
one_place_more Holds d ys k y inside before here i below =
    elim (cases_eq i k) [
      | inl last ↦ rw (last, get_or-set_same ys k y d inside) here
      | inr other ↦ rw (get_or-set_other ys k i y d other) (before i (omega (arith, other)))
    ]

-- a list whose places are the images of another's is its image
pub image : {A B : Type 0} (f : A → B) (d : A) (e : B) (xs : List A) (ys : List B) → length ys ≡ length xs
    → ((i : ℕ) → i < length xs → get_or ys i e ≡ f (get_or xs i d)) → ys ≡ map f xs
image f d e xs ys long same =
    ext_get_or e ys (map f xs) (long ∙ sym (length-map xs f)) (λ i below.
    let inside : i < length xs = omega (arith, long) in same i inside ∙ sym (get_or-map f xs i d e inside))

each_is : {A : Type 0} (p : A → Bool) (xs : List A) (d : A) (i : ℕ) → list_all p xs ≡ true → i < length xs → p (get_or xs i d) ≡ true
each_is p xs d i are inside =
    elim (cases_Bool (p (get_or xs i d))) [
      | inl holds ↦ holds
      | inr other ↦ absurd (true≢false (sym are ∙ list_all_at p xs i d inside other))
    ]

-- words that are bytes, and their bytes
pub low_bytes : (words : List ℤ) (bytes : List ℕ) → list_all is_byte words ≡ true → length bytes ≡ length words
    → ((i : ℕ) → i < length words → is_byte (get_or words i (pos 0)) ≡ true → get_or bytes i 0 ≡ unsigned_abs (get_or words i (pos 0)))
    → bytes ≡ map unsigned_abs words
low_bytes words bytes are long same = image unsigned_abs (pos 0) 0 words bytes long (λ i inside. same i inside (each_is is_byte words (pos 0) i are inside))

-- A page that is copied from the words of a frame.
use Rattle.std.proofs.Common.{◌≡◌, ℕ, suc, ◌+◌, ◌<◌, ◌≤◌, Bool, true, false, cond, Some, None, List, [], ◌∷◌, length, get_or, take, drop, set, map, ℤ, pos, refl, sym, ◌∙◌, ap, arith, inl, inr}
use Rattle.std.specs.Prelude.{unsigned_abs}
use Rattle.std.specs.List.{list_all}
use Rattle.std.proofs.lemmas.Bool.{cases_eq, and_from}
use Rattle.std.proofs.lemmas.List.{ext_get_or, get_or-take, get_or-drop, get_or-map, length-map, length-take, length-drop, get_or-set_same, get_or-set_other}
use Rattle.std.proofs.lemmas.List.Folds.{list_all_at}
use Rattle.solo_base.specs.Arithmetic.{is_byte, byte_of, are_bytes}

byte_cases : (yes : Bool) (n : ℕ) (b : ℕ) → cond yes (Some n) None ≡ Some b → (yes ≡ true) × (b ≡ n)
byte_cases true n b e = (refl, cc)
byte_cases false n b e = absurd cc

none_cases : (yes : Bool) (n : ℕ) → cond yes (Some n) None ≡ None → yes ≡ false
none_cases true n e = absurd cc
none_cases false n e = refl

pub byte_found : (z : ℤ) (b : ℕ) → byte_of z ≡ Some b → (is_byte z ≡ true) × (b ≡ unsigned_abs z)
byte_found z b e = byte_cases (is_byte z) (unsigned_abs z) b e

pub no_byte : (z : ℤ) → byte_of z ≡ None → is_byte z ≡ false
no_byte z e = none_cases (is_byte z) (unsigned_abs z) e

list_all_from : (xs : List ℤ) → ((i : ℕ) → i < length xs → is_byte (get_or xs i (pos 0)) ≡ true) → list_all is_byte xs ≡ true
list_all_from [] each = refl
list_all_from (x ∷ xs) each = and_from (is_byte x) (list_all is_byte xs) (each 0 (omega arith)) (list_all_from xs (λ i below. each (suc i) (omega arith)))

part_word : (words : List ℤ) (start n i : ℕ) → i < n → get_or (take n (drop start words)) i (pos 0) ≡ get_or words (start + i) (pos 0)
part_word words start n i below = get_or-take n (drop start words) i (pos 0) below ∙ get_or-drop start words i (pos 0)

-- one word that is no byte
pub not_bytes : (words : List ℤ) (start n k : ℕ) (z : ℤ) → k < n → start + n ≤ length words → z ≡ get_or words (start + k) (pos 0) → byte_of z ≡ None → are_bytes (take n (drop start words)) ≡ false
not_bytes words start n k z below room e none =
    list_all_at is_byte (take n (drop start words)) k (pos 0) (omega (arith, length-take n (drop start words), length-drop start words))
    (ap is_byte (part_word words start n k below ∙ sym e) ∙ no_byte z none)

-- one more byte
pub byte_copied : (bytes : List ℕ) (words : List ℤ) (start k n : ℕ) (z : ℤ) (b : ℕ) → length bytes ≡ n → k < n → z ≡ get_or words (start + k) (pos 0) → byte_of z ≡ Some b
    → ((i : ℕ) → i < k → is_byte (get_or words (start + i) (pos 0)) ≡ true)
    → ((i : ℕ) → i < k → get_or bytes i 0 ≡ unsigned_abs (get_or words (start + i) (pos 0)))
    → ((i : ℕ) → i < k + 1 → is_byte (get_or words (start + i) (pos 0)) ≡ true) × ((i : ℕ) → i < k + 1 → get_or (set bytes k b) i 0 ≡ unsigned_abs (get_or words (start + i) (pos 0)))
byte_copied bytes words start k n z b long inside e found are same =
    let new = byte_found z b found in (
      λ i below. elim (cases_eq i k) [
        | inl last ↦ rw last (ap is_byte (sym e) ∙ new.0)
        | inr other ↦ are i (omega (arith, other))
      ],
      λ i below. elim (cases_eq i k) [
        | inl last ↦ rw (last, get_or-set_same bytes k b 0 (omega (arith, long, inside))) (new.1 ∙ ap unsigned_abs e)
        | inr other ↦ get_or-set_other bytes k i b 0 other ∙ same i (omega (arith, other))
      ],
    )

pub whole_page : (bytes : List ℕ) (words : List ℤ) (start k n : ℕ) → length bytes ≡ n → n ≤ k → start + n ≤ length words
    → ((i : ℕ) → i < k → is_byte (get_or words (start + i) (pos 0)) ≡ true)
    → ((i : ℕ) → i < k → get_or bytes i 0 ≡ unsigned_abs (get_or words (start + i) (pos 0)))
    → (are_bytes (take n (drop start words)) ≡ true) × (bytes ≡ map unsigned_abs (take n (drop start words)))
whole_page bytes words start k n long all room are same =
    let part = take n (drop start words) in
    let len : length part ≡ n = omega (arith, length-take n (drop start words), length-drop start words) in (
      list_all_from part (λ i below. ap is_byte (part_word words start n i (omega (arith, len))) ∙ are i (omega (arith, len))),
      ext_get_or 0 bytes (map unsigned_abs part) (omega (arith, long, len, length-map part unsigned_abs))
          (λ i below.
          let inside : i < length part = omega (arith, long, len) in
          same i (omega (arith, long)) ∙ sym (get_or-map unsigned_abs part i (pos 0) 0 inside ∙ ap unsigned_abs (part_word words start n i (omega (arith, long))))),
    )

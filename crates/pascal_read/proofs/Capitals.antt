-- The letters and digits of a name, in capitals.
use Rattle.std.proofs.Common.{◌≡◌, ℕ, ◌<◌, ◌≤◌, true, ◌⊎◌, List, [], ◌∷◌, length, refl, map, arith}
use Rattle.std.specs.Prelude.{take_while, slice_index}
use Rattle.std.specs.List.{list_all}
use Rattle.std.proofs.lemmas.Bool.Decides.{nat_tests}
use Rattle.solo_base.specs.Ident.{is_letter, is_letter_or_digit, capital}
use Rattle.pascal_tree.specs.Word.{IsCapital, IsDigit, AreCapitalsAndDigits, IsName}
use Rattle.std.specs.Cmp.{first_so, second_so}
use Rattle.std.proofs.lemmas.List.{length-map}
use Rattle.pascal_read.proofs.Fronts.{list_all-take_while, take_while-passes, length-take_while}

IsCapital-letter : (code : ℕ) → is_letter code ≡ true → IsCapital (capital code)
IsCapital-letter code letter = grind (arith, nat_tests)

either-letter_or_digit : (code : ℕ) → is_letter_or_digit code ≡ true → IsCapital (capital code) ⊎ IsDigit (capital code)
either-letter_or_digit code either = grind (arith, nat_tests)

letter_passes : (code : ℕ) → is_letter code ≡ true → is_letter_or_digit code ≡ true
letter_passes code letter = rw letter refl

AreCapitalsAndDigits-map : (codes : List ℕ) → list_all is_letter_or_digit codes ≡ true → AreCapitalsAndDigits (map capital codes)
AreCapitalsAndDigits-map [] each = tt
AreCapitalsAndDigits-map (code ∷ others) each = (
  either-letter_or_digit code (first_so _ _ each),
  AreCapitalsAndDigits-map others (second_so _ _ each),
)

-- what begins with a letter is a name, where its letters and digits are not too many
pub IsName-front : (code : ℕ) (others : List ℕ) → is_letter code ≡ true → length (take_while is_letter_or_digit (code ∷ others)) ≤ 132 → IsName (map capital (take_while is_letter_or_digit (code ∷ others)))
IsName-front code others letter short =
    let front = take_while is_letter_or_digit others in
    let all = take_while-passes is_letter_or_digit code others (letter_passes code letter) in
    let few : length (code ∷ front) ≤ 132 = rw all at short in
    rw all (
      IsCapital-letter code letter,
      AreCapitalsAndDigits-map front (list_all-take_while is_letter_or_digit others),
      omega (arith, length-map front capital),
    )

pub IsName-capitals : (text : List ℕ) → 0 < length text → is_letter (slice_index text 0) ≡ true → length text ≤ 132 → IsName (map capital (take_while is_letter_or_digit text))
IsName-capitals [] begun letter short = absurd (omega arith)
IsName-capitals (code ∷ others) begun letter short =
    IsName-front code others letter (omega (arith, length-take_while is_letter_or_digit (code ∷ others)))

-- Names in capitals, with blanks behind them and without.
use Rattle.std.proofs.Common.{◌≡◌, ℕ, zero, suc, ◌+◌, ◌-◌, ◌<◌, ◌≤◌, List, [], ◌∷◌, ◌++◌, length, append_assoc, take, drop, get_or, refl, ap, ◌∙◌, sym, arith, true, false, Bool, Some, None}
use Rattle.std.specs.Prelude.{map, replicate, ◌&&◌, if◌then◌else◌, nat_le, slice_set}
use Rattle.std.specs.List.{list_all}
use Rattle.std.proofs.lemmas.Bool.Decides.{nat_tests}
use Rattle.std.proofs.lemmas.List.{take_more, take_all, length-map, length-take-le}
use Rattle.std.proofs.lemmas.List.{map-append}
use Rattle.std.proofs.Math.Seq.{set-append_seam}
use Rattle.solo_base.specs.Line.{is_printable}
use Rattle.solo_base.specs.Blanks.{before_trimmed, trimmed}
use Rattle.solo_base.specs.Ident.{identifier, is_name, is_letter, is_letter_or_digit, capital, padded, IsIdent}

pub is_name-first : (s : List ℕ) → 1 ≤ length s → is_name s ≡ (is_letter (get_or s 0 0) && list_all is_letter_or_digit (take (length s - 1) (drop 1 s)))
is_name-first [] some = absurd (omega arith)
is_name-first (x ∷ xs) some =
    let all : take (length (x ∷ xs) - 1) xs ≡ xs = take_all (length (x ∷ xs) - 1) xs (omega arith) in
    ap (λ s. is_letter x && list_all is_letter_or_digit s) (sym all)

both : (a b : Bool) → a && b ≡ true → (a ≡ true) × (b ≡ true)
both true b is = (refl, is)
both false b is = cc

-- a letter or a digit prints
prints : (code : ℕ) → is_letter_or_digit code ≡ true → is_printable code ≡ true
prints code is = grind (arith, nat_tests)

all_print : (s : List ℕ) → list_all is_letter_or_digit s ≡ true → list_all is_printable s ≡ true
all_print [] is = refl
all_print (x ∷ xs) is =
    let parts : (is_letter_or_digit x ≡ true) × (list_all is_letter_or_digit xs ≡ true) = both (is_letter_or_digit x) (list_all is_letter_or_digit xs) is in
    rw (prints x parts.0, all_print xs parts.1) refl

letter : (code : ℕ) → is_letter code ≡ true → is_letter_or_digit code ≡ true
letter code is = rw is refl

name_prints : (s : List ℕ) → is_name s ≡ true → list_all is_printable s ≡ true
name_prints [] is = refl
name_prints (x ∷ xs) is =
    let parts : (is_letter x ≡ true) × (list_all is_letter_or_digit xs ≡ true) = both (is_letter x) (list_all is_letter_or_digit xs) is in
    rw (prints x (letter x parts.0), all_print xs parts.1) refl

-- what an identifier says of its name
record Spells (name bytes : List ℕ) : Type 0 where
  short : length name ≤ 12
  is : is_name name ≡ true
  padded_is : padded (map capital name) ≡ bytes

chosen : (short is : Bool) (padded_name bytes : List ℕ) → (if short && is then Some padded_name else None) ≡ Some bytes → (short ≡ true) × (is ≡ true) × (padded_name ≡ bytes)
chosen true true padded_name bytes same = (refl, refl, cc)
chosen true false padded_name bytes same = cc
chosen false is padded_name bytes same = cc

spells : (name bytes : List ℕ) → identifier name ≡ Some bytes → Spells name bytes
spells name bytes same =
    let parts : (nat_le (length name) 12 ≡ true) × (is_name name ≡ true) × (padded (map capital name) ≡ bytes) =
    chosen (nat_le (length name) 12) (is_name name) (padded (map capital name)) bytes same in
    record { short = grind (arith, nat_tests, parts.0); is = parts.1; padded_is = parts.2 }

pub printable_name : (bytes : List ℕ) → IsIdent bytes → list_all is_printable (trimmed bytes) ≡ true
printable_name bytes is = name_prints (trimmed bytes) (spells (trimmed bytes) bytes is).is

-- a capital stays, and so does a digit
capital-capital : (code : ℕ) → capital (capital code) ≡ capital code
capital-capital code = grind (arith, nat_tests)

map_capital-map_capital : (s : List ℕ) → map capital (map capital s) ≡ map capital s
map_capital-map_capital [] = refl
map_capital-map_capital (x ∷ xs) = rw (capital-capital x, map_capital-map_capital xs) refl

-- a blank ends no name
not_blank : (code : ℕ) → is_letter_or_digit code ≡ true → code ≡ 32 → ⊥
not_blank code is blank = grind (arith, nat_tests)

trimmed-blanks : (k : ℕ) → trimmed (replicate k 32) ≡ []
trimmed-blanks zero = refl
trimmed-blanks (suc k) = ap (before_trimmed 32) (trimmed-blanks k)

before-some : (x : ℕ) (rest : List ℕ) → (x ≡ 32 → ⊥) → before_trimmed x rest ≡ x ∷ rest
before-some x [] other = grind (arith, nat_tests)
before-some x (y ∷ rest) other = refl

trimmed-padded : (s : List ℕ) (k : ℕ) → list_all is_letter_or_digit s ≡ true → trimmed (s ++ replicate k 32) ≡ s
trimmed-padded [] k is = trimmed-blanks k
trimmed-padded (x ∷ xs) k is =
    let parts : (is_letter_or_digit x ≡ true) × (list_all is_letter_or_digit xs ≡ true) = both (is_letter_or_digit x) (list_all is_letter_or_digit xs) is in
    rw (trimmed-padded xs k parts.1) (before-some x xs (not_blank x parts.0))

capital_is : (code : ℕ) → is_letter_or_digit code ≡ true → is_letter_or_digit (capital code) ≡ true
capital_is code is = grind (arith, nat_tests)

capital_letter : (code : ℕ) → is_letter code ≡ true → is_letter (capital code) ≡ true
capital_letter code is = grind (arith, nat_tests)

capitals_are : (s : List ℕ) → list_all is_letter_or_digit s ≡ true → list_all is_letter_or_digit (map capital s) ≡ true
capitals_are [] is = refl
capitals_are (x ∷ xs) is =
    let parts : (is_letter_or_digit x ≡ true) × (list_all is_letter_or_digit xs ≡ true) = both (is_letter_or_digit x) (list_all is_letter_or_digit xs) is in
    rw (capital_is x parts.0, capitals_are xs parts.1) refl

capital_name : (s : List ℕ) → is_name s ≡ true → is_name (map capital s) ≡ true
capital_name [] is = is
capital_name (x ∷ xs) is =
    let parts : (is_letter x ≡ true) × (list_all is_letter_or_digit xs ≡ true) = both (is_letter x) (list_all is_letter_or_digit xs) is in
    rw (capital_letter x parts.0, capitals_are xs parts.1) refl

name_is : (s : List ℕ) → is_name s ≡ true → list_all is_letter_or_digit s ≡ true
name_is [] is = refl
name_is (x ∷ xs) is =
    let parts : (is_letter x ≡ true) × (list_all is_letter_or_digit xs ≡ true) = both (is_letter x) (list_all is_letter_or_digit xs) is in
    rw (letter x parts.0, parts.1) refl

short_name : (n : ℕ) → n ≤ 12 → nat_le n 12 ≡ true
short_name n few = grind (arith, nat_tests)

pub IsIdent-padded : (s : List ℕ) → length s ≤ 12 → is_name s ≡ true → IsIdent (padded (map capital s))
IsIdent-padded s short is =
    let capitals : is_name (map capital s) ≡ true = capital_name s is in
    let trim : trimmed (padded (map capital s)) ≡ map capital s = trimmed-padded (map capital s) (12 - length (map capital s)) (name_is (map capital s) capitals) in
    let few : nat_le (length (map capital s)) 12 ≡ true = rw (length-map s capital) (short_name (length s) short) in
    rw (trim, few, capitals, map_capital-map_capital s) refl

-- one more capital in front of the blanks
one_more : (room : ℕ) (done : List ℕ) (new : ℕ) → length done < room →
    slice_set (done ++ replicate (room - length done) 32) (length done) new ≡ (done ++ new ∷ []) ++ replicate (room - (length done + 1)) 32
one_more room done new below =
    let next : room - length done ≡ suc (room - (length done + 1)) = omega arith in
    rw (next, set-append_seam done 32 (replicate (room - (length done + 1)) 32) new, append_assoc done (new ∷ []) (replicate (room - (length done + 1)) 32)) refl

pub one_capital_more : (bytes : List ℕ) (place new : ℕ) → place < length bytes → length bytes ≤ 12 → new ≡ capital (get_or bytes place 0) →
    slice_set (map capital (take place bytes) ++ replicate (12 - place) 32) place new ≡ map capital (take (place + 1) bytes) ++ replicate (12 - (place + 1)) 32
one_capital_more bytes place new below few is =
    let done : List ℕ = map capital (take place bytes) in
    let count : length (map capital (take place bytes)) ≡ place = length-map (take place bytes) capital ∙ length-take-le place bytes (omega arith) in
    let step : slice_set (map capital (take place bytes) ++ replicate (12 - length (map capital (take place bytes))) 32) (length (map capital (take place bytes))) new
    ≡ (map capital (take place bytes) ++ new ∷ []) ++ replicate (12 - (length (map capital (take place bytes)) + 1)) 32
    = one_more 12 (map capital (take place bytes)) new (omega arith) in
    let more : map capital (take (place + 1) bytes) ≡ map capital (take place bytes) ++ new ∷ [] =
    rw (take_more bytes place 0 below, map-append capital (take place bytes) (get_or bytes place 0 ∷ []), is) refl in
    rw more (rw count at step)

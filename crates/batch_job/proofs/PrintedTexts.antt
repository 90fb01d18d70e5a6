-- Texts of so many printable codes: parts of lines, names without their blanks, and numbers.
use Rattle.std.proofs.Common.{◌≡◌, ℕ, zero, suc, ◌+◌, ◌-◌, ◌%◌, ◌^◌, ◌≤◌, ◌<◌, ◌==◌, Bool, true, false, ◌&&◌, nat_le, if◌then◌else◌, List, [], ◌∷◌, ◌++◌, length, map, replicate, None, Some, refl, ◌∙◌, subst, arith}
use Rattle.std.specs.List.{AllByRecursion, list_all}
use Rattle.std.specs.Fmt.{decimal}
use Rattle.std.proofs.lemmas.Fmt.{decimal_by_steps, length-decimal-le}
use Rattle.std.proofs.lemmas.List.{length-append, length-map}
use Rattle.std.proofs.lemmas.List.Folds.{list_all-append}
use Rattle.std.proofs.lemmas.Bool.Decides.{nat_tests}
use Rattle.solo_base.specs.Line.{is_printable, IsLine}
use Rattle.solo_base.specs.Ident.{is_letter, is_letter_or_digit, capital, is_name, padded, identifier}
use Rattle.solo_base.specs.Blanks.{before_trimmed, trimmed}

-- ---- texts of so many printable codes
pub record Prints (n : ℕ) (text : List ℕ) : Type 0 where
  pub short : length text ≤ n
  pub printable : list_all is_printable text ≡ true

pub append-prints : (n m : ℕ) (a b : List ℕ) → Prints n a → Prints m b → Prints (n + m) (a ++ b)
append-prints n m a b x y = record {
  short = (let one = x.short in let two = y.short in omega (arith, one, two, length-append a b));
  printable = list_all-append is_printable a b ∙ rw (x.printable, y.printable) refl;
}

pub is-line : (n : ℕ) (text : List ℕ) → n ≤ 132 → Prints n text → IsLine text
is-line n text few p = record { short = (let short = p.short in omega (arith, few, short)); printable = p.printable }

-- ---- lines
abbrev pub AreLinesOf : List (List ℕ) → Type 0
AreLinesOf lines = AllByRecursion IsLine lines

pub append-lines : (a b : List (List ℕ)) → AreLinesOf a → AreLinesOf b → AreLinesOf (a ++ b)
append-lines [] b x y = y
append-lines (line ∷ a) b x y = (x.0, append-lines a b x.1 y)

-- ---- names
both : (a b : Bool) → (a && b) ≡ true → (a ≡ true) × (b ≡ true)
both true true e = (refl, refl)
both true false e = absurd cc
both false b e = absurd cc

capital-prints : (code : ℕ) → is_letter_or_digit code ≡ true → is_printable (capital code) ≡ true
capital-prints code is = grind (arith, nat_tests)

letter-is : (code : ℕ) → is_letter code ≡ true → is_letter_or_digit code ≡ true
letter-is code is = rw is refl

all-prints : (s : List ℕ) → list_all is_letter_or_digit s ≡ true → list_all is_printable (map capital s) ≡ true
all-prints [] is = refl
all-prints (x ∷ xs) is = let parts = both (is_letter_or_digit x) (list_all is_letter_or_digit xs) is in
    rw (capital-prints x parts.0, all-prints xs parts.1) refl

name-prints : (s : List ℕ) → is_name s ≡ true → list_all is_printable (map capital s) ≡ true
name-prints [] is = refl
name-prints (x ∷ xs) is = let parts = both (is_letter x) (list_all is_letter_or_digit xs) is in
    rw (capital-prints x (letter-is x parts.0), all-prints xs parts.1) refl

blanks-print : (k : ℕ) → list_all is_printable (replicate k 32) ≡ true
blanks-print zero = refl
blanks-print (suc k) = blanks-print k

blanks-length : (k : ℕ) → length {A = ℕ} (replicate k 32) ≡ k
blanks-length zero = refl
blanks-length (suc k) = let rest = blanks-length k in omega (arith, rest)

padded-prints : (s : List ℕ) → length s ≤ 12 → is_name s ≡ true → Prints 12 (padded (map capital s))
padded-prints s few is = record {
  short = (let one = length-map s capital in let two = blanks-length (12 - length (map capital s)) in
      let three = length-append (map capital s) (replicate (12 - length (map capital s)) 32) in omega (arith, few, one, two, three));
  printable = list_all-append is_printable (map capital s) (replicate (12 - length (map capital s)) 32)
      ∙ rw (name-prints s is, blanks-print (12 - length (map capital s))) refl;
}

before-prints : (n code : ℕ) (rest : List ℕ) → is_printable code ≡ true → Prints n rest → Prints (n + 1) (before_trimmed code rest)
before-prints n code [] is p =
    let P : Bool → Type 0 = λ t. Prints (n + 1) (if t then [] else code ∷ []) in
    elim (code == 32) as P [
      | true ↦ record { short = omega arith; printable = refl }
      | false ↦ record { short = omega arith; printable = rw is refl }
    ]
before-prints n code (next ∷ rest) is p = record { short = (let short = p.short in omega (arith, short)); printable = rw is p.printable }

trimmed-prints : (s : List ℕ) → list_all is_printable s ≡ true → Prints (length s) (trimmed s)
trimmed-prints [] is = record { short = omega arith; printable = refl }
trimmed-prints (x ∷ xs) is =
    let parts = both (is_printable x) (list_all is_printable xs) is in
    let p = before-prints (length xs) x (trimmed xs) parts.0 (trimmed-prints xs parts.1) in
    record { short = (let short = p.short in omega (arith, short)); printable = p.printable }

-- what is known of a name: without its blanks it prints
abbrev pub IsNamed : List ℕ → Type 0
IsNamed name = Prints 12 (trimmed name)

named-by : (short is : Bool) (s name : List ℕ) → (short ≡ true → length s ≤ 12) → is_name s ≡ is
    → (if short && is then Some (padded (map capital s)) else None) ≡ Some name → IsNamed name
named-by true true s name few is e =
    let p = padded-prints s (few refl) is in
    let t = trimmed-prints (padded (map capital s)) p.printable in
    let same : padded (map capital s) ≡ name = cc in
    subst IsNamed same record { short = (let a = t.short in let b = p.short in omega (arith, a, b)); printable = t.printable }
named-by true false s name few is e = absurd cc
named-by false is s name few e same = absurd cc

short-name : (n : ℕ) → nat_le n 12 ≡ true → n ≤ 12
short-name n e = grind (arith, nat_tests, e)

pub identifier-named : (s name : List ℕ) → identifier s ≡ Some name → IsNamed name
identifier-named s name e = named-by (nat_le (length s) 12) (is_name s) s name (short-name (length s)) refl e

-- ---- numbers
digit : (d : ℕ) → d < 10 → is_printable (48 + d) ≡ true
digit d small = grind (arith, nat_tests)

one_digit : (n : ℕ) → n < 10 → list_all is_printable ((48 + n) ∷ []) ≡ true
one_digit n small = rw (digit n small) refl

one_more : (n : ℕ) (ds : List ℕ) → 10 ≤ n → list_all is_printable ds ≡ true → list_all is_printable (ds ++ ((48 + n % 10) ∷ [])) ≡ true
one_more n ds big h = let last : n % 10 < 10 = omega arith in rw (list_all-append is_printable ds ((48 + n % 10) ∷ []), h, digit (n % 10) last) refl

pub number-prints : (n : ℕ) → n < 2 ^ 32 → Prints 10 (decimal n)
number-prints n small = record {
  short = length-decimal-le 10 n (omega (arith, small)) (omega (arith, small)) (omega (arith, small));
  printable = decimal_by_steps (λ n ds. list_all is_printable ds ≡ true) one_digit one_more n (omega (arith, small));
}

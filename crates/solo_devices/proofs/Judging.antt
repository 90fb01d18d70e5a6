-- What is taken off a line's end leaves a line that is no longer, and prints as it did.
use Rattle.std.proofs.Common.{◌≡◌, ℕ, ◌+◌, ◌-◌, ◌<◌, ◌≤◌, List, [], ◌∷◌, ◌++◌, length, take, get_or, refl, ap, ◌∙◌, sym, arith, Bool, true, false}
use Rattle.std.specs.Prelude.{◌&&◌}
use Rattle.std.specs.List.{list_all}
use Rattle.std.proofs.lemmas.List.{take_more, take_all}
use Rattle.std.proofs.lemmas.Bool.Decides.{nat_tests}
use Rattle.solo_base.specs.Line.{is_printable}
use Rattle.solo_base.specs.Blanks.{before_trimmed, trimmed}
use Rattle.solo_base.specs.Card.{without_return}

before_short : (x : ℕ) (rest : List ℕ) → length (before_trimmed x rest) ≤ length rest + 1
before_short x [] = grind (arith, nat_tests)
before_short x (y ∷ rest) = omega arith

pub length-trimmed-le : (s : List ℕ) → length (trimmed s) ≤ length s
length-trimmed-le [] = omega arith
length-trimmed-le (x ∷ xs) = omega (arith, before_short x (trimmed xs), length-trimmed-le xs)

both : (a b : Bool) → a && b ≡ true → (a ≡ true) × (b ≡ true)
both true b is = (refl, is)
both false b is = cc

before_prints : (x : ℕ) (rest : List ℕ) → is_printable x ≡ true → list_all is_printable rest ≡ true → list_all is_printable (before_trimmed x rest) ≡ true
before_prints x [] is are = grind (arith, nat_tests)
before_prints x (y ∷ rest) is are = rw (is, are) refl

pub trimmed_prints : (s : List ℕ) → list_all is_printable s ≡ true → list_all is_printable (trimmed s) ≡ true
trimmed_prints [] are = refl
trimmed_prints (x ∷ xs) are =
    let parts : (is_printable x ≡ true) × (list_all is_printable xs ≡ true) = both (is_printable x) (list_all is_printable xs) are in
    before_prints x (trimmed xs) parts.0 (trimmed_prints xs parts.1)

without_return-13 : (xs : List ℕ) → without_return (xs ++ 13 ∷ []) ≡ xs
without_return-13 [] = refl
without_return-13 (x ∷ []) = refl
without_return-13 (x ∷ y ∷ xs) = ap (λ l. x ∷ l) (without_return-13 (y ∷ xs))

alone : (y : ℕ) → (y ≡ 13 → ⊥) → without_return (y ∷ []) ≡ y ∷ []
alone y other = grind (arith, nat_tests)

without_return-other : (xs : List ℕ) (y : ℕ) → (y ≡ 13 → ⊥) → without_return (xs ++ y ∷ []) ≡ xs ++ y ∷ []
without_return-other [] y other = alone y other
without_return-other (x ∷ []) y other = ap (λ l. x ∷ l) (alone y other)
without_return-other (x ∷ z ∷ xs) y other = ap (λ l. x ∷ l) (without_return-other (z ∷ xs) y other)

last_apart : (s : List ℕ) → 1 ≤ length s → s ≡ take (length s - 1) s ++ get_or s (length s - 1) 0 ∷ []
last_apart s some =
    let below : length s - 1 < length s = omega arith in
    let whole : (length s - 1) + 1 ≡ length s = omega arith in
    sym (take_all (length s) s (omega arith)) ∙ ap (λ n. take n s) (sym whole) ∙ take_more s (length s - 1) 0 below

pub without_return-front : (s : List ℕ) → 1 ≤ length s → get_or s (length s - 1) 0 ≡ 13 → take (length s - 1) s ≡ without_return s
without_return-front s some is =
    sym (ap without_return (last_apart s some) ∙ ap (λ y. without_return (take (length s - 1) s ++ y ∷ [])) is ∙ without_return-13 (take (length s - 1) s))

pub without_return-own : (s : List ℕ) → 1 ≤ length s → (get_or s (length s - 1) 0 ≡ 13 → ⊥) → s ≡ without_return s
without_return-own s some other =
    last_apart s some ∙ sym (without_return-other (take (length s - 1) s) (get_or s (length s - 1) 0) other) ∙ ap without_return (sym (last_apart s some))

pub length-without_return : (s : List ℕ) → length s ≤ length (without_return s) + 1
length-without_return [] = omega arith
length-without_return (x ∷ []) = omega arith
length-without_return (x ∷ y ∷ xs) = omega (arith, length-without_return (y ∷ xs))

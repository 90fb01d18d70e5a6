-- A blank at the end goes; with any other character at the end nothing goes.
use Rattle.std.proofs.Common.{◌≡◌, ℕ, ◌+◌, ◌-◌, ◌<◌, ◌≤◌, List, [], ◌∷◌, ◌++◌, length, take, get_or, refl, ap, ◌∙◌, sym, arith}
use Rattle.std.proofs.lemmas.List.{take_more, take_all}
use Rattle.std.proofs.lemmas.Bool.Decides.{nat_tests}
use Rattle.solo_base.specs.Blanks.{before_trimmed, trimmed}

trimmed-blank : (xs : List ℕ) → trimmed (xs ++ 32 ∷ []) ≡ trimmed xs
trimmed-blank [] = refl
trimmed-blank (x ∷ xs) = ap (before_trimmed x) (trimmed-blank xs)

before_trimmed-append : (x y : ℕ) (xs : List ℕ) → before_trimmed x (xs ++ y ∷ []) ≡ x ∷ (xs ++ y ∷ [])
before_trimmed-append x y [] = refl
before_trimmed-append x y (z ∷ zs) = refl

alone : (y : ℕ) → (y ≡ 32 → ⊥) → trimmed (y ∷ []) ≡ y ∷ []
alone y other = grind (arith, nat_tests)

trimmed-other : (xs : List ℕ) (y : ℕ) → (y ≡ 32 → ⊥) → trimmed (xs ++ y ∷ []) ≡ xs ++ y ∷ []
trimmed-other [] y other = alone y other
trimmed-other (x ∷ xs) y other = ap (before_trimmed x) (trimmed-other xs y other) ∙ before_trimmed-append x y xs

-- a list that isn't empty is all but its last element, and that one
pub last_apart : (s : List ℕ) → 1 ≤ length s → s ≡ take (length s - 1) s ++ get_or s (length s - 1) 0 ∷ []
last_apart s some =
    let below : length s - 1 < length s = omega arith in
    let whole : (length s - 1) + 1 ≡ length s = omega arith in
    sym (take_all (length s) s (omega arith)) ∙ ap (λ n. take n s) (sym whole) ∙ take_more s (length s - 1) 0 below

pub trimmed-take_blank : (s : List ℕ) → 1 ≤ length s → get_or s (length s - 1) 0 ≡ 32 → trimmed (take (length s - 1) s) ≡ trimmed s
trimmed-take_blank s some blank =
    sym (trimmed-blank (take (length s - 1) s))
    ∙ ap (λ y. trimmed (take (length s - 1) s ++ y ∷ [])) (sym blank)
    ∙ ap trimmed (sym (last_apart s some))

pub trimmed-own : (s : List ℕ) → 1 ≤ length s → (get_or s (length s - 1) 0 ≡ 32 → ⊥) → trimmed s ≡ s
trimmed-own s some other =
    ap trimmed (last_apart s some)
    ∙ trimmed-other (take (length s - 1) s) (get_or s (length s - 1) 0) other
    ∙ sym (last_apart s some)

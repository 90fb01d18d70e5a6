-- Lists of views and lines, the lists of all processes, and the word of a compare-exchange.
use Rattle.std.proofs.Common.{◌≡◌, ℕ, zero, suc, ◌≢◌, ◌⊎◌, ◌<◌, eqb, cond, List, [], ◌∷◌, ◌++◌, length, inl, inr, refl, sym, ap, ◌∙◌, ⊎_elim, arith, eq-eqb, ne_eqb}
use prog.Atomic.{either}
use lib.ListN.{get_elem?}
use mathlib.Core.Option.{some, some-injective, some-ne-none}
use Rattle.monitor_gate.specs.declared.view.Line.{Line}
use Rattle.monitor_gate.specs.Views.{Each, AreApart}
use Rattle.monitor_gate.specs.Rule.{IsLineOf}

pub either_hit : (n old new : ℕ) → n ≡ old → either (eqb n old) new n ≡ new
either_hit n old new e = ap (λ b. either b new n) (eq-eqb n old e)

pub either_miss : (n old new : ℕ) → n ≢ old → either (eqb n old) new n ≡ n
either_miss n old new e = ap (λ b. either b new n) (ne_eqb n old e)

pub each_map : {A : Type 0} (P Q : A → Type 0) → ((x : A) → P x → Q x) → (xs : List A) → Each P xs → Each Q xs
each_map P Q f [] e = tt
each_map P Q f (x ∷ xs) e = (f x e.0, each_map P Q f xs e.1)

pub each_append : {A : Type 0} (P : A → Type 0) (xs ys : List A) → Each P xs → Each P ys → Each P (xs ++ ys)
each_append P [] ys e f = f
each_append P (x ∷ xs) ys e f = (e.0, each_append P xs ys e.1 f)

pub at_end : {A : Type 0} (l : List A) (a b : A) (j : ℕ) → get_elem? (l ++ a ∷ []) j ≡ some b → (get_elem? l j ≡ some b) ⊎ ((j ≡ length l) × (a ≡ b))
at_end [] a b zero e = inr (refl, some-injective a b e)
at_end [] a b (suc j) e = absurd (some-ne-none b (sym e))
at_end (x ∷ xs) a b zero e = inl e
at_end (x ∷ xs) a b (suc j) e = ⊎_elim (λ t. inl t) (λ (t : (j ≡ length xs) × (a ≡ b)). inr (ap suc t.0, t.1)) (at_end xs a b j e)

pub there : {A : Type 0} (l : List A) (i : ℕ) (a : A) → get_elem? l i ≡ some a → i < length l
there [] i a e = absurd (some-ne-none a (sym e))
there (x ∷ xs) zero a e = omega arith
there (x ∷ xs) (suc i) a e = let h = there xs i a e in omega arith

-- p goes to the seat, and every other number stays
abbrev pub with_owner : (ℕ → ℕ) → ℕ → ℕ → ℕ → ℕ
with_owner owner p seat q = cond (eqb q p) seat (owner q)

pub with_owner_same : (owner : ℕ → ℕ) (p seat : ℕ) → with_owner owner p seat p ≡ seat
with_owner_same owner p seat = ap (λ b. cond b seat (owner p)) (eq-eqb p p refl)

pub with_owner_other : (owner : ℕ → ℕ) (p seat q : ℕ) → q ≢ p → with_owner owner p seat q ≡ owner q
with_owner_other owner p seat q n = ap (λ b. cond b seat (owner q)) (ne_eqb q p n)

-- what one seat had goes to another
abbrev pub handed_over : (ℕ → ℕ) → ℕ → ℕ → ℕ → ℕ
handed_over owner from to q = cond (eqb (owner q) from) to (owner q)

pub handed_over_same : (owner : ℕ → ℕ) (from to q : ℕ) → owner q ≡ from → handed_over owner from to q ≡ to
handed_over_same owner from to q e = ap (λ b. cond b to (owner q)) (eq-eqb (owner q) from e)

pub handed_over_other : (owner : ℕ → ℕ) (from to q : ℕ) → owner q ≢ from → handed_over owner from to q ≡ owner q
handed_over_other owner from to q n = ap (λ b. cond b to (owner q)) (ne_eqb (owner q) from n)

-- the lines of two seats stand apart
pub apart_append : {E : Type 0} (lists : ℕ → List E) (owner : ℕ → ℕ) (made seat other : ℕ) → seat ≢ other → (xs ys : List (Line E)) → Each (IsLineOf lists owner made seat) xs → Each (IsLineOf lists owner made other) ys
    → AreApart xs → AreApart ys → AreApart (xs ++ ys)
apart_append lists owner made seat other ne [] ys a b c d = d
apart_append lists owner made seat other ne (x ∷ xs) ys a b c d = (
  each_append (λ m. m.number ≢ x.number) xs ys c.0 (each_map (IsLineOf lists owner made other) (λ m. m.number ≢ x.number) (λ m k e. ne (sym a.0.owned ∙ (ap owner (sym e) ∙ k.owned))) ys b),
  apart_append lists owner made seat other ne xs ys a.1 b c.1 d,
)

-- The least number that breaks a rule, found one number after the other.
use Rattle.std.proofs.Common.{◌≡◌, ℕ, ◌+◌, ◌<◌, min, Bool, true, false, Option, Some, None, refl, sym, subst, inl, inr, arith}
use Rattle.std.proofs.lemmas.Bool.{cases_eq, cases_lt}
use Rattle.disk_layout.specs.Judging.{JudgedBelow, noted_bad, earlier}

module _ (Keeps : ℕ → Type 0) where
  -- one number more, which is judged where none below it was bad
  pub judged_over : (n : ℕ) (bad : Option ℕ) (right : Bool) → (((k : ℕ) → k < n → Keeps k) → right ≡ true → Keeps n)
      → (((k : ℕ) → k < n → Keeps k) → right ≡ false → Keeps n → ⊥)
      → JudgedBelow Keeps n bad → JudgedBelow Keeps (n + 1) (noted_bad bad n right)
  judged_over n (Some bad) right good wrong j = (omega (arith, j.0), j.1, j.2)
  judged_over n None true good wrong j = λ i below. elim (cases_eq i n) [
    | inl last ↦ subst Keeps (sym last) (good j refl)
    | inr earlier ↦ j i (omega (arith, below, earlier))
  ]
  judged_over n None false good wrong j = (omega arith, wrong j refl, j)

  -- one number more that keeps the rule
  pub judged_on : (n : ℕ) (bad : Option ℕ) → Keeps n → JudgedBelow Keeps n bad → JudgedBelow Keeps (n + 1) bad
  judged_on n (Some bad) keeps j = (omega (arith, j.0), j.1, j.2)
  judged_on n None keeps j = λ i below. elim (cases_eq i n) [
    | inl last ↦ subst Keeps (sym last) keeps
    | inr earlier ↦ j i (omega (arith, below, earlier))
  ]

-- the least that breaks either of two rules
pub judged_both : (P Q : ℕ → Type 0) (n : ℕ) (bad other : Option ℕ) → JudgedBelow P n bad → JudgedBelow Q n other
    → JudgedBelow (λ k. P k × Q k) n (earlier bad other)
judged_both P Q n None None j l = λ k below. (j k below, l k below)
judged_both P Q n None (Some b) j l = (l.0, (λ both. l.1 both.1), λ k below. (j k (omega (arith, below, l.0)), l.2 k below))
judged_both P Q n (Some a) None j l = (j.0, (λ both. j.1 both.0), λ k below. (j.2 k below, l k (omega (arith, below, j.0))))
judged_both P Q n (Some a) (Some b) j l = (
  omega (arith, j.0, l.0),
  (λ both. elim (cases_lt a b) [
    | inl first ↦ let is : min a b ≡ a = omega (arith, first) in j.1 (subst P is both.0)
    | inr not_first ↦ let is : min a b ≡ b = omega (arith, not_first) in l.1 (subst Q is both.1)
  ]),
  λ k below. (j.2 k (omega (arith, below)), l.2 k (omega (arith, below))),
)

pub earlier_none : (bad other : Option ℕ) → earlier bad other ≡ None → bad ≡ None
earlier_none None other e = refl
earlier_none (Some a) None e = e
earlier_none (Some a) (Some b) e = absurd (some_is_none e)
  where
    some_is_none : ◌≡◌ {A = Option ℕ} (Some (min a b)) None → ⊥
    some_is_none x = cc

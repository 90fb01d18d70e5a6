-- The least number that passes a test: a search from below finds it.
use Rattle.std.proofs.Common.{◌≡◌, ℕ, zero, suc, ◌+◌, ◌-◌, ◌<◌, ◌≤◌, Bool, true, false, Some, None, refl, sym, ◌∙◌, arith}
use Rattle.std.proofs.Common.{inl, inr}
use Rattle.std.proofs.lemmas.Bool.{cases_Bool, cases_eq, cond-true, cond-false}
use Rattle.stack_code.specs.CodeFile.{least}

some_is_none : (n : ℕ) → Some n ≡ None → ⊥
some_is_none n e = cc

pub least_here : (test : ℕ → Bool) (i end : ℕ) → i < end → test i ≡ true → least test i (end - i) ≡ Some i
unfolding least
least_here test i end below passes =
    let n-is : end - i ≡ suc (end - (i + 1)) = omega arith in
    rw n-is (cond-true (test i) (Some i) (least test (i + 1) (end - (i + 1))) passes)

pub least_further : (test : ℕ → Bool) (i end : ℕ) → i < end → test i ≡ false → least test i (end - i) ≡ least test (i + 1) (end - (i + 1))
unfolding least
least_further test i end below fails =
    let n-is : end - i ≡ suc (end - (i + 1)) = omega arith in
    rw n-is (cond-false (test i) (Some i) (least test (i + 1) (end - (i + 1))) fails)

pub least_nowhere : (test : ℕ → Bool) (i end : ℕ) → end ≤ i → least test i (end - i) ≡ None
unfolding least
least_nowhere test i end past =
    let n-is : end - i ≡ 0 = omega arith in
    rw n-is refl

-- where none passes, each fails
pub fails_below : (test : ℕ → Bool) (first n : ℕ) → least test first n ≡ None → (k : ℕ) → first ≤ k → k < first + n → test k ≡ false
unfolding least
fails_below test first zero none k above below = absurd (omega arith)
fails_below test first (suc n) none k above below =
    elim (cases_Bool (test first)) [
      | inl passes ↦ absurd (some_is_none first (sym (cond-true (test first) (Some first) (least test (first + 1) n) passes) ∙ none))
      | inr fails ↦
          let rest : least test (first + 1) n ≡ None = sym (cond-false (test first) (Some first) (least test (first + 1) n) fails) ∙ none in
          elim (cases_eq k first) [
            | inl same ↦ rw same fails
            | inr other ↦ fails_below test (first + 1) n rest k (omega arith) (omega arith)
          ]
    ]

-- where each fails, there is none
pub none_passes : (test : ℕ → Bool) (first n : ℕ) → ((k : ℕ) → first ≤ k → k < first + n → test k ≡ false) → least test first n ≡ None
unfolding least
none_passes test first zero fails = refl
none_passes test first (suc n) fails =
    cond-false (test first) (Some first) (least test (first + 1) n) (fails first (omega arith) (omega arith))
    ∙ none_passes test (first + 1) n (λ k above below. fails k (omega arith) (omega arith))

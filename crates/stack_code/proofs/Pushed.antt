-- One more element at a list's end.
use Rattle.std.proofs.Common.{◌≡◌, ℕ, ◌+◌, ◌<◌, List, [], ◌∷◌, ◌++◌, length, get_or, ◌∙◌, ap, arith, inl, inr}
use Rattle.std.proofs.lemmas.Bool.{cases_eq}
use Rattle.std.proofs.lemmas.List.{length-append, get_or_append_left, get_or_push}

-- what holds of each element, and of the new one, holds of each of the longer list
pub pushed : {X : Type 0} (P : ℕ → X → Type 0) (xs ys : List X) (x d : X) (n : ℕ) → ys ≡ xs ++ x ∷ [] → (length xs ≡ n) × ((q : ℕ) → q < n → P q (get_or xs q d)) → P n x → (length ys ≡ n + 1) × ((q : ℕ) → q < n + 1 → P q (get_or ys q d))
pushed P xs ys x d n more each new = (
  ap length more ∙ length-append xs (x ∷ []) ∙ omega (arith, each.0),
  λ q below. elim (cases_eq q n) [
    | inl last ↦ rw (more, last, get_or_push xs x d n each.0) new
    | inr other ↦ rw (more, get_or_append_left xs (x ∷ []) d q (omega (arith, each.0, other))) (each.1 q (omega (arith, other)))
  ],
)

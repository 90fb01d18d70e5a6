-- One turn of a loop over declarations, each of which is judged where those before it leave off.
use Rattle.std.proofs.Common.{◌≡◌, ℕ, ◌<◌, ◌+◌, List, ◌∷◌, ◌++◌, length, drop, slice_index_or, Option, None, sym, ap, ◌∙◌, add-one, drop-cons}
use Rattle.pascal_tree.specs.ExpressionRules.{Judged}
use Rattle.pascal_tree.specs.DeclarationRules.{first_broken}
use Rattle.pascal_tree.specs.declared.broken.Broken.{Broken}
use Rattle.pascal_check.specs.declared.fault.CheckFault.{CheckFault}
use Rattle.pascal_check.specs.Faults.{IsFault}
use Rattle.pascal_check.proofs.Firsts.{first_behind}
use Rattle.pascal_check.proofs.Faulty.{fault_same, fault_here}

-- what is left of a list from its next element on
pub next_item : {A : Type 0} (xs : List A) (k : ℕ) (x : A) → x ≡ slice_index_or xs k x → k < length xs → drop k xs ≡ x ∷ drop (k + 1) xs
next_item xs k x is within =
    drop-cons xs k x within
    ∙ ap (λ i. slice_index_or xs k x ∷ drop i xs) (sym (add-one k))
    ∙ ap (λ y. y ∷ drop (k + 1) xs) (sym is)

-- what is left of a judgement, behind nodes that break no rule
left_behind : (here more : Judged) (o : Option Broken) → first_broken here ≡ None → first_broken (here ++ more) ≡ o → first_broken more ≡ o
left_behind here more o none is = sym (first_behind here more none) ∙ is

-- a place, what is said of a declaration there and of several, and the place behind one
module _ {S A : Type 0} (one : S → A → Judged) (all : S → List A → Judged) (behind : S → A → S)
    (step : (s : S) (x : A) (more : List A) → all s (x ∷ more) ≡ one s x ++ all (behind s x) more) where
  pub turn_judged : (s t : S) (x : A) (left more : List A) (o : Option Broken) → left ≡ x ∷ more
      → first_broken (one s x) ≡ None → t ≡ behind s x → first_broken (all s left) ≡ o → first_broken (all t more) ≡ o
  turn_judged s t x left more o split none at is =
      ap (λ u. first_broken (all u more)) at
      ∙ left_behind (one s x) (all (behind s x) more) o none
      (ap first_broken (sym (step s x more)) ∙ ap (λ l. first_broken (all s l)) (sym split) ∙ is)

  -- a fault of the declaration that comes next is one of the whole
  pub turn_fault : (s : S) (x : A) (left more : List A) (whole : Judged) (f : CheckFault) → left ≡ x ∷ more
      → first_broken (all s left) ≡ first_broken whole → IsFault (one s x) f → IsFault whole f
  turn_fault s x left more whole f split is bad =
      fault_same whole (one s x ++ all (behind s x) more) f
      (sym is ∙ ap (λ l. first_broken (all s l)) split ∙ ap first_broken (step s x more))
      (fault_here (one s x) (all (behind s x) more) f bad)

-- the place behind several
pub turn_behind : {S A : Type 0} (behind_all : S → List A → S) (behind : S → A → S)
    → ((s : S) (x : A) (more : List A) → behind_all s (x ∷ more) ≡ behind_all (behind s x) more)
    → (s t u : S) (x : A) (left more : List A) → left ≡ x ∷ more → t ≡ behind s x → behind_all s left ≡ u → behind_all t more ≡ u
turn_behind behind_all behind step s t u x left more split at is =
    ap (λ v. behind_all v more) at ∙ sym (step s x more) ∙ ap (behind_all s) (sym split) ∙ is

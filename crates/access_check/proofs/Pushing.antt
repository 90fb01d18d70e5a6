-- Where the names of a list stand once one more stands behind them.
use Rattle.std.proofs.Common.{◌≡◌, ℕ, ◌+◌, Bool, true, false, cond, List, [], ◌∷◌, ◌++◌, length, refl, ap, ◌∙◌, arith}
use Rattle.std.specs.Prelude.{Option, Some, None, is_some}
use Rattle.std.specs.Ordering.{nat_cmp, is_eq}
use Rattle.std.specs.List.{position_from}
use Rattle.std.specs.Cmp.Lexicographic.{slice_cmp}
use Rattle.std.specs.declared.cmp.Ordering.{Ordering}
use Rattle.std.proofs.lemmas.Bool.Decides.{nat_tests}
use Rattle.std.proofs.lemmas.Cmp.{same_from_slice_cmp}
use Rattle.std.proofs.lemmas.Slice.Eq.{bytes_eq-Decides}
use Rattle.access_check.specs.Places.{same, place, has}

abbrev or_place : Option ℕ → Option ℕ → Option ℕ
or_place (Some n) other = Some n
or_place None other = other

at : (here last : Bool) (i j k : ℕ) (before all : Option ℕ) → j ≡ k → all ≡ or_place before (cond last (Some j) None)
    → cond here (Some i) all ≡ or_place (cond here (Some i) before) (cond last (Some k) None)
at true last i j k before all e is = refl
at false last i j k before all e is = is ∙ ap (λ n. or_place before (cond last (Some n) None)) e

place_from : (names : List (List ℕ)) (i : ℕ) (key name : List ℕ)
    → position_from (same name) i (names ++ key ∷ [])
    ≡ or_place (position_from (same name) i names) (cond (same name key) (Some (i + length names)) None)
place_from [] i key name = ap (λ n. cond (same name key) (Some n) None) (omega arith)
place_from (x ∷ names) i key name =
    at (same name x) (same name key) i (i + 1 + length names) (i + length (x ∷ names))
    (position_from (same name) (i + 1) names) (position_from (same name) (i + 1) (names ++ key ∷ []))
    (omega arith) (place_from names (i + 1) key name)

-- the order of characters finds the same names as their equality
pub is_same : (key name : List ℕ) (o : Ordering) → o ≡ slice_cmp nat_cmp key name → is_eq o ≡ same name key
is_same = same_from_slice_cmp nat_cmp is_eq (λ key name. same name key) refl (λ _ _. refl) (λ _ _. refl) (λ x y xs ys o h. grind (arith, nat_tests))

none : (place : Option ℕ) → is_some place ≡ false → place ≡ None
none (Some n) is = absurd (grind arith)
none None is = refl

chosen : (b : Bool) (n : ℕ) (old : Option ℕ) → (b ≡ true → old ≡ None)
    → or_place old (cond b (Some (0 + n)) None) ≡ cond b (Some n) old
chosen true n old is = rw (is refl) (ap Some (omega arith))
chosen false n (Some m) is = refl
chosen false n None is = refl

-- a new name stands behind the others, and each of them where it stood
pub pushed : (names : List (List ℕ)) (key : List ℕ) → has names key ≡ false → (name : List ℕ)
    → place (names ++ key ∷ []) name ≡ cond (is_eq (slice_cmp nat_cmp key name)) (Some (length names)) (place names name)
pushed names key new name =
    let outside : same name key ≡ true → place names name ≡ None =
    λ is. rw ((bytes_eq-Decides name key).0 is) (none (place names key) new) in
    rw (is_same key name (slice_cmp nat_cmp key name) refl)
    (place_from names 0 key name ∙ chosen (same name key) (length names) (place names name) outside)

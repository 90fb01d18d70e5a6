-- What lies at the places of a ring.
use Rattle.std.proofs.Common.{◌≡◌, ◌≢◌, ℕ, zero, suc, ◌+◌, ◌<◌, ◌≤◌, List, [], ◌∷◌, ◌++◌, length, get_or, set, refl, ap, ap₂, ◌∙◌, arith, get_or-set_same, get_or-set_other, zero-add, add-one}
use Rattle.std.proofs.lemmas.List.{length-map, map-append}
use Rattle.queue_var.specs.Circle.{place, places}
use Rattle.queue_var.proofs.Places.{length-places, places-last, places-step}
use Rattle.disk_spool.specs.Ring.{at_places}

place_apart : (N first i j : ℕ) → first < N → i < N → j < N → i ≢ j → place N first i ≢ place N first j
place_apart N first i j a b c ne e = grind (arith, e)

pub place_below : (N first i : ℕ) → first < N → i ≤ N → place N first i < N
place_below N first i a b = grind arith

place_none : (N first : ℕ) → first < N → place N first 0 ≡ first
place_none N first a = grind arith

module _ {X : Type 0} (d : X) where
  pub length_at_places : (items : List X) (N first k : ℕ) → length (at_places d items (places N first 0 k)) ≡ k
  length_at_places items N first k = length-map (places N first 0 k) (λ place. get_or items place d) ∙ length-places N first 0 k

  -- what is put into another place changes nothing there
  kept : (xs ys : List X) (N first i k x : ℕ) → first < N → x < N → i + k ≤ x → ((j : ℕ) → j ≢ place N first x → get_or ys j d ≡ get_or xs j d)
      → at_places d ys (places N first i k) ≡ at_places d xs (places N first i k)
  kept xs ys N first i zero x a b c same = refl
  kept xs ys N first i (suc k) x a b c same =
      ap₂ ◌∷◌ (same (place N first i) (place_apart N first i x a (omega arith) b (λ e. absurd (omega arith))))
      (kept xs ys N first (suc i) k x a b (omega arith) same)

  pub kept_behind : (xs ys : List X) (N first k : ℕ) → first < N → k < N → ((j : ℕ) → j ≢ place N first k → get_or ys j d ≡ get_or xs j d)
      → at_places d ys (places N first 0 k) ≡ at_places d xs (places N first 0 k)
  kept_behind xs ys N first k a b same = kept xs ys N first 0 k k a b (omega arith) same

  last_of : (xs : List X) (N first k : ℕ) → at_places d xs (places N first 0 (k + 1)) ≡ at_places d xs (places N first 0 k) ++ get_or xs (place N first k) d ∷ []
  last_of xs N first k =
      ap (λ n. at_places d xs (places N first 0 n)) (add-one k) ∙ ap (at_places d xs) (places-last N first 0 k)
      ∙ map-append (λ place. get_or xs place d) (places N first 0 k) (place N first (0 + k) ∷ [])
      ∙ ap (λ n. at_places d xs (places N first 0 k) ++ get_or xs (place N first n) d ∷ []) (zero-add k)

  -- what is put into the next place comes behind the others
  pub put_behind : (xs : List X) (y : X) (N first k : ℕ) → first < N → k < N → N ≤ length xs
      → at_places d (set xs (place N first k) y) (places N first 0 (k + 1)) ≡ at_places d xs (places N first 0 k) ++ y ∷ []
  put_behind xs y N first k a b c =
      let below = place_below N first k a (omega arith) in
      last_of (set xs (place N first k) y) N first k
      ∙ ap₂ (λ (front : List X) (last : X). front ++ last ∷ [])
      (kept_behind xs (set xs (place N first k) y) N first k a b (λ j apart. get_or-set_other xs (place N first k) j y d apart))
      (get_or-set_same xs (place N first k) y d (omega arith))

  -- the earliest, and then the others from the next place on
  pub earliest_apart : (xs : List X) (N first k : ℕ) → first < N → k < N
      → at_places d xs (places N first 0 (k + 1)) ≡ get_or xs first d ∷ at_places d xs (places N (place N first 1) 0 k)
  earliest_apart xs N first k a b =
      ap (λ n. at_places d xs (places N first 0 n)) (add-one k)
      ∙ ap₂ (λ (place : ℕ) (others : List ℕ). get_or xs place d ∷ at_places d xs others) (place_none N first a) (places-step N first 0 k a (omega arith))

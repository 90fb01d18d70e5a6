-- A map whose values number its entries, and one entry more.
use Rattle.std.proofs.Common.{◌≡◌, ℕ, zero, suc, ◌≤◌, ◌<◌, Bool, true, false, cond, nat_eq, List, [], ◌∷◌, ◌++◌, length, Option, Some, None, refl, sym, ap, ap₂, ◌∙◌, true≢false, arith}
use Rattle.std.specs.BTreeMap.{insert_entry}
use Rattle.std.specs.Map.{lookup}
use Rattle.std.specs.Ordering.{match_ordering, is_eq}
use Rattle.std.specs.declared.cmp.Ordering.{Ordering}
use Rattle.std.specs.declared.cmp.Ordering.TheVariants.{Less, Equal, Greater}
use Rattle.std.proofs.lemmas.Bool.{eqb-true}
use Rattle.std.proofs.lemmas.Option.{none-some}
use Rattle.pascal_check.specs.Listed.{numbered, in_order, AreNumbered}

-- ---- What a test finds

replaced : {X : Type 0} (a b : Bool) (v w : X) (o : Option X) → b ≡ a → cond b (Some v) o ≡ cond a (Some v) (cond b (Some w) o)
replaced true true v w o h = refl
replaced true false v w o h = absurd (true≢false (sym h))
replaced false true v w o h = absurd (true≢false h)
replaced false false v w o h = refl

swapped : {X : Type 0} (a b : Bool) (v w : X) (o : Option X) → (a ≡ true → b ≡ true → false ≡ true)
    → cond b (Some w) (cond a (Some v) o) ≡ cond a (Some v) (cond b (Some w) o)
swapped true true v w o h = absurd (true≢false (sym (h refl refl)))
swapped true false v w o h = refl
swapped false true v w o h = refl
swapped false false v w o h = refl

module _ {K X : Type 0} (R : K → K → Ordering) (test : K → Bool) where
  found_at : (k : K) (v : X) (e : K × X) (es added : List (K × X)) (o : Ordering) → (is_eq o ≡ true → test e.0 ≡ test k)
      → (test k ≡ true → test e.0 ≡ true → is_eq o ≡ true) → lookup test added ≡ cond (test k) (Some v) (lookup test es)
      → lookup test (match_ordering o ((k, v) ∷ e ∷ es) ((e.0, v) ∷ es) (e ∷ added)) ≡ cond (test k) (Some v) (lookup test (e ∷ es))
  found_at k v e es added Less same one rest = refl
  found_at k v e es added Equal same one rest = replaced (test k) (test e.0) v e.1 (lookup test es) (same refl)
  found_at k v e es added Greater same one rest =
      ap (λ o. cond (test e.0) (Some e.1) o) rest ∙ swapped (test k) (test e.0) v e.1 (lookup test es) one

  -- a test that holds of equal keys alone finds the new value, or what it found before
  pub found_added : ((x y : K) → is_eq (R x y) ≡ true → test y ≡ test x) → ((x y : K) → test x ≡ true → test y ≡ true → is_eq (R x y) ≡ true)
      → (k : K) (v : X) (es : List (K × X)) → lookup test (insert_entry R es k v) ≡ cond (test k) (Some v) (lookup test es)
  found_added same one k v [] = refl
  found_added same one k v (e ∷ es) =
      found_at k v e es (insert_entry R es k v) (R k e.0) (same k e.0) (one k e.0) (found_added same one k v es)

-- ---- The order

others : {X : Type 0} (b : Bool) (v : X) (o : Option X) → cond b (Some v) o ≡ None → (b ≡ false) × (o ≡ None)
others true v o h = absurd (none-some v (sym h))
others false v o h = (refl, h)

none_here : {D : Type 0} (b : Bool) (d : D) (ds : List D) → cond b (d ∷ []) ds ≡ [] → (b ≡ false) × (ds ≡ [])
none_here true d ds h = cc
none_here false d ds h = (refl, h)

passed : {D : Type 0} (a b : Bool) (d e : D) (ds : List D) → (a ≡ true → b ≡ true → true ≡ false)
    → cond b (e ∷ []) (cond a (d ∷ []) ds) ≡ cond a (d ∷ []) (cond b (e ∷ []) ds)
passed true true d e ds h = absurd (true≢false (h refl refl))
passed true false d e ds h = refl
passed false true d e ds h = refl
passed false false d e ds h = refl

self_eq : (n : ℕ) → nat_eq n n ≡ true
self_eq n = search arith

module _ {K X D : Type 0} (R : K → K → Ordering) (number : K × X → ℕ) (shown : K × X → D) where
  numbered_at : (k : K) (v : X) (e : K × X) (es added : List (K × X)) (n : ℕ) (o : Ordering) → is_eq o ≡ false
      → (nat_eq (number (k, v)) n ≡ true → nat_eq (number e) n ≡ true → true ≡ false)
      → numbered number shown added n ≡ cond (nat_eq (number (k, v)) n) (shown (k, v) ∷ []) (numbered number shown es n)
      → numbered number shown (match_ordering o ((k, v) ∷ e ∷ es) ((e.0, v) ∷ es) (e ∷ added)) n
      ≡ cond (nat_eq (number (k, v)) n) (shown (k, v) ∷ []) (numbered number shown (e ∷ es) n)
  numbered_at k v e es added n Less new apart rest = refl
  numbered_at k v e es added n Equal new apart rest = absurd (true≢false new)
  numbered_at k v e es added n Greater new apart rest =
      ap (λ ds. cond (nat_eq (number e) n) (shown e ∷ []) ds) rest
      ∙ passed (nat_eq (number (k, v)) n) (nat_eq (number e) n) (shown (k, v)) (shown e) (numbered number shown es n) apart

  -- one number is not another's
  apart_from : (m n k : ℕ) → nat_eq m k ≡ false → nat_eq k n ≡ true → nat_eq m n ≡ true → true ≡ false
  apart_from m n k differ a b =
      sym (self_eq k) ∙ ap (λ (j : ℕ). nat_eq j k) (eqb-true k n a ∙ sym (eqb-true m n b)) ∙ differ

  numbered_added : (k : K) (v : X) (es : List (K × X)) → lookup (λ j. is_eq (R k j)) es ≡ None → numbered number shown es (number (k, v)) ≡ [] → (n : ℕ)
      → numbered number shown (insert_entry R es k v) n ≡ cond (nat_eq (number (k, v)) n) (shown (k, v) ∷ []) (numbered number shown es n)
  numbered_added k v [] new free n = refl
  numbered_added k v (e ∷ es) new free n =
      let a = others (is_eq (R k e.0)) e.1 (lookup (λ j. is_eq (R k j)) es) new in
      let b = none_here (nat_eq (number e) (number (k, v))) (shown e) (numbered number shown es (number (k, v))) free in
      numbered_at k v e es (insert_entry R es k v) n (R k e.0) a.0 (apart_from (number e) n (number (k, v)) b.0)
      (numbered_added k v es a.1 b.1 n)

  longer_at : (k : K) (v : X) (e : K × X) (es added : List (K × X)) (o : Ordering) → is_eq o ≡ false → length added ≡ suc (length es)
      → length (match_ordering o ((k, v) ∷ e ∷ es) ((e.0, v) ∷ es) (e ∷ added)) ≡ suc (suc (length es))
  longer_at k v e es added Less new rest = refl
  longer_at k v e es added Equal new rest = absurd (true≢false new)
  longer_at k v e es added Greater new rest = ap suc rest

  longer : (k : K) (v : X) (es : List (K × X)) → lookup (λ j. is_eq (R k j)) es ≡ None → length (insert_entry R es k v) ≡ suc (length es)
  longer k v [] new = refl
  longer k v (e ∷ es) new =
      let a = others (is_eq (R k e.0)) e.1 (lookup (λ j. is_eq (R k j)) es) new in
      longer_at k v e es (insert_entry R es k v) (R k e.0) a.0 (longer k v es a.1)

  kept : (es fs : List (K × X)) (m : ℕ) → ((n : ℕ) → n < m → numbered number shown fs n ≡ numbered number shown es n)
      → in_order number shown fs m ≡ in_order number shown es m
  kept es fs zero same = refl
  kept es fs (suc m) same = ap₂ (λ (a b : List D). a ++ b) (kept es fs m (λ n low. same n (omega (arith, low)))) (same m (omega arith))

  not_it : (b : Bool) (d : D) (ds : List D) → b ≡ false → cond b (d ∷ []) ds ≡ ds
  not_it true d ds h = absurd (true≢false h)
  not_it false d ds h = refl

  it_is : (b : Bool) (d : D) (ds : List D) → b ≡ true → cond b (d ∷ []) ds ≡ d ∷ []
  it_is true d ds h = refl
  it_is false d ds h = absurd (true≢false (sym h))

  -- a new entry that has the next number
  module _ (k : K) (v : X) (es : List (K × X)) (new : lookup (λ j. is_eq (R k j)) es ≡ None) (next : number (k, v) ≡ length es)
      (all : AreNumbered number shown es) where
    free : numbered number shown es (number (k, v)) ≡ []
    free = all (number (k, v)) (omega (arith, next))

    differs : (m n : ℕ) → (m ≡ n → ⊥) → nat_eq m n ≡ false
    differs m n h = by (nat_eq m n) refl
      where
        by : (b : Bool) → nat_eq m n ≡ b → b ≡ false
        by true is = absurd (h (eqb-true m n is))
        by false is = refl

    other : (n : ℕ) → (number (k, v) ≡ n → ⊥) → numbered number shown (insert_entry R es k v) n ≡ numbered number shown es n
    other n h =
        numbered_added k v es new free n
        ∙ not_it (nat_eq (number (k, v)) n) (shown (k, v)) (numbered number shown es n) (differs (number (k, v)) n h)

    pub order_added : in_order number shown (insert_entry R es k v) (length (insert_entry R es k v))
        ≡ in_order number shown es (length es) ++ shown (k, v) ∷ []
    order_added =
        ap (in_order number shown (insert_entry R es k v)) (longer k v es new)
        ∙ ap₂ (λ (a b : List D). a ++ b)
        (kept es (insert_entry R es k v) (length es) (λ n low. other n (λ same. absurd (omega (arith, low, same, next)))))
        (numbered_added k v es new free (length es)
        ∙ it_is (nat_eq (number (k, v)) (length es)) (shown (k, v)) (numbered number shown es (length es))
        (ap (λ (n : ℕ). nat_eq (number (k, v)) n) (sym next) ∙ self_eq (number (k, v))))

    pub numbers_added : AreNumbered number shown (insert_entry R es k v)
    numbers_added n high =
        let past : suc (length es) ≤ n = omega (arith, high, longer k v es new) in
        other n (λ same. absurd (omega (arith, past, same, next))) ∙ all n (omega (arith, past))

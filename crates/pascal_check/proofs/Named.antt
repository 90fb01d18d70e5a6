-- Maps of names and of values, read as lists.
use Rattle.std.proofs.Common.{◌≡◌, ℕ, ℤ, true, false, Bool, ◌||◌, List, [], ◌∷◌, ◌++◌, length, reverse, Option, Some, None, cond, refl, sym, ap, ◌∙◌, true≢false}
use Rattle.std.specs.Prelude.{option_map, is_some}
use Rattle.std.specs.BTreeMap.{insert_entry}
use Rattle.std.specs.Cmp.Lexicographic.{slice_cmp}
use Rattle.std.specs.Global.{Vec}
use Rattle.std.specs.List.{list_any}
use Rattle.std.specs.Map.{lookup}
use Rattle.std.specs.Ordering.{is_eq, nat_cmp, int_cmp, int_eq}
use Rattle.std.specs.Str.{bytes_eq}
use Rattle.std.specs.declared.cmp.Ordering.{Ordering}
use Rattle.std.specs.declared.cmp.Ordering.TheVariants.{Less, Equal, Greater}
use Rattle.std.proofs.lemmas.List.{reverse-append}
use Rattle.std.proofs.lemmas.List.Folds.{list_any-append}
use Rattle.std.proofs.lemmas.Map.Lookups.{exact_signed}
use Rattle.std.proofs.lemmas.Map.Text.{is_eq-slice_cmp}
use Rattle.std.proofs.lemmas.Slice.Eq.{bytes_eq-Decides}
use Rattle.std.proofs.lemmas.Option.{none-some}
use Rattle.pascal_tree.specs.Scopes.{found, named_as}
use Rattle.pascal_tree.specs.declared.means.Means.{Means}
use Rattle.pascal_check.specs.Listed.{in_order, AreNumbered, NumberedNames, place_of, declared_by, latest_first, looked_up, AreLookedUp, values_added, AreAmong}
use Rattle.pascal_check.proofs.Added.{found_added, order_added, numbers_added}

-- the order of names in a map
abbrev pub by_letters : Vec ℕ → Vec ℕ → Ordering
by_letters x y = slice_cmp nat_cmp x.items y.items

same_letters : (a b : List ℕ) → is_eq (slice_cmp nat_cmp a b) ≡ true → a ≡ b
same_letters a b h = (bytes_eq-Decides a b).0 (sym (is_eq-slice_cmp a b) ∙ h)

equal_letters : (a b : List ℕ) → a ≡ b → is_eq (slice_cmp nat_cmp a b) ≡ true
equal_letters a b h = is_eq-slice_cmp a b ∙ (bytes_eq-Decides a b).1 h

-- a name is found in a map where it was added, and each other as before
pub looked_up_added : {X : Type 0} (name : List ℕ) (es : List (Vec ℕ × X)) (k : Vec ℕ) (v : X)
    → looked_up (insert_entry by_letters es k v) name ≡ cond (bytes_eq name k.items) (Some v) (looked_up es name)
looked_up_added name es k v =
    found_added by_letters (λ j. is_eq (slice_cmp nat_cmp name j.items))
    (λ x y h. ap (λ l. is_eq (slice_cmp nat_cmp name l)) (sym (same_letters x.items y.items h)))
    (λ x y a b. equal_letters x.items y.items (sym (same_letters name x.items a) ∙ same_letters name y.items b)) k v es
    ∙ ap (λ b. cond b (Some v) (looked_up es name)) (is_eq-slice_cmp name k.items)

pub through : {A B : Type 0} (f : A → B) (b : Bool) (v : A) (o : Option A) → option_map f (cond b (Some v) o) ≡ cond b (Some (f v)) (option_map f o)
through f true v o = refl
through f false v o = refl

none_mapped : {A B : Type 0} (f : A → B) (o : Option A) → option_map f o ≡ None → o ≡ None
none_mapped f None h = refl
none_mapped f (Some v) h = absurd (none-some (f v) (sym h))

-- ---- A name more

module _ (es : NumberedNames) (k : Vec ℕ) (m : Means) (n : ℕ) (next : n ≡ length es) (numbers : AreNumbered place_of declared_by es) (all : AreLookedUp es)
    (absent : found (latest_first es) k.items ≡ None) where
  new : looked_up es k.items ≡ None
  new = none_mapped (λ v. v.1) (looked_up es k.items) (all k.items ∙ absent)

  pub latest_added : latest_first (insert_entry by_letters es k (n, m)) ≡ named_as k.items m ∷ latest_first es
  latest_added =
      ap reverse (order_added by_letters place_of declared_by k (n, m) es new next numbers)
      ∙ reverse-append (in_order place_of declared_by es (length es)) (named_as k.items m ∷ [])

  pub numbers_kept : AreNumbered place_of declared_by (insert_entry by_letters es k (n, m))
  numbers_kept = numbers_added by_letters place_of declared_by k (n, m) es new next numbers

  pub all_found : AreLookedUp (insert_entry by_letters es k (n, m))
  all_found name =
      ap (option_map (λ v. v.1)) (looked_up_added name es k (n, m))
      ∙ through (λ v. v.1) (bytes_eq name k.items) (n, m) (looked_up es name)
      ∙ ap (λ o. cond (bytes_eq name k.items) (Some m) o) (all name)
      ∙ sym (ap (λ ds. found ds name) latest_added)

-- ---- A value more

equal_is : (o : Ordering) → is_eq o ≡ true → o ≡ Equal
equal_is Less h = absurd (true≢false (sym h))
equal_is Equal h = refl
equal_is Greater h = absurd (true≢false (sym h))

same_value : (x y : ℤ) → is_eq (int_cmp x y) ≡ true → x ≡ y
same_value x y h = exact_signed x y (equal_is (int_cmp x y) h)

itself : (x y z : ℤ) → is_eq (int_cmp x y) ≡ true → is_eq (int_cmp x z) ≡ true → is_eq (int_cmp y z) ≡ true
itself x y z a b = ap (λ w. is_eq (int_cmp w z)) (sym (same_value x y a)) ∙ b

there : (b : Bool) (n : ℕ) (o : Option ℕ) → is_some (cond b (Some n) o) ≡ (is_some o || (b || false))
there true n None = refl
there true n (Some m) = refl
there false n None = refl
there false n (Some m) = refl

not_there : {A : Type 0} (o : Option A) → is_some o ≡ false → o ≡ None
not_there None h = refl
not_there (Some v) h = absurd (true≢false h)

module _ (es : List (ℤ × ℕ)) (v : ℤ) (n : ℕ) (next : n ≡ length es) (numbers : AreNumbered (λ (e : ℤ × ℕ). e.1) (λ (e : ℤ × ℕ). e.0) es) (all : AreAmong es)
    (absent : list_any (int_eq v) (values_added es) ≡ false) where
  fresh : lookup (λ k. is_eq (int_cmp v k)) es ≡ None
  fresh = not_there (lookup (λ k. is_eq (int_cmp v k)) es) (all v ∙ absent)

  pub value_behind : values_added (insert_entry int_cmp es v n) ≡ values_added es ++ v ∷ []
  value_behind = order_added int_cmp (λ e. e.1) (λ e. e.0) v n es fresh next numbers

  pub values_numbered : AreNumbered (λ (e : ℤ × ℕ). e.1) (λ (e : ℤ × ℕ). e.0) (insert_entry int_cmp es v n)
  values_numbered = numbers_added int_cmp (λ e. e.1) (λ e. e.0) v n es fresh next numbers

  pub all_among : AreAmong (insert_entry int_cmp es v n)
  all_among w =
      ap is_some (found_added int_cmp (λ k. is_eq (int_cmp w k)) (λ x y h. ap (λ z. is_eq (int_cmp w z)) (sym (same_value x y h))) (itself w) v n es)
      ∙ there (is_eq (int_cmp w v)) n (lookup (λ k. is_eq (int_cmp w k)) es)
      ∙ ap (λ b. b || (is_eq (int_cmp w v) || false)) (all w)
      ∙ sym (list_any-append (int_eq w) (values_added es) (v ∷ []))
      ∙ sym (ap (list_any (int_eq w)) value_behind)

-- A value that is replaced where it stands.
use Rattle.std.proofs.Common.{◌≡◌, ℕ, zero, suc, ◌+◌, Bool, true, false, cond, ◌&&◌, List, [], ◌∷◌, Option, Some, None, ℤ, ◌<◌, ◌++◌, length, get_or, set, take, drop, refl, sym, ◌∙◌, ap, add-one, arith}
use Rattle.std.specs.Prelude.{bytes_eq, option_map}
use Rattle.std.specs.Ordering.{int_eq}
use Rattle.std.proofs.Math.Seq.{take-append_seam}
use Rattle.std.proofs.lemmas.Slice.Eq.{bytes_eq-Decides}
use Rattle.std.proofs.lemmas.Bool.Decides.{Decides-int_eq}
use Rattle.pascal_evaluate.specs.SeenStore.{value_in, entry_place, with_value}
use Rattle.pascal_evaluate.specs.declared.entries.Entry.{Entry}

differ : false ≡ true → ⊥
differ is = cc

none_some : (k : ℕ) → None ≡ Some k → ⊥
none_some k is = cc

some_is : (k l : ℕ) → Some k ≡ Some l → k ≡ l
some_is k l is = cc

both : (a b : Bool) → (a && b) ≡ true → (a ≡ true) × (b ≡ true)
both true true is = (refl, refl)
both true false is = absurd (differ is)
both false b is = absurd (differ is)

abbrev same : List ℕ → ℤ → List ℕ → ℤ → Bool
same x i y j = bytes_eq x y && int_eq i j

same_is : (x y : List ℕ) (i j : ℤ) → same x i y j ≡ true → (x ≡ y) × (i ≡ j)
same_is x y i j is =
    let two = both (bytes_eq x y) (int_eq i j) is in
    ((bytes_eq-Decides x y).0 two.0, (Decides-int_eq i j).0 two.1)

is_same : (x y : List ℕ) (i j : ℤ) → x ≡ y → i ≡ j → same x i y j ≡ true
is_same x y i j xs is =
    rw ((bytes_eq-Decides x y).1 xs) ((Decides-int_eq i j).1 is)

collapse : (t : Bool) (v w r : ℤ) → cond t v r ≡ cond t v (cond t w r)
collapse true v w r = refl
collapse false v w r = refl

apart : (a b : Bool) (u v r : ℤ) → (a ≡ true → b ≡ true → ⊥) → cond a u (cond b v r) ≡ cond b v (cond a u r)
apart true true u v r never = absurd (never refl refl)
apart true false u v r never = refl
apart false true u v r never = refl
apart false false u v r never = refl

pub value_in-replaced : (es : List Entry) (x : List ℕ) (i : ℤ) (k : ℕ) (v : ℤ) → entry_place es x i ≡ Some k → (y : List ℕ) (j : ℤ)
    → value_in (with_value es k v) y j ≡ cond (bytes_eq x y && int_eq i j) v (value_in es y j)
value_in-replaced [] x i k v is y j = absurd (none_some k is)
value_in-replaced (e ∷ more) x i k v is y j =
    step (λ l place. value_in-replaced more x i l v place y j) (same e.letters e.index x i) refl is where
      behind : ((l : ℕ) → entry_place more x i ≡ Some l → value_in (with_value more l v) y j ≡ cond (same x i y j) v (value_in more y j))
          → (q : Option ℕ) → same e.letters e.index x i ≡ false → entry_place more x i ≡ q → option_map (λ place. place + 1) q ≡ Some k
          → value_in (with_value (e ∷ more) k v) y j ≡ cond (same x i y j) v (value_in (e ∷ more) y j)
      behind further None other place is = absurd (none_some k is)
      behind further (Some l) other place is =
          let k_is : k ≡ suc l = sym (some_is (l + 1) k is) ∙ add-one l in
          let never : same e.letters e.index y j ≡ true → same x i y j ≡ true → ⊥ =
          λ first second. differ (sym other
          ∙ is_same e.letters x e.index i ((same_is e.letters y e.index j first).0 ∙ sym ((same_is x y i j second).0))
          ((same_is e.letters y e.index j first).1 ∙ sym ((same_is x y i j second).1))) in
          rw (k_is, further l place) (apart (same e.letters e.index y j) (same x i y j) e.value v (value_in more y j) never)

      step : ((l : ℕ) → entry_place more x i ≡ Some l → value_in (with_value more l v) y j ≡ cond (same x i y j) v (value_in more y j))
          → (b : Bool) → same e.letters e.index x i ≡ b → cond b (Some 0) (option_map (λ place. place + 1) (entry_place more x i)) ≡ Some k
          → value_in (with_value (e ∷ more) k v) y j ≡ cond (same x i y j) v (value_in (e ∷ more) y j)
      step further true here is =
          let k_is : k ≡ 0 = sym (some_is 0 k is) in
          let equal = same_is e.letters x e.index i here in
          rw (k_is, sym equal.0, sym equal.1) (collapse (same e.letters e.index y j) v e.value (value_in more y j))
      step further false other is = behind further (entry_place more x i) other refl is

-- the entry of a list that is written over
pub set_is : (es : List Entry) (k : ℕ) (d : Entry) (v w : ℤ) → k < length es → w ≡ v → set es k (record (get_or es k d) { value = w }) ≡ with_value es k v
set_is [] k d v w inside is = absurd (omega (arith, inside))
set_is (e ∷ more) zero d v w inside is = ap (λ u. let f : Entry = record e { value = u } in f ∷ more) is
set_is (e ∷ more) (suc k) d v w inside is = ap (λ l. e ∷ l) (set_is more k d v w (omega (arith, inside)) is)

length_replaced : (es : List Entry) (k : ℕ) (v : ℤ) → length (with_value es k v) ≡ length es
length_replaced [] k v = refl
length_replaced (e ∷ more) zero v = refl
length_replaced (e ∷ more) (suc k) v = ap suc (length_replaced more k v)

-- what is written back where a slice of all entries was lent
pub written_back : (es new : List Entry) (n k : ℕ) (v : ℤ) → length es ≡ n → new ≡ with_value es k v → take n (new ++ drop (length new) es) ≡ with_value es k v
written_back es new n k v all is =
    let same : length new ≡ n = ap length is ∙ length_replaced es k v ∙ all in
    ap (λ m. take m (new ++ drop (length new) es)) (sym same) ∙ take-append_seam new (drop (length new) es) ∙ is

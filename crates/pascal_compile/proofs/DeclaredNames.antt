-- A map by names, behind a declaration.
use Rattle.std.proofs.Common.{◌≡◌, ℕ, true, false, Bool, List, Some, cond, refl, sym, ap, ◌∙◌}
use Rattle.std.specs.BTreeMap.{insert_entry}
use Rattle.std.specs.Str.{bytes_eq}
use Rattle.std.specs.Global.{Vec}
use Rattle.std.proofs.lemmas.Slice.Eq.{bytes_eq-Decides}
use Rattle.pascal_check.specs.Listed.{looked_up}
use Rattle.pascal_check.proofs.Named.{by_letters, looked_up_added}

eq_sym : (xs ys : List ℕ) → bytes_eq xs ys ≡ bytes_eq ys xs
eq_sym xs ys = by (bytes_eq xs ys) (bytes_eq ys xs) refl refl
  where
    by : (a b : Bool) → bytes_eq xs ys ≡ a → bytes_eq ys xs ≡ b → a ≡ b
    by true true h i = refl
    by false false h i = refl
    by true false h i = sym ((bytes_eq-Decides ys xs).1 (sym ((bytes_eq-Decides xs ys).0 h))) ∙ i
    by false true h i = sym h ∙ (bytes_eq-Decides xs ys).1 (sym ((bytes_eq-Decides ys xs).0 i))

-- a name is found as it was declared, and each other as before
pub declared : {V : Type 0} (es : List (Vec ℕ × V)) (k : Vec ℕ) (v : V) (x : List ℕ)
    → looked_up (insert_entry by_letters es k v) x ≡ cond (bytes_eq k.items x) (Some v) (looked_up es x)
declared es k v x = looked_up_added x es k v ∙ ap (λ b. cond b (Some v) (looked_up es x)) (eq_sym x k.items)

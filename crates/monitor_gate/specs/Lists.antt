-- For the proof of a kind's first law: the lists of entries, once one has an entry more.
use Rattle.std.specs.Prelude.{◌≡◌, ◌≢◌, ℕ, List, [], ◌∷◌, ◌++◌, cond}
use Rattle.std.proofs.Common.{refl, ap, eq-eqb, ne_eqb}
use Rattle.monitor_gate.specs.Kind.{with_entry}

module _ {E : Type 0} where
  pub with_entry_same : (lists : ℕ → List E) (p : ℕ) (e : E) → with_entry lists p e p ≡ lists p ++ e ∷ []
  with_entry_same lists p e = ap (λ b. cond b (lists p ++ e ∷ []) (lists p)) (eq-eqb p p refl)

  pub with_entry_other : (lists : ℕ → List E) (p : ℕ) (e : E) (q : ℕ) → q ≢ p → with_entry lists p e q ≡ lists q
  with_entry_other lists p e q n = ap (λ b. cond b (lists q ++ e ∷ []) (lists q)) (ne_eqb q p n)

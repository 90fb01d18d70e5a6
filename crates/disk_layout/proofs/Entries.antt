-- An entry stays right where the catalogue stays.
use Rattle.std.proofs.Common.{◌≡◌, ℕ, suc, zero, ◌+◌, ◌<◌, ◌==◌, ◌&&◌, Bool, not, cond, List, refl, ap, sym, subst, ◌∙◌, arith}
use Rattle.std.specs.Prelude.{◌⊎◌}
use Rattle.disk_layout.specs.declared.entry.Entry.{Entry}
use Rattle.disk_layout.specs.Disk.{Disk}
use Rattle.disk_layout.specs.Format.{IsEmptyEntry, IsFullEntry, EntryIsRight, has_key, count_below}

-- the numbers below a bound that pass are as many where the tests agree
pub count_same : (f f' : ℕ → Bool) (n : ℕ) → ((k : ℕ) → k < n → f' k ≡ f k) → count_below f' n ≡ count_below f n
unfolding count_below
count_same f f' zero same = refl
count_same f f' (suc n) same =
    ap (λ b. cond b 1 0 + count_below f' n) (same n (omega arith)) ∙ ap (λ m. cond (f n) 1 0 + m) (count_same f f' n (λ k below. same k (omega arith)))

module _ (d d' : Disk) (entries : (k : ℕ) → k < 240 → d'.entry k ≡ d.entry k) (spares : (k : ℕ) → k < 240 → d'.spare k ≡ d.spare k) where
  whole_same : (P : Entry → List ℕ → Type 0) (k : ℕ) → k < 240 → P (d.entry k) (d.spare k) → P (d'.entry k) (d'.spare k)
  whole_same P k below x = subst (λ s. P (d'.entry k) s) (sym (spares k below)) (subst (λ e. P e (d.spare k)) (sym (entries k below)) x)

  was_full : (k : ℕ) → k < 240 → IsFullEntry (d'.entry k) (d'.spare k) → IsFullEntry (d.entry k) (d.spare k)
  was_full k below x = subst (λ s. IsFullEntry (d.entry k) s) (spares k below) (subst (λ e. IsFullEntry e (d'.spare k)) (entries k below) x)

  pub still_right : (p : ℕ) → p < 240 → EntryIsRight d p → EntryIsRight d' p
  still_right p below right = record {
    whole = whole_same (λ e s. IsEmptyEntry e s ⊎ IsFullEntry e s) p below right.whole;
    name =
        λ earlier less full e. right.name earlier less (was_full earlier (omega arith) full) (sym (ap (λ x. x.name) (entries p below)) ∙ e
        ∙ ap (λ x. x.name) (entries earlier (omega arith)));
    address =
        λ earlier less full e. right.address earlier less (was_full earlier (omega arith) full) (sym (ap (λ x. x.address) (entries p below)) ∙ e
        ∙ ap (λ x. x.address) (entries earlier (omega arith)));
    searches =
        ap (λ x. x.searches) (entries p below) ∙ right.searches
        ∙ sym (count_same (has_key d p) (has_key d' p) 240 (λ k less. ap (λ x. not (x.kind == 0) && x.key == p + 1) (entries k less)));
  }

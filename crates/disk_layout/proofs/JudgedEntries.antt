-- The entries of the catalogue are read and judged place by place.
use Rattle.std.proofs.Common.{◌≡◌, ℕ, ◌+◌, ◌<◌, Bool, true, false, cond, Option, Some, None, List, length, get_or, set, refl, ap, sym, subst, ◌∙◌, inl, inr, arith, add-one, get_or-set_same, get_or-set_other}
use Rattle.std.proofs.lemmas.Bool.{cases_eq}
use Rattle.disk_layout.specs.declared.entry.Entry.{Entry}
use Rattle.disk_layout.specs.Disk.{Disk}
use Rattle.disk_layout.specs.Format.{count_below, has_key}
use Rattle.disk_layout.specs.Layout.{blank_entry}
use Rattle.disk_layout.specs.Judging.{EntriesRead, IsKeptEntry, KeptBelow, noted_bad, uses_key}
use Rattle.disk_layout.proofs.Entries.{count_same}

-- one entry more is read
pub read_on : (d : Disk) (p : ℕ) (entries : List Entry) (entry : Entry) → p < length entries → d.entry p ≡ entry → EntriesRead d p entries
    → EntriesRead d (p + 1) (set entries p entry)
read_on d p entries entry within is read k below = elim (cases_eq k p) [
  | inl here ↦ ap (λ x. get_or (set entries p entry) x blank_entry) here ∙ get_or-set_same entries p entry blank_entry within ∙ sym is ∙ ap d.entry (sym here)
  | inr earlier ↦ get_or-set_other entries p k entry blank_entry earlier ∙ read k (omega (arith, below, earlier))
]

was_none : (bad : Option ℕ) (p : ℕ) (right : Bool) → noted_bad bad p right ≡ None → (bad ≡ None) × (right ≡ true)
was_none None p true e = (refl, refl)
was_none None p false e = absurd (none_is_some e)
  where
    none_is_some : ◌≡◌ {A = Option ℕ} (Some p) None → ⊥
    none_is_some x = cc
was_none (Some b) p right e = absurd (none_is_some e)
  where
    none_is_some : ◌≡◌ {A = Option ℕ} (Some b) None → ⊥
    none_is_some x = cc

pub kept_on : (p : ℕ) (entries : List Entry) (entry : Entry) (bad bad_now : Option ℕ) (right : Bool) → p < length entries → bad_now ≡ noted_bad bad p right
    → (right ≡ true → IsKeptEntry entry)
    → KeptBelow p entries bad → KeptBelow (p + 1) (set entries p entry) bad_now
kept_on p entries entry bad bad_now right within is kept before none k below =
    let was = was_none bad p right (sym is ∙ none) in
    elim (cases_eq k p) [
      | inl here ↦ subst IsKeptEntry (sym (ap (λ x. get_or (set entries p entry) x blank_entry) here
          ∙ get_or-set_same entries p entry blank_entry within)) (kept was.1)
      | inr earlier ↦ subst IsKeptEntry (sym (get_or-set_other entries p k entry blank_entry earlier)) (before was.0 k (omega (arith, below, earlier)))
    ]

pub count_none : (f : ℕ → Bool) → count_below f 0 ≡ 0
unfolding count_below
count_none f = refl

pub count_next : (f : ℕ → Bool) (n : ℕ) → count_below f (n + 1) ≡ count_below f n + cond (f n) 1 0
unfolding count_below
count_next f n = ap (count_below f) (add-one n) ∙ omega arith

-- the names with a key are counted over the entries that were read
pub counted : (d : Disk) (p : ℕ) (entries : List Entry) (count : ℕ) → length entries ≡ 240 → EntriesRead d 240 entries
    → count ≡ count_below (λ k. uses_key (p + 1) (get_or entries k blank_entry)) (length entries) → count ≡ count_below (has_key d p) 240
counted d p entries count size read is =
    is ∙ ap (count_below (λ k. uses_key (p + 1) (get_or entries k blank_entry))) size
    ∙ count_same (has_key d p) (λ k. uses_key (p + 1) (get_or entries k blank_entry)) 240 (λ k below. ap (uses_key (p + 1)) (read k below))

-- What the parts of a mount found makes its answer.
use Rattle.std.proofs.Common.{◌≡◌, ℕ, ◌<◌, ◌≤◌, Bool, false, ◌||◌, ◌&&◌, Option, Some, List, length, refl, ap, sym, subst, ◌∙◌, inl, inr, arith}
use Rattle.std.specs.Prelude.{nat_lt, MatchOption}
use Rattle.std.specs.FinSet as set
use Rattle.std.proofs.lemmas.Bool.{cases_lt, lt-ltb, le-ltb}
use Rattle.solo_base.specs.declared.page.Page.{Page}
use Rattle.disk_pages.specs.Pages.{Pages, IsReadFrom}
use Rattle.disk_pages.specs.Bits.{is_marked}
use Rattle.disk_layout.specs.declared.entry.Entry.{Entry}
use Rattle.disk_layout.specs.Disk.{disk_of, page_at, marked_of, as_page}
use Rattle.disk_layout.specs.Format.{IsSoloDisk, IsBad}
use Rattle.disk_layout.specs.Layout.{IsLaidOut}
use Rattle.disk_layout.specs.Judging.{EntriesRead}
use Rattle.disk_layout.proofs.SoloDisk.{solo_is_laid_out}
use Rattle.disk_files.specs.declared.fault.FileFault.TheVariants.{NotSolo}
use Rattle.disk_layout.specs.Format1.{IsBad1, IsSoloDisk1}
use Rattle.disk_files.specs.Answers.{IsOlderRead, RefusesMount, RefusesOlder}

pub marked_read : (pages : List (List ℕ)) (low high : Page) (n : ℕ) → low.0 ≡ page_at pages 16 → high.0 ≡ page_at pages 17
    → marked_of pages n ≡ is_marked low high n
unfolding marked_of
marked_read pages low high n low_is high_is =
    ap (λ x. is_marked (as_page x) (as_page (page_at pages 17)) n) (sym low_is) ∙ ap (λ x. is_marked (as_page low.0) (as_page x) n) (sym high_is)

-- the map that was read is that of a Solo disk's bits
pub laid_by_map : (entries : List Entry) (taken : Pages) (pages : List (List ℕ)) (low high : Page) → length pages ≡ 4288 → length entries ≡ 240
    → low.0 ≡ page_at pages 16 → high.0 ≡ page_at pages 17
    → EntriesRead (disk_of pages) 240 entries → IsReadFrom low high taken → IsSoloDisk pages → IsLaidOut entries taken pages
laid_by_map entries taken pages low high size places low_is high_is read from solo = solo_is_laid_out entries taken pages solo size places read bits past
  where
    or_false : (b : Bool) → (false || b) ≡ b
    or_false b = refl

    bits : (n : ℕ) → n < 4288 → marked_of pages n ≡ set.contains taken n
    bits n within = elim (cases_lt n 18) [
      | inl system ↦ ((solo 16).bits n within (omega (arith, system))).1 (inl system)
          ∙ sym (from n ∙ ap (λ b. b || (nat_lt n 4288 && is_marked low high n)) (lt-ltb n 18 system))
      | inr past ↦ marked_read pages low high n low_is high_is
          ∙ sym (from n ∙ ap (λ b. b || (nat_lt n 4288 && is_marked low high n)) (le-ltb n 18 past)
          ∙ ap (λ b. b && is_marked low high n) (lt-ltb n 4288 within))
    ]

    past : (n : ℕ) → 4288 ≤ n → set.contains taken n ≡ false
    past n beyond =
        from n ∙ ap (λ b. b || (nat_lt n 4288 && is_marked low high n)) (le-ltb n 18 (omega (arith, beyond)))
        ∙ ap (λ b. b && is_marked low high n) (le-ltb n 4288 beyond)

-- a page that was found bad refuses the mount
pub refuses : (pages : List (List ℕ)) (found : Option ℕ) (n : ℕ) (Good : Type 0) → found ≡ Some n → MatchOption found Good (IsBad pages)
    → RefusesMount pages (NotSolo n)
refuses pages found n Good is bad = inr (inr (n, refl, subst (λ x. MatchOption x Good (IsBad pages)) is bad))

-- ---- Format 1

pub older_by_map : (entries : List Entry) (taken : Pages) (pages : List (List ℕ)) (low high : Page) → length pages ≡ 4288 → length entries ≡ 240
    → low.0 ≡ page_at pages 16 → high.0 ≡ page_at pages 17
    → EntriesRead (disk_of pages) 240 entries → IsReadFrom low high taken → IsSoloDisk1 pages → IsOlderRead entries taken pages
older_by_map entries taken pages low high size places low_is high_is read from solo = record {
  solo = solo;
  as_many = size;
  places = places;
  entries = read;
  taken = bits;
  within = λ n beyond.
      from n ∙ ap (λ b. b || (nat_lt n 4288 && is_marked low high n)) (le-ltb n 18 (omega (arith, beyond)))
      ∙ ap (λ b. b && is_marked low high n) (le-ltb n 4288 beyond);
}
  where
    bits : (n : ℕ) → n < 4288 → marked_of pages n ≡ set.contains taken n
    bits n within = elim (cases_lt n 18) [
      | inl system ↦ ((solo 16).bits n within (omega (arith, system))).1 (inl system)
          ∙ sym (from n ∙ ap (λ b. b || (nat_lt n 4288 && is_marked low high n)) (lt-ltb n 18 system))
      | inr past ↦ marked_read pages low high n low_is high_is
          ∙ sym (from n ∙ ap (λ b. b || (nat_lt n 4288 && is_marked low high n)) (le-ltb n 18 past)
          ∙ ap (λ b. b && is_marked low high n) (lt-ltb n 4288 within))
    ]

pub refuses_older : (pages : List (List ℕ)) (found : Option ℕ) (n : ℕ) (Good : Type 0) → found ≡ Some n → MatchOption found Good (IsBad1 pages)
    → RefusesOlder pages (NotSolo n)
refuses_older pages found n Good is bad = inr (inr (n, refl, subst (λ x. MatchOption x Good (IsBad1 pages)) is bad))

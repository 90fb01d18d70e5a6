-- Pages that are laid out as a table says break no format.
use Rattle.std.proofs.Common.{◌≡◌, ℕ, ◌≤◌, false, ◌+◌, ◌/◌, ◌<◌, List, length, refl, sym, inl, inr}
use Rattle.std.specs.Prelude.{slice_index_or}
use Rattle.std.specs.FinSet as set
use Rattle.std.proofs.lemmas.Bool.{cases_order}
use Rattle.disk_pages.specs.Pages.{Pages}
use Rattle.disk_layout.specs.declared.entry.Entry.{Entry}
use Rattle.disk_layout.specs.Disk.{disk_of, entry_of, spare_of, marked_of}
use Rattle.disk_layout.specs.Format.{IsSoloDisk, EntryIsRight, IsFullEntry}
use Rattle.disk_layout.specs.Layout.{IsLaidOut, HasFile, blank_entry}
use Rattle.disk_layout.proofs.Lookups.{full_entry}
use Rattle.disk_layout.proofs.Owner.{IsWhole, owner_found, owns_found}
use Rattle.disk_layout.proofs.Law.{index_right, part_right, mark_right}

pub laid_out_breaks_nothing : (kept : List Entry) (taken : Pages) (pages : List (List ℕ)) → IsLaidOut kept taken pages → IsSoloDisk pages
laid_out_breaks_nothing kept taken pages laid = λ n. record {
  first = λ _. laid.first;
  catalogue = λ p below _. laid.right p below;
  bits = λ m within _. mark_right (disk_of pages) laid.owner laid.owns m within;
  zeros = λ _. laid.zeros;
  index = index_right (disk_of pages) laid.owner laid.owns n;
  part = λ by place x first. part_right (disk_of pages) laid.owner laid.owns n by place x first;
}

-- the entries and the bits of pages that break no format are laid out
pub solo_is_laid_out : (kept : List Entry) (taken : Pages) (pages : List (List ℕ)) → IsSoloDisk pages → length pages ≡ 4288 → length kept ≡ 240
    → ((p : ℕ) → p < 240 → slice_index_or kept p blank_entry ≡ entry_of pages p) → ((n : ℕ) → n < 4288 → marked_of pages n ≡ set.contains taken n)
    → ((n : ℕ) → 4288 ≤ n → set.contains taken n ≡ false) → IsLaidOut kept taken pages
solo_is_laid_out kept taken pages solo size places same_entries same_bits within =
    let right : (p : ℕ) → p < 240 → EntryIsRight (disk_of pages) p = λ p below. (solo (1 + p / 16)).catalogue p below refl in
    let full : (p : ℕ) → HasFile (disk_of pages) p
    → IsFullEntry (entry_of pages p) (spare_of pages p) = λ p has. full_entry (disk_of pages) p (right p has.inside) has.used in
    let whole : IsWhole (disk_of pages) = record {
      full = λ p has. (full p has).address;
      apart = λ p other has has_other same. elim (cases_order p other) [
        | inl e ↦ e
        | inr (inl before) ↦ absurd ((right other has_other.inside).address p before (full p has) (sym same))
        | inr (inr behind) ↦ absurd ((right p has.inside).address other behind (full other has_other) same)
      ];
      index = λ i x. (solo i).index x;
      part = λ q by place x first. (solo q).part by place x first;
      mark = λ n within. (solo (16 + n / 4096)).bits n within refl;
    } in
    record {
      as_many = size;
      first = (solo 0).first refl;
      places = places;
      entries = same_entries;
      right = right;
      zeros = (solo 17).zeros refl;
      taken = same_bits;
      within = within;
      owner = owner_found (disk_of pages);
      owns = owns_found (disk_of pages) whole;
    }

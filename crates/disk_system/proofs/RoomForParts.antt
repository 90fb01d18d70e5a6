-- Whether there is room for the parts.
use Rattle.std.proofs.Common.{◌≡◌, ℕ, ◌+◌, ◌<◌, ◌≤◌, ◌==◌, List, length, ap, ◌∙◌, inl, inr, arith}
use Rattle.std.specs.Prelude.{not, slice_index_or}
use Rattle.std.specs.FinSet as fin
use Rattle.std.proofs.lemmas.Bool.{cases_eq}
use Rattle.disk_pages.specs.Pages.{Pages}
use Rattle.disk_layout.specs.declared.entry.Entry.{Entry}
use Rattle.disk_layout.specs.Disk.{disk_of, entry_of}
use Rattle.disk_layout.specs.Format.{count_below}
use Rattle.disk_layout.specs.Format1.{IsSoloDisk1}
use Rattle.disk_layout.specs.Files.{free_count, name_count}
use Rattle.disk_layout.specs.Layout.{HasFile, blank_entry}
use Rattle.disk_layout.specs.Newer.{map_at}
use Rattle.disk_layout.proofs.Entries.{count_same}
use Rattle.disk_layout.proofs.TakenPages.{free_and_taken}
use Rattle.disk_files.specs.Answers.{IsOlderRead}
use Rattle.disk_system.specs.declared.migrating.MigrateFault.TheVariants.{NoRoom}
use Rattle.disk_system.specs.Migrating.{LengthsRead, MadeOf, RefusesOlder, mapped_by, parts_for, parts_needed}
use Rattle.disk_system.proofs.Movings.{index_of}
use Rattle.disk_system.proofs.Needed.{mapped_by_file, mapped_by_none, parts_read}

-- a file of an area of format 1 has at most 255 pages
pub mapped_short : (pages : List (List ℕ)) → IsSoloDisk1 pages → (p : ℕ) → p < 240 → mapped_by pages (entry_of pages p) ≤ 255
mapped_short pages solo p below = elim (cases_eq (entry_of pages p).kind 0) [
  | inl empty ↦ let none = mapped_by_none pages (entry_of pages p) empty in omega (arith, none)
  | inr used ↦
      let has : HasFile (disk_of pages) p = record { inside = below; used = used } in
      let short = ((solo (map_at pages p)).map (index_of pages solo p has)).length in
      let is = mapped_by_file pages (entry_of pages p) used in
      omega (arith, short, is)
]

module _ (kept : List Entry) (taken : Pages) (pages : List (List ℕ)) (older : IsOlderRead kept taken pages) where
  older_free : free_count pages + fin.len taken ≡ 4288
  older_free = free_and_taken taken pages older.taken older.within

  -- the entries that are kept have as many names as the area
  older_names : count_below (λ k. not ((slice_index_or kept k blank_entry).kind == 0)) (length kept) ≡ name_count pages
  older_names =
      ap (count_below (λ k. not ((slice_index_or kept k blank_entry).kind == 0))) older.places
      ∙ count_same (λ k. not ((entry_of pages k).kind == 0)) (λ k. not ((slice_index_or kept k blank_entry).kind == 0)) 240
      (λ k below. ap (λ e. not (e.kind == 0)) (older.entries k below))

  module _ (lengths : List ℕ) (needed unused : ℕ) (read : LengthsRead pages 240 lengths) (counted : needed ≡ parts_for lengths 240)
      (rest : unused + fin.len taken ≡ 4288) where
    needed_is : needed ≡ parts_needed pages
    needed_is = counted ∙ parts_read pages lengths 240 read

    unused_is : unused ≡ free_count pages
    unused_is = omega (arith, rest, older_free)

    pub made_of : (names : ℕ) → needed ≤ unused → names ≡ count_below (λ k. not ((slice_index_or kept k blank_entry).kind == 0)) (length kept)
        → MadeOf pages names
    made_of names room named = record { solo = older.solo; room = omega (arith, room, needed_is, unused_is); counted = named ∙ older_names }

    pub no_room : unused < needed → RefusesOlder pages (NoRoom needed unused)
    no_room short = inr (inr (inr (
      ap (λ n. NoRoom n unused) needed_is ∙ ap (NoRoom (parts_needed pages)) unused_is,
      older.solo,
      omega (arith, short, needed_is, unused_is),
    )))

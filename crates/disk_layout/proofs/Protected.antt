-- The protection of a file is set.
use Rattle.std.proofs.Common.{◌≡◌, ◌≢◌, ℕ, ◌+◌, ◌<◌, ◌≤◌, ◌==◌, ◌&&◌, not, List, length, refl, ap, sym, subst, ◌∙◌, inl, inr, arith}
use Rattle.std.specs.Prelude.{◌⊎◌, slice_index_or}
use Rattle.std.specs.FinMap as fin
use Rattle.std.proofs.lemmas.Bool.{cases_eq}
use Rattle.disk_pages.specs.Pages.{Pages}
use Rattle.disk_layout.specs.declared.entry.Entry.{Entry}
use Rattle.disk_layout.specs.Disk.{Disk, disk_of, page_at, entry_of, spare_of, number_of}
use Rattle.disk_layout.specs.Format.{EntryIsRight, IsEmptyEntry, IsFullEntry, has_key}
use Rattle.disk_layout.specs.Files.{kind_of, files, file_at, first_pages}
use Rattle.disk_layout.specs.Layout.{index_at, length_at, part_at, page_number, HasFile, IsLaidOut, blank_entry}
use Rattle.disk_layout.specs.Layout.Use.{Index, Part, Page}
use Rattle.disk_layout.specs.Writing.{EntryWritten}
use Rattle.disk_layout.proofs.Entries.{count_same}
use Rattle.disk_layout.proofs.InPlace.{StaysInPlace, laid_in_place, files_in_place, page_stays_there}
use Rattle.disk_layout.proofs.FilesStay.{pages_stay}
use Rattle.disk_layout.proofs.Written.{number_stays}

abbrev pub protected_entry : Entry → ℕ → Entry
protected_entry e protection = record e { protection = protection }

pub full_still : (e : Entry) (n : ℕ) (sp : List ℕ) → n ≤ 1 → IsFullEntry e sp → IsFullEntry (protected_entry e n) sp
full_still e n sp small x =
    record { name = x.name; some_kind = x.some_kind; kind = x.kind; address = x.address; protection = small; key = x.key; spare = x.spare }

module _ (kept : List Entry) (taken : Pages) (pages : List (List ℕ)) (laid : IsLaidOut kept taken pages) (p protection : ℕ) (has : HasFile (disk_of pages) p)
    (small : protection ≤ 1)
    (after : List (List ℕ)) (w : EntryWritten pages after p (protected_entry (entry_of pages p) protection)) where
  abbrev d : Disk
  d = disk_of pages

  abbrev d' : Disk
  d' = disk_of after

  same_but : (k : ℕ) → k < 240
      → (n : ℕ) × (entry_of after k ≡ protected_entry (entry_of pages k) n) × ((k ≡ p) × (n ≡ protection) ⊎ (n ≡ (entry_of pages k).protection))
  same_but k inside = elim (cases_eq k p) [
    | inl own ↦ (protection, ap (entry_of after) own ∙ w.is ∙ ap (λ x. protected_entry (entry_of pages x) protection) (sym own), inl (own, refl))
    | inr apart ↦ ((entry_of pages k).protection, w.entries k inside apart, inr refl)
  ]

  field : {A : Type 0} (get : Entry → A) → ((e : Entry) (n : ℕ) → get (protected_entry e n) ≡ get e) → (k : ℕ) → k < 240
      → get (entry_of after k) ≡ get (entry_of pages k)
  field get blind k inside = let x = same_but k inside in ap get x.1 ∙ blind (entry_of pages k) x.0

  full_before : (k : ℕ) → k < 240 → IsFullEntry (entry_of after k) (spare_of after k) → IsFullEntry (entry_of pages k) (spare_of pages k)
  full_before k inside full = elim (laid.right k inside).whole [
    | inl empty ↦ absurd (let none = field (λ e. e.kind) (λ e n. refl) k inside ∙ empty.kind in let some = full.some_kind in omega (arith, none, some))
    | inr x ↦ x
  ]

  right_then : (k : ℕ) → k < 240 → EntryIsRight d' k
  right_then k inside =
      let before = laid.right k inside in
      record {
        whole = elim before.whole [
          | inl empty ↦ inl (empty_then empty)
          | inr full ↦ inr (subst (λ s. IsFullEntry (entry_of after k) s) (sym (w.spares k inside)) (full_then full (same_but k inside)))
        ];
        name = λ earlier less full e.
            let early : earlier < 240 = omega (arith, less, inside) in
            before.name earlier less (full_before earlier early full) (sym (field (λ x. x.name) (λ x n. refl) k inside) ∙ e
            ∙ field (λ x. x.name) (λ x n. refl) earlier early);
        address = λ earlier less full e.
            let early : earlier < 240 = omega (arith, less, inside) in
            before.address earlier less (full_before earlier early full) (sym (field (λ x. x.address) (λ x n. refl) k inside) ∙ e
            ∙ field (λ x. x.address) (λ x n. refl) earlier early);
        searches = field (λ x. x.searches) (λ x n. refl) k inside ∙ before.searches
            ∙ sym (count_same (has_key d k) (has_key d' k) 240 (λ i less. field (λ x. not (x.kind == 0) && x.key == k + 1) (λ x n. refl) i less));
      }
    where
      not_own : IsEmptyEntry (entry_of pages k) (spare_of pages k) → k ≢ p
      not_own empty e = has.used (sym (ap (λ x. (entry_of pages x).kind) e) ∙ empty.kind)

      empty_then : IsEmptyEntry (entry_of pages k) (spare_of pages k) → IsEmptyEntry (entry_of after k) (spare_of after k)
      empty_then empty =
          subst (λ s. IsEmptyEntry (entry_of after k) s) (sym (w.spares k inside))
          (subst (λ x. IsEmptyEntry x (spare_of pages k)) (sym (w.entries k inside (not_own empty))) empty)

      full_then : IsFullEntry (entry_of pages k) (spare_of pages k)
          → ((n : ℕ) × (entry_of after k ≡ protected_entry (entry_of pages k) n) × ((k ≡ p) × (n ≡ protection) ⊎ (n ≡ (entry_of pages k).protection)))
          → IsFullEntry (entry_of after k) (spare_of pages k)
      full_then full x = subst (λ e. IsFullEntry e (spare_of pages k)) (sym x.1) (full_still (entry_of pages k) x.0 (spare_of pages k) (allowed x.2) full)
        where
          allowed : ((k ≡ p) × (x.0 ≡ protection) ⊎ (x.0 ≡ (entry_of pages k).protection)) → x.0 ≤ 1
          allowed (inl own) = omega (arith, own.1, small)
          allowed (inr was) = let old = full.protection in omega (arith, was, old)

  page_kept : (n : ℕ) → 16 ≤ n → page_at after n ≡ page_at pages n
  page_kept n behind = w.others n (λ e. let inside = has.inside in omega (arith, e, behind, inside))

  in_place : StaysInPlace pages after
  in_place = record {
    as_many = w.as_many;
    first = w.others 0 (λ e. omega (arith, e));
    kinds = field (λ e. e.kind) (λ e n. refl);
    addresses = field (λ e. e.address) (λ e n. refl);
    indexes =
        λ q k file. let free = laid.owns.free _ _ (laid.owns.known (Index q) file) in number_stays pages after (index_at d q) k
        (page_kept _ (let low = free.file_page in omega (arith, low)));
    parts =
        λ q k i file less. let free = laid.owns.free _ _ (laid.owns.known (Part q k) (file, less)) in number_stays pages after (part_at d q k) i
        (page_kept _ (let low = free.file_page in omega (arith, low)));
    low = page_kept 16 (omega arith);
    high = page_kept 17 (omega arith);
  }

  pub laid_protected : (kept_now : List Entry) → length kept_now ≡ 240 → ((k : ℕ) → k < 240 → slice_index_or kept_now k blank_entry ≡ entry_of after k)
      → IsLaidOut kept_now taken after
  laid_protected kept_now places entries = laid_in_place kept taken pages laid after in_place kept_now places entries right_then

  content : (k j : ℕ) → HasFile d k → j < length_at d k → page_at after (page_number d k j) ≡ page_at pages (page_number d k j)
  content k j file less =
      let free = laid.owns.free _ _ (laid.owns.known (Page k j) (file, less)) in page_kept _ (let low = free.file_page in omega (arith, low))

  own_file : file_at after (entry_of after p) ≡ record (file_at pages (entry_of pages p)) { protected = protection == 1 }
  unfolding file_at
  own_file =
      let pages_are = pages_stay pages after (entry_of pages p) (entry_of after p)
      (ap (λ n. number_of after n 0) (in_place.addresses p has.inside) ∙ in_place.indexes p 0 has)
      (λ j less. ap (page_at after) (page_stays_there kept taken pages laid after in_place p j has less) ∙ content p j has less) in
      ap (λ n. record {
        kind =
            kind_of n;
        protected =
            (entry_of after p).protection == 1;
        pages = first_pages after (entry_of after p).address (number_of after (entry_of after p).address 0);
      }) (in_place.kinds p has.inside)
      ∙ ap (λ n. record {
        kind =
            kind_of (entry_of pages p).kind;
        protected =
            n == 1;
        pages = first_pages after (entry_of after p).address (number_of after (entry_of after p).address 0);
      }) (ap (λ e. e.protection) w.is)
      ∙ ap (λ ps. record { kind = kind_of (entry_of pages p).kind; protected = protection == 1; pages = ps }) pages_are

  pub files_protected : files after
      ≡ fin.insert (files pages) (entry_of pages p).name (record (file_at pages (entry_of pages p)) { protected = protection == 1 })
  files_protected =
      files_in_place kept taken pages laid after in_place p has w.entries (λ k j apart file less. content k j file less)
      _ (ap (λ e. e.name) w.is) own_file

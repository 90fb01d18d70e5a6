-- A change that moves no file: the pages are laid out again, and at most one file is another.
use Rattle.std.proofs.Common.{◌≡◌, ◌≢◌, ℕ, ◌<◌, Some, None, List, [], length, get_or, refl, ap, sym, subst, ◌∙◌, inl, inr}
use Rattle.std.specs.Prelude.{slice_index_or}
use Rattle.std.specs.FinMap as fin
use Rattle.std.proofs.lemmas.Bool.{cases_eq}
use Rattle.disk_pages.specs.Pages.{Pages}
use Rattle.disk_pages.specs.Bits.{is_marked}
use Rattle.disk_layout.specs.declared.entry.Entry.{Entry}
use Rattle.disk_layout.specs.Disk.{Disk, disk_of, page_at, entry_of, number_of, marked_of, as_page}
use Rattle.disk_layout.specs.Format.{EntryIsRight, part_count}
use Rattle.disk_layout.specs.Files.{File, files, file_at, named_at, page_of}
use Rattle.disk_layout.specs.Layout.{index_at, length_at, part_at, page_number, HasFile, IsLaidOut, blank_entry}
use Rattle.disk_layout.specs.Layout.Use.{Page}
use Rattle.disk_layout.proofs.Moved.{Moved, owner_moved, owns_moved, index_numbers, used_before}
use Rattle.disk_layout.proofs.Lookups.{names_apart, named_used, named_empty, beside}
use Rattle.disk_layout.proofs.Maps.{Named, files_with}
use Rattle.disk_layout.proofs.FilesStay.{file_stays}

abbrev pub same : ℕ → ℕ
same n = n

-- the addresses and kinds of all entries stay, the numbers of index pages and parts, and the bits
pub record StaysInPlace (pages after : List (List ℕ)) : Type 0 where
  pub as_many : length after ≡ length pages
  pub first : page_at after 0 ≡ page_at pages 0
  pub kinds : (k : ℕ) → k < 240 → (entry_of after k).kind ≡ (entry_of pages k).kind
  pub addresses : (k : ℕ) → k < 240 → (entry_of after k).address ≡ (entry_of pages k).address
  pub indexes : (p k : ℕ) → HasFile (disk_of pages) p → number_of after (index_at (disk_of pages) p) k ≡ number_of pages (index_at (disk_of pages) p) k
  pub parts : (p k j : ℕ) → HasFile (disk_of pages) p → k < part_count (length_at (disk_of pages) p)
      → number_of after (part_at (disk_of pages) p k) j ≡ number_of pages (part_at (disk_of pages) p k) j
  pub low : page_at after 16 ≡ page_at pages 16
  pub high : page_at after 17 ≡ page_at pages 17

pub marked_stays : (pages after : List (List ℕ)) → page_at after 16 ≡ page_at pages 16 → page_at after 17 ≡ page_at pages 17 → (n : ℕ)
    → marked_of after n ≡ marked_of pages n
unfolding marked_of
marked_stays pages after low high n =
    ap (λ x. is_marked (as_page x) (as_page (page_at after 17)) n) low ∙ ap (λ x. is_marked (as_page (page_at pages 16)) (as_page x) n) high

module _ (kept : List Entry) (taken : Pages) (pages : List (List ℕ)) (laid : IsLaidOut kept taken pages) (after : List (List ℕ))
    (s : StaysInPlace pages after) where
  abbrev d : Disk
  d = disk_of pages

  abbrev d' : Disk
  d' = disk_of after

  had : (p : ℕ) → HasFile d' p → HasFile d p
  had p has = record { inside = has.inside; used = λ e. has.used (s.kinds p has.inside ∙ e) }

  has_then : (p : ℕ) → HasFile d p → HasFile d' p
  has_then p has = record { inside = has.inside; used = λ e. has.used (sym (s.kinds p has.inside) ∙ e) }

  moved : Moved d d' same same
  moved = record {
    back = λ p has. (had p has, s.addresses p has.inside, refl);
    forth = λ p has. (has_then p has, refl);
    indexes = s.indexes;
    parts = s.parts;
    marked = λ n _. marked_stays pages after s.low s.high n;
  }

  pub laid_in_place : (kept_now : List Entry) → length kept_now ≡ 240 → ((k : ℕ) → k < 240 → slice_index_or kept_now k blank_entry ≡ entry_of after k)
      → ((k : ℕ) → k < 240 → EntryIsRight d' k) → IsLaidOut kept_now taken after
  laid_in_place kept_now places entries right = record {
    as_many = s.as_many ∙ laid.as_many;
    first = s.first ∙ laid.first;
    places = places;
    entries = entries;
    right = right;
    zeros = λ k behind. ap (λ b. get_or b k 0) s.high ∙ laid.zeros k behind;
    taken = λ n within. marked_stays pages after s.low s.high n ∙ laid.taken n within;
    within = laid.within;
    owner = owner_moved d d' laid.owner same same laid.owns moved;
    owns = owns_moved d d' laid.owner same same laid.owns moved;
  }

  count_stays : (p : ℕ) → HasFile d p → number_of after (entry_of after p).address 0 ≡ number_of pages (entry_of pages p).address 0
  count_stays p has = index_numbers d d' laid.owner same same laid.owns moved p (has_then p has) 0

  pub page_stays_there : (p j : ℕ) → HasFile d p → j < length_at d p → page_of d' (entry_of after p).address j ≡ page_of d (entry_of pages p).address j
  page_stays_there p j has below =
      (used_before d d' laid.owner same same laid.owns moved (Page p j) (has_then p has, subst (λ n. j < n) (sym (count_stays p has)) below)).1

  -- the file at place p is another, and the pages of all others hold what they held
  module _ (p : ℕ) (has : HasFile d p) (entries : (k : ℕ) → k < 240 → k ≢ p → entry_of after k ≡ entry_of pages k)
      (contents : (k j : ℕ) → k ≢ p → HasFile d k → j < length_at d k → page_at after (page_number d k j) ≡ page_at pages (page_number d k j)) where
    other_stays : (k : ℕ) → k < 240 → k ≢ p → named_at after k ≡ named_at pages k
    other_stays k below apart = elim (cases_eq (entry_of pages k).kind 0) [
      | inl empty ↦ named_empty after k (s.kinds k below ∙ empty) ∙ sym (named_empty pages k empty)
      | inr used ↦
          let file : HasFile d k = record { inside = below; used = used } in
          let e = entries k below apart in
          let stays = file_stays pages after (entry_of pages k) (entry_of after k) (ap (λ x. x.kind) e) (ap (λ x. x.protection) e) (count_stays k file)
          (λ j less. ap (page_at after) (page_stays_there k j file less) ∙ contents k j apart file less) in
          named_used after k (λ x. used (sym (s.kinds k below) ∙ x)) ∙ ap (λ x. Some (x.name, file_at after (entry_of after k))) e
          ∙ ap (λ x. Some ((entry_of pages k).name, x)) stays ∙ sym (named_used pages k used)
    ]

    pub files_in_place : (file : File) → (entry_of after p).name ≡ (entry_of pages p).name → file_at after (entry_of after p) ≡ file
        → files after ≡ fin.insert (files pages) (entry_of pages p).name file
    files_in_place file name is =
        files_with (named_at pages) (named_at after) p 240 has.inside other_stays (entry_of pages p).name
        (λ k below other. beside pages (entry_of pages p).name k (λ used e. names_apart kept taken pages laid p k has.inside below other has.used used e))
        file (λ x e. ap name_of (sym e ∙ named_used pages p has.used))
        (named_used after p (λ e. has.used (sym (s.kinds p has.inside) ∙ e)) ∙ ap (λ n. Some (n, file_at after (entry_of after p))) name
        ∙ ap (λ x. Some ((entry_of pages p).name, x)) is)
      where
        name_of : Named → List ℕ
        name_of None = []
        name_of (Some x) = x.0

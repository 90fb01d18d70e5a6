-- The pages after a file was deleted are laid out, and the map is without it.
use Rattle.std.proofs.Common.{◌≡◌, ◌≢◌, ℕ, ◌+◌, ◌<◌, ◌≤◌, ◌==◌, ◌||◌, ◌&&◌, not, Bool, true, false, cond, Option, Some, None, is_some, List, [], refl, ap, sym, subst, ◌∙◌, inl, inr}
use Rattle.std.specs.Prelude.{nat_lt, slice_index_or}
use Rattle.std.specs.FinSet as set
use Rattle.std.specs.FinMap as fin
use Rattle.std.proofs.lemmas.Bool.{cases_eq, le-ltb}
use Rattle.disk_pages.specs.Pages.{Pages}
use Rattle.disk_layout.specs.declared.entry.Entry.{Entry}
use Rattle.disk_layout.specs.Disk.{Disk, disk_of, page_at, entry_of, spare_of}
use Rattle.disk_layout.specs.Format.{IsAddress, IsEmptyEntry, IsFullEntry}
use Rattle.disk_layout.specs.Files.{files, file_at, named_at}
use Rattle.disk_layout.specs.Deleting.{without_file, pages_held}
use Rattle.disk_layout.specs.Layout.{Use, index_at, length_at, page_number, HasFile, IsLaidOut, blank_entry}
use Rattle.disk_layout.specs.Layout.Use.{Page}
use Rattle.disk_layout.specs.Writing.{ClearsName, CatalogueWrites, unnamed}
use Rattle.disk_layout.proofs.Created.{Deleted, keep, owner_without, owns_without, address_stays, numbers_of_index}
use Rattle.disk_layout.proofs.GivenBack.{freed_are, freed_counted}
use Rattle.disk_layout.proofs.Listed.{EntryCleared, right_without}
use Rattle.disk_layout.proofs.Lookups.{named_used, named_empty, beside, names_apart, full_entry}
use Rattle.disk_layout.proofs.Maps.{Named, files_without}
use Rattle.disk_layout.proofs.AppendedPages.{owned_taken}
use Rattle.disk_layout.proofs.FilesStay.{file_stays}
use Rattle.disk_layout.proofs.Written.{number_stays}

abbrev with_searches : ℕ → Entry → Entry
with_searches n e = record e { searches = n }

module _ (kept : List Entry) (taken : Pages) (pages : List (List ℕ)) (laid : IsLaidOut kept taken pages) (p : ℕ) (has : HasFile (disk_of pages) p) where
  -- what is taken without the file serves for another
  without_is : (n : ℕ) → n < 4288 → set.contains (without_file taken (disk_of pages) (index_at (disk_of pages) p)) n
      ≡ (nat_lt n 18 || is_some (keep p (laid.owner n)))
  without_is n within =
      freed_are (disk_of pages) laid.owner laid.owns p has taken (owned_taken kept taken pages laid) n
      ∙ ap (λ b. b && not (is_some (laid.owner n) && not (is_some (keep p (laid.owner n))))) (sym (laid.taken n within) ∙ laid.owns.marked n within)
      ∙ by_owner (laid.owner n) (λ u e. laid.owns.free n u e)
    where
      two : (a b : Bool) → a ≡ false → ((a || true) && not (true && not b)) ≡ (a || b)
      two true b e = absurd (true_is_false e)
        where
          true_is_false : true ≡ false → ⊥
          true_is_false e = cc
      two false true e = refl
      two false false e = refl

      one : (a : Bool) → ((a || false) && not (false && true)) ≡ (a || false)
      one true = refl
      one false = refl

      by_owner : (x : Option Use) → ((u : Use) → x ≡ Some u → IsAddress n)
          → ((nat_lt n 18 || is_some x) && not (is_some x && not (is_some (keep p x)))) ≡ (nat_lt n 18 || is_some (keep p x))
      by_owner None free = one (nat_lt n 18)
      by_owner (Some u) free = two (nat_lt n 18) (is_some (keep p (Some u))) (le-ltb n 18 (free u refl).file_page)

  -- no page past the area is taken
  without_past : (n : ℕ) → 4288 ≤ n → set.contains (without_file taken (disk_of pages) (index_at (disk_of pages) p)) n ≡ false
  without_past n past =
      freed_are (disk_of pages) laid.owner laid.owns p has taken (owned_taken kept taken pages laid) n
      ∙ ap (λ b. b && not (is_some (laid.owner n) && not (is_some (keep p (laid.owner n))))) (laid.within n past)

  pub without_counted : set.len (without_file taken (disk_of pages) (index_at (disk_of pages) p)) + pages_held (length_at (disk_of pages) p) ≡ set.len taken
  without_counted = freed_counted (disk_of pages) laid.owner laid.owns p has taken (owned_taken kept taken pages laid)

  module _ (kept_now : List Entry) (taken_now : Pages) (after : List (List ℕ))
      (taken_is : taken_now ≡ without_file taken (disk_of pages) (index_at (disk_of pages) p))
      (cleared : ClearsName kept kept_now p) (w : CatalogueWrites pages after kept_now taken_now) where
    abbrev d : Disk
    d = disk_of pages

    abbrev d' : Disk
    d' = disk_of after

    entry_beside : (k : ℕ) → k < 240 → k ≢ p → entry_of after k ≡ record (entry_of pages k) { searches = (entry_of after k).searches }
    entry_beside k inside apart =
        let now = sym (w.entries k inside) ∙ cleared.beside k inside apart in
        now ∙ ap (with_searches (slice_index_or kept_now k blank_entry).searches) (laid.entries k inside)
        ∙ ap (λ n. with_searches n (entry_of pages k)) (ap (λ e. e.searches) (w.entries k inside))

    entry_here : entry_of after p ≡ unnamed (entry_of after p).searches
    entry_here = sym (w.entries p has.inside) ∙ cleared.here ∙ ap (λ e. unnamed e.searches) (w.entries p has.inside)

    was_full : IsFullEntry (entry_of pages p) (spare_of pages p)
    was_full = full_entry d p (laid.right p has.inside) has.used

    empty_here : IsEmptyEntry (entry_of after p) (spare_of after p)
    empty_here = subst (λ e. IsEmptyEntry e (spare_of after p)) (sym entry_here)
        (record { name = refl; kind = refl; address = refl; protection = refl; key = refl; spare = w.spares p has.inside ∙ was_full.spare })

    entry_cleared : EntryCleared d d' p
    entry_cleared = record {
      beside = record { inside = has.inside; entries = entry_beside; spares = λ k inside _. w.spares k inside };
      was_used = has.used;
      empty = empty_here;
      searches = λ s inside.
          sym (ap (λ e. e.searches) (laid.entries s inside)) ∙ cleared.searches s inside
          ∙ ap (λ e. e.searches + cond ((slice_index_or kept p blank_entry).key == s + 1) 1 0) (w.entries s inside)
          ∙ ap (λ e. (entry_of after s).searches + cond (e.key == s + 1) 1 0) (laid.entries p has.inside);
    }

    deleted : Deleted d d' laid.owner p
    deleted = record {
      now_empty = empty_here.kind;
      kinds = λ k inside apart. ap (λ e. e.kind) (entry_beside k inside apart);
      addresses = λ k inside apart. ap (λ e. e.address) (entry_beside k inside apart);
      numbers = λ n k address. number_stays pages after n k (w.others n address.file_page);
      marked = λ n within. w.marked n within ∙ ap (λ s. set.contains s n) taken_is ∙ without_is n within;
    }

    pub laid_deleted : IsLaidOut kept_now taken_now after
    laid_deleted = record {
      as_many = w.as_many ∙ laid.as_many;
      first = w.first ∙ laid.first;
      places = cleared.places ∙ laid.places;
      entries = w.entries;
      right = right_without d d' p entry_cleared laid.right;
      zeros = w.zeros;
      taken = w.marked;
      within = λ n past. ap (λ s. set.contains s n) taken_is ∙ without_past n past;
      owner = owner_without d d' laid.owner p laid.owns deleted;
      owns = owns_without d d' laid.owner p laid.owns deleted;
    }

    -- the other files hold what they held
    other_stays : (k : ℕ) → k < 240 → k ≢ p → named_at after k ≡ named_at pages k
    other_stays k inside apart = elim (cases_eq (entry_of pages k).kind 0) [
      | inl none ↦ named_empty after k (ap (λ y. y.kind) (entry_beside k inside apart) ∙ none) ∙ sym (named_empty pages k none)
      | inr used ↦
          let file : HasFile d k = record { inside = inside; used = used } in
          let e = entry_beside k inside apart in
          let count = numbers_of_index d d' laid.owner p laid.owns deleted k file apart 0 in
          let stays = file_stays pages after (entry_of pages k) (entry_of after k) (ap (λ x. x.kind) e) (ap (λ x. x.protection) e) count
          (λ j less.
          let owned = laid.owns.known (Page k j) (file, less) in
          ap (page_at after) (address_stays d d' laid.owner p laid.owns deleted (Page k j) (file, less) apart)
          ∙ w.others (page_number d k j) (laid.owns.free _ _ owned).file_page) in
          named_used after k (λ x. used (sym (ap (λ y. y.kind) e) ∙ x)) ∙ ap (λ x. Some (x.name, file_at after (entry_of after k))) e
          ∙ ap (λ x. Some ((entry_of pages k).name, x)) stays ∙ sym (named_used pages k used)
    ]

    pub files_deleted : files after ≡ fin.remove (files pages) (entry_of pages p).name
    files_deleted =
        files_without (named_at pages) (named_at after) p 240 has.inside other_stays (entry_of pages p).name
        (λ k inside apart. beside pages (entry_of pages p).name k (λ used e. names_apart kept taken pages laid p k has.inside inside apart has.used used e))
        (λ x e. ap name_of (sym e ∙ named_used pages p has.used))
        (named_empty after p empty_here.kind)
      where
        name_of : Named → List ℕ
        name_of None = []
        name_of (Some x) = x.0

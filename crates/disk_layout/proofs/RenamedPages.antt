-- The pages after a file was renamed are laid out, and the map has it under its new name.
use Rattle.std.proofs.Common.{◌≡◌, ◌≢◌, ℕ, ◌+◌, ◌<◌, ◌==◌, cond, Option, Some, None, List, [], replicate, refl, ap, sym, subst, ◌∙◌, inl, inr, arith}
use Rattle.std.specs.Prelude.{slice_index_or}
use Rattle.std.specs.FinMap as fin
use Rattle.std.proofs.lemmas.Bool.{cases_eq, eq-eqb, ne_eqb}
use Rattle.solo_base.specs.Ident.{IsIdent}
use Rattle.disk_pages.specs.Pages.{Pages}
use Rattle.disk_layout.specs.declared.entry.Entry.{Entry}
use Rattle.disk_layout.specs.Disk.{Disk, disk_of, page_at, entry_of, spare_of, number_of, marked_of}
use Rattle.disk_layout.specs.Format.{IsAddress, IsEmptyEntry, IsFullEntry, EntryIsRight, key_of}
use Rattle.disk_layout.specs.Files.{File, files, files_below, file_at, named_at}
use Rattle.disk_layout.specs.Layout.{Use, index_at, page_number, HasFile, IsLaidOut, blank_entry}
use Rattle.disk_layout.specs.Layout.Use.{Index, Part, Page}
use Rattle.disk_layout.specs.Writing.{ClearsName, PutsName, CatalogueWrites}
use Rattle.disk_layout.proofs.Listed.{EntryCleared, EntryPut, right_with, right_without}
use Rattle.disk_layout.proofs.Lookups.{named_used, named_empty, beside, names_apart, full_entry}
use Rattle.disk_layout.proofs.Maps.{Named, IsBeside, files_with, files_without}
use Rattle.disk_layout.proofs.Moved.{Moved, owner_moved, owns_moved, index_numbers, used_before}
use Rattle.disk_layout.proofs.FilesStay.{file_stays}
use Rattle.disk_layout.proofs.Written.{number_stays}

abbrev with_searches : ℕ → Entry → Entry
with_searches n e = record e { searches = n }

abbrev at : List Entry → ℕ → Entry
at kept k = slice_index_or kept k blank_entry

module _ (kept : List Entry) (taken : Pages) (pages : List (List ℕ)) (laid : IsLaidOut kept taken pages) (p : ℕ) (has : HasFile (disk_of pages) p)
    (kept_then kept_now : List Entry) (to : ℕ) (new : Entry) (after : List (List ℕ)) (to_below : to < 240)
    (cleared : ClearsName kept kept_then p) (empty : (at kept_then to).kind ≡ 0) (put : PutsName kept_then kept_now to new)
    (ident : IsIdent new.name) (key : new.key ≡ key_of new.name) (kind : new.kind ≡ (entry_of pages p).kind)
    (address : new.address ≡ (entry_of pages p).address) (protection : new.protection ≡ (entry_of pages p).protection)
    (fresh : (k : ℕ) → k < 240 → (at kept k).kind ≢ 0 → (at kept k).name ≢ new.name)
    (w : CatalogueWrites pages after kept_now taken) where
  abbrev d : Disk
  d = disk_of pages

  abbrev d' : Disk
  d' = disk_of after

  -- the disk between: the old name is cleared, and the new one isn't put yet
  abbrev between : Disk
  between = record { entry = at kept_then; spare = spare_of pages; number = number_of after; marked = marked_of after }

  then_beside : (k : ℕ) → k < 240 → k ≢ p → at kept_then k ≡ with_searches (at kept_then k).searches (entry_of pages k)
  then_beside k inside apart = cleared.beside k inside apart ∙ ap (with_searches (at kept_then k).searches) (laid.entries k inside)

  now_beside : (k : ℕ) → k < 240 → k ≢ to → entry_of after k ≡ with_searches (entry_of after k).searches (at kept_then k)
  now_beside k inside apart =
      sym (w.entries k inside) ∙ put.beside k inside apart ∙ ap (λ e. with_searches e.searches (at kept_then k)) (w.entries k inside)

  now_here : entry_of after to ≡ with_searches (entry_of after to).searches new
  now_here = sym (w.entries to to_below) ∙ put.here ∙ ap (λ e. with_searches e.searches new) (w.entries to to_below)

  was_full : IsFullEntry (entry_of pages p) (spare_of pages p)
  was_full = full_entry d p (laid.right p has.inside) has.used

  no_spare : (k : ℕ) → k < 240 → spare_of pages k ≡ replicate 10 0
  no_spare k inside = elim (laid.right k inside).whole [
    | inl none ↦ none.spare
    | inr full ↦ full.spare
  ]

  used_now : (entry_of after to).kind ≢ 0
  used_now e = let is = ap (λ x. x.kind) now_here in let some = was_full.some_kind in omega (arith, e, is, kind, some)

  full_now : IsFullEntry (entry_of after to) (spare_of after to)
  full_now = subst (λ e. IsFullEntry e (spare_of after to)) (sym now_here) (record {
    name = ident;
    some_kind = let some = was_full.some_kind in omega (arith, kind, some);
    kind = let last = was_full.kind in omega (arith, kind, last);
    address = subst IsAddress (sym address) was_full.address;
    protection = let small = was_full.protection in omega (arith, protection, small);
    key = key;
    spare = w.spares to to_below ∙ no_spare to to_below;
  })

  entry_cleared : EntryCleared d between p
  entry_cleared = record {
    beside = record { inside = has.inside; entries = then_beside; spares = λ k inside _. refl };
    was_used = has.used;
    empty = subst (λ e. IsEmptyEntry e (spare_of pages p)) (sym cleared.here)
        (record { name = refl; kind = refl; address = refl; protection = refl; key = refl; spare = no_spare p has.inside });
    searches = λ s inside.
        sym (ap (λ e. e.searches) (laid.entries s inside)) ∙ cleared.searches s inside
        ∙ ap (λ e. (at kept_then s).searches + cond (e.key == s + 1) 1 0) (laid.entries p has.inside);
  }

  -- an entry in use between was in use before, and is another than that at place p
  used_then : (k : ℕ) → k < 240 → (at kept_then k).kind ≢ 0 → (k ≢ p) × ((entry_of pages k).kind ≢ 0)
  used_then k inside used =
      let apart : k ≢ p = λ e. used (ap (λ x. (at kept_then x).kind) e ∙ ap (λ e. e.kind) cleared.here) in
      (apart, λ e. used (ap (λ x. x.kind) (then_beside k inside apart) ∙ e))

  entry_put : EntryPut between d' to
  entry_put = record {
    beside = record { inside = to_below; entries = now_beside; spares = λ k inside _. w.spares k inside };
    was_empty = empty;
    full = full_now;
    searches = λ s inside.
        sym (ap (λ e. e.searches) (w.entries s inside)) ∙ put.searches s inside
        ∙ ap (λ n. (at kept_then s).searches + cond (n == s + 1) 1 0) (sym (ap (λ e. e.key) now_here));
    new_name = λ k inside used e.
        let was = used_then k inside used in
        fresh k inside (λ x. was.1 (sym (ap (λ y. y.kind) (laid.entries k inside)) ∙ x))
        (ap (λ y. y.name) (laid.entries k inside) ∙ sym (ap (λ y. y.name) (then_beside k inside was.0)) ∙ e ∙ ap (λ y. y.name) now_here);
    new_address = λ k inside used e.
        let was = used_then k inside used in
        same_index k inside was.0 was.1 (sym (ap (λ y. y.address) (then_beside k inside was.0)) ∙ e ∙ ap (λ y. y.address) now_here ∙ address);
  }
    where
      same_index : (k : ℕ) → k < 240 → k ≢ p → (entry_of pages k).kind ≢ 0 → (entry_of pages k).address ≡ (entry_of pages p).address → ⊥
      same_index k inside apart used e =
          let other = laid.owns.known (Index k) (record { inside = inside; used = used }) in
          let own = laid.owns.known (Index p) has in apart (place_of_index (sym other ∙ ap laid.owner e ∙ own))
        where
          place_of_index : ◌≡◌ {A = Option Use} (Some (Index k)) (Some (Index p)) → k ≡ p
          place_of_index x = cc

  right_now : (k : ℕ) → k < 240 → EntryIsRight d' k
  right_now = right_with between d' to entry_put (right_without d between p entry_cleared laid.right)

  abbrev place_now : ℕ → ℕ
  place_now k = cond (k == p) to k

  abbrev place_before : ℕ → ℕ
  place_before k = cond (k == to) p k

  now_of_p : (k : ℕ) → k ≡ p → place_now k ≡ to
  now_of_p k e = ap (λ b. cond b to k) (eq-eqb k p e)

  now_of_other : (k : ℕ) → k ≢ p → place_now k ≡ k
  now_of_other k e = ap (λ b. cond b to k) (ne_eqb k p e)

  before_of_to : (k : ℕ) → k ≡ to → place_before k ≡ p
  before_of_to k e = ap (λ b. cond b p k) (eq-eqb k to e)

  before_of_other : (k : ℕ) → k ≢ to → place_before k ≡ k
  before_of_other k e = ap (λ b. cond b p k) (ne_eqb k to e)

  file_now : HasFile d' to
  file_now = record { inside = to_below; used = used_now }

  -- a file elsewhere stays where it was
  still : (k : ℕ) → k ≢ to → HasFile d' k → HasFile d k × (k ≢ p)
  still k apart its =
      let then : (at kept_then k).kind ≢ 0 = λ e. its.used (ap (λ x. x.kind) (now_beside k its.inside apart) ∙ e) in
      let was = used_then k its.inside then in (record { inside = its.inside; used = was.1 }, was.0)

  remains : (k : ℕ) → k ≢ p → HasFile d k → HasFile d' k × (k ≢ to)
  remains k other its =
      let then : (at kept_then k).kind ≢ 0 = λ e. its.used (sym (ap (λ x. x.kind) (then_beside k its.inside other)) ∙ e) in
      let apart : k ≢ to = λ e. then (ap (λ x. (at kept_then x).kind) e ∙ empty) in
      (record { inside = its.inside; used = λ e. then (sym (ap (λ x. x.kind) (now_beside k its.inside apart)) ∙ e) }, apart)

  same_entry : (k : ℕ) → k < 240 → k ≢ p → k ≢ to → entry_of after k ≡ with_searches (entry_of after k).searches (entry_of pages k)
  same_entry k inside other apart =
      now_beside k inside apart ∙ ap (with_searches (entry_of after k).searches) (then_beside k inside other)

  moved : Moved d d' place_now place_before
  moved = record {
    back = λ k its. elim (cases_eq k to) [
      | inl here ↦
          let from = before_of_to k here in (
            subst (HasFile d) (sym from) has,
            ap (index_at d') here ∙ ap (λ e. e.address) now_here ∙ address ∙ ap (index_at d) (sym from),
            ap place_now from ∙ now_of_p p refl ∙ sym here,
          )
      | inr apart ↦
          let was = still k apart its in
          let from = before_of_other k apart in (
            subst (HasFile d) (sym from) was.0,
            ap (λ e. e.address) (same_entry k its.inside was.1 apart) ∙ ap (index_at d) (sym from),
            ap place_now from ∙ now_of_other k was.1,
          )
    ];
    forth = λ k its. elim (cases_eq k p) [
      | inl here ↦ (subst (HasFile d') (sym (now_of_p k here)) file_now, ap place_before (now_of_p k here) ∙ before_of_to to refl ∙ sym here)
      | inr other ↦
          let now = remains k other its in
          (subst (HasFile d') (sym (now_of_other k other)) now.0, ap place_before (now_of_other k other) ∙ before_of_other k now.1)
    ];
    indexes = λ k n its. number_stays pages after _ n (w.others _ (laid.owns.free _ _ (laid.owns.known (Index k) its)).file_page);
    parts = λ k m j its below. number_stays pages after _ j (w.others _ (laid.owns.free _ _ (laid.owns.known (Part k m) (its, below))).file_page);
    marked = λ n within. w.marked n within ∙ sym (laid.taken n within);
  }

  pub laid_renamed : IsLaidOut kept_now taken after
  laid_renamed = record {
    as_many = w.as_many ∙ laid.as_many;
    first = w.first ∙ laid.first;
    places = put.places ∙ cleared.places ∙ laid.places;
    entries = w.entries;
    right = right_now;
    zeros = w.zeros;
    taken = w.marked;
    within = laid.within;
    owner = owner_moved d d' laid.owner place_now place_before laid.owns moved;
    owns = owns_moved d d' laid.owner place_now place_before laid.owns moved;
  }

  -- the file at a place holds what the file at its place before held
  content_stays : (k : ℕ) → HasFile d' k → (from : ℕ) → place_before k ≡ from → HasFile d from
      → (entry_of after k).kind ≡ (entry_of pages from).kind → (entry_of after k).protection ≡ (entry_of pages from).protection
      → file_at after (entry_of after k) ≡ file_at pages (entry_of pages from)
  content_stays k its from is was same_kind same_protection =
      let count : number_of after (index_at d' k) 0 ≡ number_of pages (index_at d from) 0 =
      index_numbers d d' laid.owner place_now place_before laid.owns moved k its 0 ∙ ap (λ x. number_of pages (index_at d x) 0) is in
      file_stays pages after (entry_of pages from) (entry_of after k) same_kind same_protection count
      (λ j less.
      let address = (used_before d d' laid.owner place_now place_before laid.owns moved (Page k j) (its, subst (λ n. j < n) (sym count) less)).1
      ∙ ap (λ x. page_number d x j) is in
      ap (page_at after) address ∙ w.others (page_number d from j) (laid.owns.free _ _ (laid.owns.known (Page from j) (was, less))).file_page)

  -- the files but the one that is renamed
  abbrev others : ℕ → Named
  others k = cond (k == p) None (named_at pages k)

  none_here : (k : ℕ) → k ≡ p → others k ≡ None
  none_here k e = ap (λ b. cond b None (named_at pages k)) (eq-eqb k p e)

  same_there : (k : ℕ) → k ≢ p → others k ≡ named_at pages k
  same_there k e = ap (λ b. cond b None (named_at pages k)) (ne_eqb k p e)

  abbrev name_of : Named → List ℕ
  name_of None = []
  name_of (Some x) = x.0

  without_old : files_below others 240 ≡ fin.remove (files pages) (entry_of pages p).name
  without_old = files_without (named_at pages) others p 240 has.inside (λ k inside apart. same_there k apart) (entry_of pages p).name
      (λ k inside apart. beside pages (entry_of pages p).name k (λ used e. names_apart kept taken pages laid p k has.inside inside apart has.used used e))
      (λ x e. ap name_of (sym e ∙ named_used pages p has.used)) (none_here p refl)

  others_stay : (k : ℕ) → k < 240 → k ≢ to → named_at after k ≡ others k
  others_stay k inside apart = elim (cases_eq k p) [
    | inl here ↦
        named_empty after k (ap (λ x. x.kind) (now_beside k inside apart) ∙ ap (λ x. (at kept_then x).kind) here ∙ ap (λ x. x.kind) cleared.here)
        ∙ sym (none_here k here)
    | inr other ↦ there (same_entry k inside other apart) other ∙ sym (same_there k other)
  ]
    where
      there : entry_of after k ≡ with_searches (entry_of after k).searches (entry_of pages k) → k ≢ p → named_at after k ≡ named_at pages k
      there e other = elim (cases_eq (entry_of pages k).kind 0) [
        | inl none ↦ named_empty after k (ap (λ x. x.kind) e ∙ none) ∙ sym (named_empty pages k none)
        | inr used ↦
            let its : HasFile d k = record { inside = inside; used = used } in
            let now : HasFile d' k = record { inside = inside; used = λ x. used (sym (ap (λ y. y.kind) e) ∙ x) } in
            named_used after k now.used ∙ ap (λ x. Some (x.name, file_at after (entry_of after k))) e
            ∙ ap (λ x. Some ((entry_of pages k).name, x))
            (content_stays k now k (before_of_other k apart) its (ap (λ x. x.kind) e) (ap (λ x. x.protection) e)) ∙ sym (named_used pages k used)
      ]

  -- no file but the renamed one may have the new name
  new_beside : (k : ℕ) → k < 240 → IsBeside new.name (others k)
  unfolding IsBeside
  new_beside k inside = elim (cases_eq k p) [
    | inl here ↦ subst (IsBeside new.name) (sym (none_here k here)) none_beside
    | inr other ↦ subst (IsBeside new.name) (sym (same_there k other)) (beside pages new.name k (λ used e.
        fresh k inside (λ x. used (sym (ap (λ y. y.kind) (laid.entries k inside)) ∙ x)) (ap (λ y. y.name) (laid.entries k inside) ∙ e)))
  ]
    where
      none_beside : IsBeside new.name None
      none_beside = λ x e. absurd (none_is_some e)
        where
          none_is_some : {x : List ℕ × File} → ◌≡◌ {A = Named} None (Some x) → ⊥
          none_is_some e = cc

  pub files_renamed : files after ≡ fin.insert (fin.remove (files pages) (entry_of pages p).name) new.name (file_at pages (entry_of pages p))
  files_renamed =
      files_with others (named_at after) to 240 to_below others_stay new.name (λ k inside apart. new_beside k inside) (file_at pages (entry_of pages p))
      (λ x e. absurd (none_is_some (sym nothing_there ∙ e)))
      (named_used after to used_now ∙ ap (λ n. Some (n, file_at after (entry_of after to))) (ap (λ x. x.name) now_here)
      ∙ ap (λ x. Some (new.name, x)) (content_stays to file_now p (before_of_to to refl) has (ap (λ x. x.kind) now_here ∙ kind)
      (ap (λ x. x.protection) now_here ∙ protection)))
      ∙ ap (λ all. fin.insert all new.name (file_at pages (entry_of pages p))) without_old
    where
      none_is_some : {x : List ℕ × File} → ◌≡◌ {A = Named} None (Some x) → ⊥
      none_is_some x = cc

      nothing_there : others to ≡ None
      nothing_there = elim (cases_eq to p) [
        | inl here ↦ none_here to here
        | inr other ↦ same_there to other ∙ named_empty pages to (sym (ap (λ x. x.kind) (then_beside to to_below other)) ∙ empty)
      ]

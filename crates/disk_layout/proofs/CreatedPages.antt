-- The pages after a file was created are laid out, and the map has the empty file besides.
use Rattle.std.proofs.Common.{◌≡◌, ◌≢◌, ℕ, ◌+◌, ◌*◌, ◌<◌, ◌≤◌, ◌==◌, ◌||◌, false, cond, Option, Some, None, List, [], replicate, refl, ap, sym, subst, ◌∙◌, inl, inr, arith}
use Rattle.std.specs.Prelude.{slice_index_or}
use Rattle.std.specs.FinSet as set
use Rattle.std.specs.FinMap as fin
use Rattle.std.proofs.lemmas.Bool.{cases_eq}
use Rattle.solo_base.specs.Ident.{IsIdent}
use Rattle.disk_pages.specs.Pages.{Pages, IsLeastFree}
use Rattle.disk_pages.proofs.MarkedPages.{insert_is}
use Rattle.disk_layout.specs.declared.entry.Entry.{Entry}
use Rattle.disk_layout.specs.Disk.{Disk, disk_of, page_at, entry_of, spare_of, number_of}
use Rattle.disk_layout.specs.Format.{IsAddress, IsFullEntry, key_of}
use Rattle.disk_layout.specs.Files.{File, files, file_at, named_at, kind_of, first_pages, pages_named}
use Rattle.disk_layout.specs.Layout.{Use, index_at, page_number, HasFile, IsLaidOut, blank_entry}
use Rattle.disk_layout.specs.Layout.Use.{Index, Page}
use Rattle.disk_layout.specs.Writing.{PutsName, CreateWrites}
use Rattle.disk_layout.proofs.Created.{Created, owner_with, owns_with, same_address, index_numbers}
use Rattle.disk_layout.proofs.Listed.{EntryPut, right_with}
use Rattle.disk_layout.proofs.Lookups.{named_used, named_empty, beside}
use Rattle.disk_layout.proofs.Maps.{Named, files_with}
use Rattle.disk_layout.proofs.AppendedPages.{unowned, number_of_zeros}
use Rattle.disk_layout.proofs.FilesStay.{file_stays}
use Rattle.disk_layout.proofs.TakenPages.{past_insert}
use Rattle.disk_layout.proofs.Written.{number_stays, number_in}

abbrev with_searches : ℕ → Entry → Entry
with_searches n e = record e { searches = n }

module _ (kept : List Entry) (taken : Pages) (pages : List (List ℕ)) (laid : IsLaidOut kept taken pages) (p : ℕ) (new : Entry) (kept_now : List Entry)
    (taken_now : Pages) (after : List (List ℕ))
    (below : p < 240) (empty : (slice_index_or kept p blank_entry).kind ≡ 0)
    (ident : IsIdent new.name) (some_kind : 1 ≤ new.kind) (last_kind : new.kind ≤ 4) (loose : new.protection ≡ 0) (key : new.key ≡ key_of new.name)
    (free : IsAddress new.address) (least : IsLeastFree taken new.address) (taken_is : taken_now ≡ set.insert taken new.address)
    (fresh : (k : ℕ) → k < 240 → (slice_index_or kept k blank_entry).kind ≢ 0 → (slice_index_or kept k blank_entry).name ≢ new.name)
    (put : PutsName kept kept_now p new) (w : CreateWrites pages after kept_now taken_now new.address) where
  abbrev d : Disk
  d = disk_of pages

  abbrev d' : Disk
  d' = disk_of after

  abbrev i : ℕ
  i = new.address

  was_empty : (entry_of pages p).kind ≡ 0
  was_empty = sym (ap (λ e. e.kind) (laid.entries p below)) ∙ empty

  entry_beside : (k : ℕ) → k < 240 → k ≢ p → entry_of after k ≡ record (entry_of pages k) { searches = (entry_of after k).searches }
  entry_beside k inside apart =
      let now = sym (w.entries k inside) ∙ put.beside k inside apart in
      let was = laid.entries k inside in
      now ∙ ap (with_searches (slice_index_or kept_now k blank_entry).searches) was
      ∙ ap (λ n. with_searches n (entry_of pages k)) (ap (λ e. e.searches) (w.entries k inside))

  entry_here : entry_of after p ≡ record new { searches = (entry_of after p).searches }
  entry_here = sym (w.entries p below) ∙ put.here ∙ ap (λ n. with_searches n new) (ap (λ e. e.searches) (w.entries p below))

  spare_here : spare_of after p ≡ replicate 10 0
  spare_here = w.spares p below ∙ elim (laid.right p below).whole [
    | inl none ↦ none.spare
    | inr full ↦ absurd (let some = full.some_kind in omega (arith, some, was_empty))
  ]

  full_here : IsFullEntry (entry_of after p) (spare_of after p)
  full_here = subst (λ e. IsFullEntry e (spare_of after p)) (sym entry_here)
      (record { name = ident; some_kind = some_kind; kind = last_kind; address = free; protection = omega (arith, loose); key = key; spare = spare_here })

  unused : laid.owner i ≡ None
  unused = unowned kept taken pages laid i free.within least.free

  index_taken : (k : ℕ) → HasFile d k → index_at d k ≢ i
  index_taken k has e = none_is_some (sym unused ∙ ap laid.owner (sym e) ∙ laid.owns.known (Index k) has)
    where
      none_is_some : {u : Use} → ◌≡◌ {A = Option Use} None (Some u) → ⊥
      none_is_some x = cc

  entry_put : EntryPut d d' p
  entry_put = record {
    beside = record { inside = below; entries = entry_beside; spares = λ k inside _. w.spares k inside };
    was_empty = was_empty;
    full = full_here;
    searches = λ s inside.
        sym (ap (λ e. e.searches) (w.entries s inside)) ∙ put.searches s inside
        ∙ ap (λ e. e.searches + cond (new.key == s + 1) 1 0) (laid.entries s inside)
        ∙ ap (λ n. (entry_of pages s).searches + cond (n == s + 1) 1 0) (sym (ap (λ e. e.key) entry_here));
    new_name = λ k inside used e. fresh k inside (λ x. used (sym (ap (λ y. y.kind) (laid.entries k inside)) ∙ x))
        (ap (λ y. y.name) (laid.entries k inside) ∙ e ∙ ap (λ y. y.name) entry_here);
    new_address = λ k inside used e. index_taken k (record { inside = inside; used = used }) (e ∙ ap (λ y. y.address) entry_here);
  }

  created : Created d d' laid.owner p i
  created = record {
    inside = below;
    was_empty = was_empty;
    used = λ e. let kind = ap (λ y. y.kind) entry_here in omega (arith, e, kind, some_kind);
    index = ap (λ y. y.address) entry_here;
    kinds = λ k inside apart. ap (λ y. y.kind) (entry_beside k inside apart);
    addresses = λ k inside apart. ap (λ y. y.address) (entry_beside k inside apart);
    free_page = free;
    unused = unused;
    blank = λ k within. number_in after i k _ refl ∙ number_of_zeros (page_at after i) (2 * k) w.blank;
    others = λ n k address apart. number_stays pages after n k (w.others n address.file_page apart);
    marked = λ n within.
        w.marked n within ∙ ap (λ s. set.contains s n) taken_is ∙ insert_is taken i n ∙ ap (λ b. (n == i) || b) (sym (laid.taken n within));
  }

  pub laid_created : IsLaidOut kept_now taken_now after
  laid_created = record {
    as_many = w.as_many ∙ laid.as_many;
    first = w.first ∙ laid.first;
    places = put.places ∙ laid.places;
    entries = w.entries;
    right = right_with d d' p entry_put laid.right;
    zeros = w.zeros;
    taken = w.marked;
    within = λ n past. ap (λ s. set.contains s n) taken_is ∙ past_insert taken i free.within laid.within n past;
    owner = owner_with d d' laid.owner p i laid.owns created;
    owns = owns_with d d' laid.owner p i laid.owns created;
  }

  -- the other files hold what they held
  other_stays : (k : ℕ) → k < 240 → k ≢ p → named_at after k ≡ named_at pages k
  other_stays k inside apart = elim (cases_eq (entry_of pages k).kind 0) [
    | inl none ↦ named_empty after k (ap (λ y. y.kind) (entry_beside k inside apart) ∙ none) ∙ sym (named_empty pages k none)
    | inr used ↦
        let file : HasFile d k = record { inside = inside; used = used } in
        let e = entry_beside k inside apart in
        let o = laid.owns in
        let count = index_numbers d d' laid.owner p i laid.owns created k file 0 in
        let stays = file_stays pages after (entry_of pages k) (entry_of after k) (ap (λ x. x.kind) e) (ap (λ x. x.protection) e) count
        (λ j less.
        let owned = o.known (Page k j) (file, less) in
        ap (page_at after) (same_address d d' laid.owner p i laid.owns created (Page k j) (file, less))
        ∙ w.others (page_number d k j) (o.free _ _ owned).file_page (λ x. none_is_some (sym unused ∙ ap laid.owner (sym x) ∙ owned))) in
        named_used after k (λ x. used (sym (ap (λ y. y.kind) e) ∙ x)) ∙ ap (λ x. Some (x.name, file_at after (entry_of after k))) e
        ∙ ap (λ x. Some ((entry_of pages k).name, x)) stays ∙ sym (named_used pages k used)
  ]
    where
      none_is_some : {u : Use} → ◌≡◌ {A = Option Use} None (Some u) → ⊥
      none_is_some x = cc

  new_file : file_at after (entry_of after p) ≡ record { kind = kind_of new.kind; protected = false; pages = [] }
  unfolding file_at pages_named
  new_file =
      let count : number_of after (entry_of after p).address 0 ≡ 0 = ap (λ y. number_of after y.address 0) entry_here ∙ created.blank 0 (omega arith) in
      ap (λ n. record {
        kind =
            kind_of (entry_of after p).kind;
        protected = (entry_of after p).protection == 1;
        pages = first_pages after (entry_of after p).address n;
      }) count
      ∙ ap (λ y. record { kind = kind_of y.kind; protected = y.protection == 1; pages = [] }) entry_here
      ∙ ap (λ n. record { kind = kind_of new.kind; protected = n == 1; pages = [] }) loose

  pub files_created : files after ≡ fin.insert (files pages) new.name (record { kind = kind_of new.kind; protected = false; pages = [] })
  files_created =
      files_with (named_at pages) (named_at after) p 240 below other_stays new.name
      (λ k inside _. beside pages new.name k (λ used e. fresh k inside (λ x. used (sym (ap (λ y. y.kind) (laid.entries k inside))
      ∙ x)) (ap (λ y. y.name) (laid.entries k inside) ∙ e)))
      (record { kind = kind_of new.kind; protected = false; pages = [] })
      (λ x e. absurd (none_is_some (sym (named_empty pages p was_empty) ∙ e)))
      (named_used after p (λ e. let kind = ap (λ y. y.kind) entry_here in omega (arith, e, kind, some_kind))
      ∙ ap (λ n. Some (n, file_at after (entry_of after p))) (ap (λ y. y.name) entry_here) ∙ ap (λ x. Some (new.name, x)) new_file)
    where
      none_is_some : {x : List ℕ × File} → ◌≡◌ {A = Named} None (Some x) → ⊥
      none_is_some x = cc

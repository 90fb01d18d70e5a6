-- A file area after an append.
use Rattle.std.proofs.Common.{◌≡◌, ◌≢◌, ℕ, ◌/◌, ◌<◌, Option, Some, List, ap, sym, subst, ◌∙◌, arith}
use Rattle.std.specs.Prelude.{slice_index_or}
use Rattle.std.specs.FinMap as fin
use Rattle.disk_pages.specs.Pages.{Pages}
use Rattle.disk_layout.specs.declared.entry.Entry.{Entry}
use Rattle.disk_layout.specs.Disk.{disk_of, page_at, entry_of, number_of}
use Rattle.disk_layout.specs.Files.{File, Files, files, file_at, with_page}
use Rattle.disk_layout.specs.Layout.{Use, HasFile, IsLaidOut, blank_entry}
use Rattle.disk_layout.specs.Layout.Use.{Index, Part}
use Rattle.disk_layout.specs.Appending.{Appends, MayGrow}
use Rattle.disk_layout.proofs.AppendedPages.{owned_taken, laid_then, files_then}

module _ (kept : List Entry) (taken : Pages) (pages : List (List ℕ)) (laid : IsLaidOut kept taken pages) (p : ℕ) (below : p < 240) where
  in_use : (slice_index_or kept p blank_entry).kind ≢ 0 → HasFile (disk_of pages) p
  in_use used = record { inside = below; used = subst (λ e. e.kind ≢ 0) (laid.entries p below) used }

  pub may_grow : (slice_index_or kept p blank_entry).kind ≢ 0 → MayGrow pages taken (slice_index_or kept p blank_entry).address
  may_grow used =
      let has = in_use used in
      let o = laid.owns in
      let i : ℕ = (entry_of pages p).address in
      let L : ℕ = number_of pages (entry_of pages p).address 0 in
      let its : MayGrow pages taken (entry_of pages p).address = record {
        as_many = laid.as_many;
        index = o.free _ _ (o.known (Index p) has);
        index_taken = owned_taken kept taken pages laid _ _ (o.known (Index p) has);
        part = λ some. o.free _ _ (o.known (Part p (L / 250)) (has, omega (arith, some)));
        part_taken = λ some. owned_taken kept taken pages laid _ _ (o.known (Part p (L / 250)) (has, omega (arith, some)));
        apart = λ some e. index_is_part (sym (o.known (Index p) has) ∙ ap laid.owner e ∙ o.known (Part p (L / 250)) (has, omega (arith, some)));
      } in
      subst (λ e. MayGrow pages taken e.address) (sym (laid.entries p below)) its
    where
      index_is_part : {a b k : ℕ} → ◌≡◌ {A = Option Use} (Some (Index a)) (Some (Part b k)) → ⊥
      index_is_part e = cc

  abbrev Grown : List (List ℕ) → Pages → List ℕ → Entry → Type 0
  Grown after taken_then page e =
      number_of pages e.address 0 < 4000 → Appends pages after taken taken_then e.address (number_of pages e.address 0) (page_at pages e.address) page
      → IsLaidOut kept taken_then after × (files after ≡ fin.insert (files pages) e.name (with_page (file_at pages e) page))

  pub grown : (slice_index_or kept p blank_entry).kind ≢ 0 → (after : List (List ℕ)) (taken_then : Pages) (page : List ℕ)
      → Grown after taken_then page (slice_index_or kept p blank_entry)
  grown used after taken_then page =
      let its : Grown after taken_then page (entry_of pages p) = (λ room a. (
        laid_then kept taken pages laid p a.part_page a.file_page after a.with_part taken_then a.part page (in_use used) room a.part_free a.file_free a.part_for
            a.least a.taken_is a.writes,
        files_then kept taken pages laid p a.part_page a.file_page after a.with_part taken_then a.part page (in_use used) room a.part_free a.file_free
            a.part_for a.least a.taken_is a.writes,
      )) in
      subst (Grown after taken_then page) (sym (laid.entries p below)) its

pub the_file : {a b : File} → ◌≡◌ {A = Option File} (Some a) (Some b) → a ≡ b
the_file e = cc

pub same_insert : (all : Files) (n q : List ℕ) (a b : File) (page : List ℕ) → n ≡ q → a ≡ b
    → fin.insert all n (with_page a page) ≡ fin.insert all q (with_page b page)
same_insert all n q a b page same_name same_file =
    ap (λ x. fin.insert all x (with_page a page)) same_name ∙ ap (λ x. fin.insert all q (with_page x page)) same_file

-- The file of a name, by its place in the catalogue.
use Rattle.std.proofs.Common.{◌≡◌, ◌≢◌, ℕ, suc, zero, ◌-◌, ◌<◌, cond, Option, Some, None, List, [], ◌∷◌, length, get_or, refl, ap, sym, subst, ◌∙◌, inl, inr, arith, length-append}
use Rattle.std.specs.Prelude.{slice_index_or}
use Rattle.std.proofs.lemmas.Bool.{cases_eq, cases_lt, cases_order, eq-eqb, ne_eqb}
use Rattle.std.proofs.lemmas.List.{get_or_append_left, get_or-append_right}
use Rattle.std.specs.FinMap as fin
use Rattle.disk_pages.specs.Pages.{Pages}
use Rattle.disk_layout.specs.declared.entry.Entry.{Entry}
use Rattle.disk_layout.specs.Disk.{Disk, disk_of, page_at, entry_of, number_of}
use Rattle.disk_layout.specs.Format.{IsFullEntry, EntryIsRight}
use Rattle.disk_layout.specs.Files.{named_as, pages_named, File, HasPages, files, named_at, file_at, first_pages, page_of}
use Rattle.disk_layout.specs.Layout.{HasFile, IsLaidOut, blank_entry}
use Rattle.disk_layout.specs.Layout.Use.{Index, Part, Page}
use Rattle.disk_layout.proofs.Maps.{Named, IsBeside, none_named, one_named}

pub length-first_pages : (pages : List (List ℕ)) (i n : ℕ) → length (first_pages pages i n) ≡ n
unfolding pages_named
length-first_pages pages i zero = refl
length-first_pages pages i (suc n) =
    length-append (first_pages pages i n) (page_at pages (page_of (disk_of pages) i n) ∷ []) ∙ omega (arith, length-first_pages pages i n)

pub first_pages_at : (pages : List (List ℕ)) (i n j : ℕ) → j < n → get_or (first_pages pages i n) j [] ≡ page_at pages (page_of (disk_of pages) i j)
unfolding pages_named
first_pages_at pages i zero j below = absurd (omega arith)
first_pages_at pages i (suc n) j below = elim (cases_lt j n) [
  | inl early ↦ get_or_append_left (first_pages pages i n) _ [] j (omega (arith, length-first_pages pages i n)) ∙ first_pages_at pages i n j early
  | inr late ↦
      let last : j ≡ n = omega arith in
      get_or-append_right (first_pages pages i n) _ n j [] (length-first_pages pages i n) late
      ∙ ap (λ k. get_or (page_at pages (page_of (disk_of pages) i n) ∷ []) k []) (let e : j - n ≡ 0 = omega arith in e)
      ∙ ap (λ k. page_at pages (page_of (disk_of pages) i k)) (sym last)
]

-- an entry in use is full
pub full_entry : (d : Disk) (p : ℕ) → EntryIsRight d p → (d.entry p).kind ≢ 0 → IsFullEntry (d.entry p) (d.spare p)
full_entry d p right used = elim right.whole [
  | inl none ↦ absurd (used none.kind)
  | inr full ↦ full
]

module _ (pages : List (List ℕ)) where
  pub named_used : (p : ℕ) → (entry_of pages p).kind ≢ 0 → named_at pages p ≡ Some ((entry_of pages p).name, file_at pages (entry_of pages p))
  unfolding named_as
  named_used p used = ap (λ b. cond b None (Some ((entry_of pages p).name, file_at pages (entry_of pages p)))) (ne_eqb (entry_of pages p).kind 0 used)

  pub named_empty : (p : ℕ) → (entry_of pages p).kind ≡ 0 → named_at pages p ≡ None
  unfolding named_as
  named_empty p empty = ap (λ b. cond b None (Some ((entry_of pages p).name, file_at pages (entry_of pages p)))) (eq-eqb (entry_of pages p).kind 0 empty)

  pub beside : (q : List ℕ) (p : ℕ) → ((entry_of pages p).kind ≢ 0 → (entry_of pages p).name ≢ q) → IsBeside q (named_at pages p)
  unfolding IsBeside
  beside q p other = elim (cases_eq (entry_of pages p).kind 0) [
    | inl empty ↦ λ named e. absurd (none_is_some named (sym (named_empty p empty) ∙ e))
    | inr used ↦ λ named e. let is = some_same _ named (sym (named_used p used) ∙ e) in λ same. other used (ap name_of is ∙ same)
  ]
    where
      none_is_some : (x : List ℕ × File) → ◌≡◌ {A = Named} None (Some x) → ⊥
      none_is_some x e = cc

      some_same : (x y : List ℕ × File) → ◌≡◌ {A = Named} (Some x) (Some y) → x ≡ y
      some_same x y e = cc

      name_of : List ℕ × File → List ℕ
      name_of x = x.0

module _ (kept : List Entry) (taken : Pages) (pages : List (List ℕ)) (laid : IsLaidOut kept taken pages) where
  -- two entries in use have two names
  pub names_apart : (p other : ℕ) → p < 240 → other < 240 → other ≢ p → (entry_of pages p).kind ≢ 0 → (entry_of pages other).kind ≢ 0
      → (entry_of pages other).name ≢ (entry_of pages p).name
  names_apart p other p_below other_below apart used other_used = elim (cases_order other p) [
    | inl same ↦ absurd (apart same)
    | inr (inl before) ↦ λ e. (laid.right p p_below).name other before (full_entry (disk_of pages) other (laid.right other other_below) other_used) (sym e)
    | inr (inr behind) ↦ (laid.right other other_below).name p behind (full_entry (disk_of pages) p (laid.right p p_below) used)
  ]

  pub found_file : (p : ℕ) (q : List ℕ) → p < 240 → (slice_index_or kept p blank_entry).kind ≢ 0 → (slice_index_or kept p blank_entry).name ≡ q
      → fin.get (files pages) q ≡ Some (file_at pages (slice_index_or kept p blank_entry))
  found_file p q below used name =
      let is = laid.entries p below in
      let in_use : (entry_of pages p).kind ≢ 0 = subst (λ e. e.kind ≢ 0) is used in
      let its : (entry_of pages p).name ≡ q = sym (ap (λ e. e.name) is) ∙ name in
      one_named (named_at pages) q (file_at pages (slice_index_or kept p blank_entry)) p 240 below
      (named_used pages p in_use ∙ ap (λ n. Some (n, file_at pages (entry_of pages p))) its ∙ ap (λ e. Some (q, file_at pages e)) (sym is))
      (λ other other_below apart. beside pages q other (λ other_used e. names_apart p other below other_below apart in_use other_used (e ∙ sym its)))

  pub no_file : (q : List ℕ) → ((p : ℕ) → p < length kept → (slice_index_or kept p blank_entry).kind ≢ 0 → (slice_index_or kept p blank_entry).name ≢ q)
      → fin.get (files pages) q ≡ None
  no_file q none = none_named (named_at pages) q 240 (λ p below. beside pages q p (λ used e.
      let is = laid.entries p below in
      none p (omega (arith, laid.places)) (subst (λ x. x.kind ≢ 0) (sym is) used) (ap (λ x. x.name) is ∙ e)))

  pub kept_has : (p : ℕ) → p < 240 → (slice_index_or kept p blank_entry).kind ≢ 0 → HasFile (disk_of pages) p
  kept_has p below used = record { inside = below; used = subst (λ e. e.kind ≢ 0) (laid.entries p below) used }

  -- the pages of each entry in use can be reached
  pub has_pages : (p : ℕ) → p < 240 → (slice_index_or kept p blank_entry).kind ≢ 0 → HasPages pages (slice_index_or kept p blank_entry).address
  has_pages p below used =
      let has = kept_has p below used in
      let o = laid.owns in
      let its : HasPages pages (entry_of pages p).address = record {
        index = o.free _ _ (o.known (Index p) has);
        length = o.short p has;
        parts = λ k less. o.free _ _ (o.known (Part p k) (has, less));
        pages = λ j less. o.free _ _ (o.known (Page p j) (has, less));
      } in
      subst (λ e. HasPages pages e.address) (sym (laid.entries p below)) its

pages_of : Option File → List (List ℕ)
pages_of None = []
pages_of (Some file) = file.pages

pub file_pages : (pages : List (List ℕ)) (e : Entry) (file : File) → ◌≡◌ {A = Option File} (Some (file_at pages e)) (Some file)
    → first_pages pages e.address (number_of pages e.address 0) ≡ file.pages
unfolding file_at pages_of
file_pages pages e file is = ap pages_of is

-- A file area after an append.
use Rattle.std.proofs.Common.{◌≡◌, ◌≢◌, ℕ, ◌+◌, ◌-◌, ◌%◌, ◌<◌, Bool, true, ◌==◌, Option, Some, None, Result, Ok, Err, List, length, refl, ap, sym, subst, ◌∙◌, inl, inr, arith, ◌≤◌}
use Rattle.std.specs.Prelude.{◌⊎◌, slice_index_or, IfErr, OnOk, slice_set}
use Rattle.std.specs.FinSet as set
use Rattle.std.specs.FinMap as fin
use Rattle.std.proofs.lemmas.Bool.{false≢true, cond-true, cond-false, eq-eqb, ne_eqb}
use Rattle.disk_pages.specs.Pages.{Pages}
use Rattle.disk_layout.specs.declared.entry.Entry.{Entry}
use Rattle.disk_files.specs.declared.fault.FileFault.{FileFault}
use Rattle.disk_files.specs.declared.fault.FileFault.TheVariants.{DiskFault, Protected}
use Rattle.disk_layout.specs.Disk.{disk_of, entry_of, number_of, page_at}
use Rattle.disk_layout.specs.Files.{Files, free_count, files, file_at, with_page, with_page_at, page_of, with_protection, File}
use Rattle.disk_layout.specs.Layout.{IsLaidOut, blank_entry}
use Rattle.disk_layout.specs.Appending.{Appends, PartFor}
use Rattle.disk_layout.specs.Appending.PartFor.{Fresh, There}
use Rattle.disk_layout.proofs.SoloDisk.{laid_out_breaks_nothing}
use Rattle.disk_layout.proofs.Replaced.{laid_replaced, files_replaced}
use Rattle.disk_layout.proofs.Protected.{protected_entry, full_still, laid_protected, files_protected}
use Rattle.disk_layout.specs.Writing.{EntryWritten}
use Rattle.std.proofs.lemmas.Bool.{cases_eq}
use Rattle.std.proofs.Common.{set as set_at, length-set, get_or-set_same, get_or-set_other}
use Rattle.disk_layout.proofs.TakenPages.{free_and_taken}
use Rattle.disk_pages.proofs.MarkedPages.{len_one_more}
use Rattle.disk_layout.specs.Judging.{IsKeptEntry}
use Rattle.disk_files.specs.Answers.{unprotected, read_answer_of, LaidNow, Holds, Told, pages_needed, IsFileArea, Stays, stays_sound, append_answer, append_answer_of, rename_answer}
use Rattle.disk_layout.proofs.Lookups.{length-first_pages, kept_has}
use Rattle.disk_layout.proofs.Grows.{grown}
use Rattle.disk_layout.specs.Taking.{HasIndex, TakesNext}
use Rattle.disk_layout.proofs.Takings.{takes_next}

-- the answer by the file of an entry
pub append_at : (pages : List (List ℕ)) (e : Entry) (free : ℕ) → e.protection ≢ 1
    → append_answer (Some (file_at pages e)) free ≡ append_answer_of (number_of pages e.address 0) free
unfolding file_at
append_at pages e free loose =
    cond-false (e.protection == 1) _ _ (ne_eqb e.protection 1 loose)
    ∙ ap (λ n. append_answer_of n free) (length-first_pages pages e.address (number_of pages e.address 0))

pub protected_at : (pages : List (List ℕ)) (e : Entry) (free : ℕ) → e.protection ≡ 1 → append_answer (Some (file_at pages e)) free ≡ Err Protected
unfolding file_at
protected_at pages e free protected = cond-true (e.protection == 1) _ _ (eq-eqb e.protection 1 protected)

-- what is known after a call that may have written
pub area_after : {T : Type 0} (before now : Option (List (List ℕ))) (size now_size : ℕ) (kept kept_now : List Entry) (taken taken_now : Pages)
    (was_sound sound : Bool) (r : Result T FileFault)
    → IsFileArea before size kept taken was_sound → was_sound ≡ true → now_size ≡ size → Stays before size now now_size → sound ≡ stays_sound r
    → length kept_now ≡ 240 → ((p : ℕ) → p < 240 → IsKeptEntry (slice_index_or kept_now p blank_entry))
    → IfErr r (λ fault. (fault ≡ DiskFault) ⊎ ((now ≡ before) × (kept_now ≡ kept) × (taken_now ≡ taken)))
    → ((pages : List (List ℕ)) → before ≡ Some pages → IsLaidOut kept taken pages
    → OnOk r ((after : List (List ℕ)) × (now ≡ Some after) × IsLaidOut kept_now taken_now after))
    → IsFileArea now now_size kept_now taken_now sound
area_after {T} before now size now_size kept kept_now taken taken_now was_sound sound r area was same stays sound_is places entries refused done = record {
  whole = same ∙ area.whole;
  has_size = stays.has_size area.has_size;
  places = places;
  entries = entries;
  laid = λ still pages told. laid_now r (λ e. area.laid was e) refused done (sym sound_is ∙ still) pages told;
}
  where
    laid_now : (r : Result T FileFault) → ((pages : List (List ℕ)) → before ≡ Some pages → IsLaidOut kept taken pages)
        → IfErr r (λ fault. (fault ≡ DiskFault) ⊎ ((now ≡ before) × (kept_now ≡ kept) × (taken_now ≡ taken)))
        → ((pages : List (List ℕ)) → before ≡ Some pages → IsLaidOut kept taken pages
        → OnOk r ((after : List (List ℕ)) × (now ≡ Some after) × IsLaidOut kept_now taken_now after))
        → stays_sound r ≡ true → (pages : List (List ℕ)) → now ≡ Some pages → IsLaidOut kept_now taken_now pages
    laid_now (Err e) was_laid (inl fault) done still pages told = absurd (false≢true (sym (ap (λ x. stays_sound {T = T} (Err x)) fault) ∙ still))
    laid_now (Err e) was_laid (inr left) done still pages told =
        subst (λ k. IsLaidOut k taken_now pages) (sym left.1) (subst (λ t. IsLaidOut kept t pages) (sym left.2) (was_laid pages (sym left.0 ∙ told)))
    laid_now (Ok u) was_laid refused done still pages told = by_pages before refl
      where
        by_pages : (b : Option (List (List ℕ))) → before ≡ b → IsLaidOut kept_now taken_now pages
        by_pages None none = absurd (none_is_some (sym (stays.untold none) ∙ told))
          where
            none_is_some : ◌≡◌ {A = Option (List (List ℕ))} None (Some pages) → ⊥
            none_is_some e = cc
        by_pages (Some old) is =
            let x = done old is (was_laid old is) in
            subst (IsLaidOut kept_now taken_now) (the_same x.0 (sym x.1 ∙ told)) x.2
          where
            the_same : (a : List (List ℕ)) → ◌≡◌ {A = Option (List (List ℕ))} (Some a) (Some pages) → a ≡ pages
            the_same a e = cc

-- what is laid out now is a Solo disk with so many free pages
pub holds_now : (now : Option (List (List ℕ))) (kept : List Entry) (taken : Pages) (all : Files) (free : ℕ) → free ≡ 4288 - set.len taken
    → LaidNow now kept taken all → Holds now all free
holds_now now kept taken all free rest laid = record {
  pages = laid.pages;
  told = laid.told;
  solo = laid_out_breaks_nothing kept taken laid.pages laid.laid;
  files = laid.files;
  free = omega (arith, rest, free_and_taken taken laid.pages laid.laid.taken laid.laid.within);
}

pub free_now : (kept : List Entry) (taken : Pages) (pages : List (List ℕ)) → IsLaidOut kept taken pages → free_count pages ≡ 4288 - set.len taken
free_now kept taken pages laid = omega (arith, free_and_taken taken pages laid.taken laid.within)

-- an append takes as many pages as it needs
pub pages_taken : (pages after : List (List ℕ)) (taken taken_now : Pages) (i count : ℕ) (old_index page : List ℕ)
    → Appends pages after taken taken_now i count old_index page
    → set.len taken_now ≡ set.len taken + pages_needed count
pages_taken pages after taken taken_now i count old_index page a =
    let last = len_one_more a.with_part a.file_page a.least.free in
    let is = ap set.len a.taken_is in
    omega (arith, last, is, with_part a.part_for)
  where
    with_part : {q : ℕ} {part : List ℕ} {others : Pages} → PartFor pages taken i count q part others → set.len others + 1 ≡ set.len taken + pages_needed count
    with_part {q} {part} {others} (Fresh none least is zeros) =
        let one = len_one_more taken q least.free in let same = ap set.len is in
        let two : pages_needed count ≡ 2 = cond-true (count % 250 == 0) _ _ (eq-eqb (count % 250) 0 none) in omega (arith, one, same, two)
    with_part {q} {part} {others} (There some q_is is bytes) =
        let same = ap set.len is in let one : pages_needed count
        ≡ 1 = cond-false (count % 250 == 0) _ _ (ne_eqb (count % 250) 0 some) in omega (arith, same, one)

-- what the call wrote, where the page that it took for the index page is the file's
pub grown_by : (kept : List Entry) (taken : Pages) (pages : List (List ℕ)) (laid : IsLaidOut kept taken pages) (p : ℕ) → p < 240
    → (slice_index_or kept p blank_entry).kind ≢ 0
    → (r : Result (Unit {0}) FileFault) (now : Option (List (List ℕ))) (taken_now : Pages) (page : List ℕ)
    → let i = (slice_index_or kept p blank_entry).address in
    OnOk r ((number_of pages i 0 < 4000)
    × ((after : List (List ℕ)) × (now ≡ Some after) × Appends pages after taken taken_now i (number_of pages i 0) (page_at pages i) page))
    → OnOk r (LaidNow now kept taken_now
    (fin.insert (files pages) (slice_index_or kept p blank_entry).name (with_page (file_at pages (slice_index_or kept p blank_entry)) page))
    × (set.len taken_now ≡ set.len taken + pages_needed (number_of pages i 0))
    × Told now (λ after. TakesNext pages after (slice_index_or kept p blank_entry).name (number_of pages i 0)))
grown_by kept taken pages laid p below used (Err e) now taken_now page w = tt
grown_by kept taken pages laid p below used (Ok u) now taken_now page w =
    let x = grown kept taken pages laid p below used w.1.0 taken_now page w.0 w.1.2 in
    let is = x.0.entries p below in
    let indexed : HasIndex w.1.0 (slice_index_or kept p blank_entry).name (slice_index_or kept p blank_entry).address = record {
      place = p;
      inside = below;
      used = subst (λ e. e.kind ≢ 0) is used;
      named = ap (λ e. e.name) (sym is);
      address = ap (λ e. e.address) (sym is);
    } in (
      record { pages = w.1.0; told = w.1.1; laid = x.0; files = x.1 },
      pages_taken _ _ _ _ _ _ _ _ w.1.2,
      (w.1.0, w.1.1, takes_next kept taken taken_now pages w.1.0 _ _ _ page _ laid w.1.2 indexed),
    )

-- the index page of the file at a place, by its name
pub index_named : (kept : List Entry) (taken : Pages) (pages : List (List ℕ)) → IsLaidOut kept taken pages → (p : ℕ) → p < 240
    → (slice_index_or kept p blank_entry).kind ≢ 0 → (name : List ℕ) → (slice_index_or kept p blank_entry).name ≡ name
    → HasIndex pages name (slice_index_or kept p blank_entry).address
index_named kept taken pages laid p below used name named = let is = laid.entries p below in record {
  place = p;
  inside = below;
  used = subst (λ e. e.kind ≢ 0) is used;
  named = ap (λ e. e.name) (sym is) ∙ named;
  address = ap (λ e. e.address) (sym is);
}

pub file_length_at : (pages : List (List ℕ)) (e : Entry) → length (file_at pages e).pages ≡ number_of pages e.address 0
unfolding file_at
file_length_at pages e = length-first_pages pages e.address (number_of pages e.address 0)

-- a refusal of a call that leaves the entries
pub refused_same : {fault : FileFault} {now before : Option (List (List ℕ))} {taken_now taken : Pages} {kept : List Entry}
    → (fault ≡ DiskFault) ⊎ ((now ≡ before) × (taken_now ≡ taken)) → (fault ≡ DiskFault) ⊎ ((now ≡ before) × (kept ≡ kept) × (taken_now ≡ taken))
refused_same (inl e) = inl e
refused_same (inr same) = inr (same.0, refl, same.1)

-- what a write of a page of the file leaves
pub replaced_by : (kept : List Entry) (taken : Pages) (pages : List (List ℕ)) (laid : IsLaidOut kept taken pages) (p n : ℕ) → p < 240
    → (slice_index_or kept p blank_entry).kind ≢ 0
    → (r : Result (Unit {0}) FileFault) (now : Option (List (List ℕ))) (page : List ℕ)
    → let e = slice_index_or kept p blank_entry in
    OnOk r ((n - 1 < number_of pages e.address 0) × (now ≡ Some (slice_set pages (page_of (disk_of pages) e.address (n - 1)) page)))
    → OnOk r (LaidNow now kept taken (fin.insert (files pages) e.name (with_page_at (file_at pages e) n page)))
replaced_by kept taken pages laid p n below used (Err e) now page w = tt
replaced_by kept taken pages laid p n below used (Ok u) now page w =
    let has = kept_has kept taken pages laid p below used in
    let Written : Entry → Type 0 = (λ e. n - 1 < number_of pages e.address 0 → now ≡ Some (slice_set pages (page_of (disk_of pages) e.address (n - 1)) page)
    → LaidNow now kept taken (fin.insert (files pages) e.name (with_page_at (file_at pages e) n page))) in
    let its : Written (entry_of pages p) = (λ inside told. record {
      pages = slice_set pages (page_of (disk_of pages) (entry_of pages p).address (n - 1)) page;
      told = told;
      laid = laid_replaced kept taken pages laid p (n - 1) has inside page;
      files = files_replaced kept taken pages laid p (n - 1) has inside page;
    }) in
    subst Written (sym (laid.entries p below)) its w.0 w.1

-- the answer where the file isn't protected, and where it is
pub unprotected_at : (pages : List (List ℕ)) (e : Entry) (r : Result (Unit {0}) FileFault) → e.protection ≢ 1 → unprotected (file_at pages e) r ≡ r
unfolding file_at
unprotected_at pages e r loose = cond-false (e.protection == 1) _ _ (ne_eqb e.protection 1 loose)

pub kept_from : (pages : List (List ℕ)) (e : Entry) (r : Result (Unit {0}) FileFault) → e.protection ≡ 1 → unprotected (file_at pages e) r ≡ Err Protected
unfolding file_at
kept_from pages e r protected = cond-true (e.protection == 1) _ _ (eq-eqb e.protection 1 protected)

pub range_at : (pages : List (List ℕ)) (e : Entry) (n : ℕ) → read_answer_of (length (file_at pages e).pages) n ≡ read_answer_of (number_of pages e.address 0) n
range_at pages e n = ap (λ l. read_answer_of l n) (file_length_at pages e)

-- a refusal of a call that leaves the entries and the map
pub refused_left : {fault : FileFault} {now before : Option (List (List ℕ))} {taken : Pages} {kept : List Entry}
    → (fault ≡ DiskFault) ⊎ (now ≡ before) → (fault ≡ DiskFault) ⊎ ((now ≡ before) × (kept ≡ kept) × (taken ≡ taken))
refused_left (inl e) = inl e
refused_left (inr same) = inr (same, refl, refl)

pub inserted_as : (all : Files) (n q : List ℕ) (a b : File) (change : File → File) → n ≡ q → a ≡ b → fin.insert all n (change a) ≡ fin.insert all q (change b)
inserted_as all n q a b change same_name same_file = ap (λ x. fin.insert all x (change a)) same_name ∙ ap (λ x. fin.insert all q (change x)) same_file

pub renamed_as_told : (all : Files) (n q m r : List ℕ) (a b : File) → n ≡ q → m ≡ r → a ≡ b
    → fin.insert (fin.remove all n) m a ≡ fin.insert (fin.remove all q) r b
renamed_as_told all n q m r a b old new file =
    ap (λ x. fin.insert (fin.remove all x) m a) old ∙ ap (λ x. fin.insert (fin.remove all q) x a) new ∙ ap (fin.insert (fin.remove all q) r) file

-- the answer of a rename where the files of both names are these
pub rename_at : (old new a b : Option File) → old ≡ a → new ≡ b → rename_answer old new ≡ rename_answer a b
rename_at old new a b is other = ap (λ x. rename_answer x new) is ∙ ap (rename_answer a) other

-- the entries that are kept after one was set
pub set_places : (kept : List Entry) (p : ℕ) (e : Entry) → length kept ≡ 240 → length (set_at kept p e) ≡ 240
set_places kept p e size = length-set kept p e ∙ size

pub set_kept : (kept : List Entry) (p : ℕ) (e : Entry) → length kept ≡ 240 → p < 240 → ((k : ℕ) → k < 240 → IsKeptEntry (slice_index_or kept k blank_entry))
    → IsKeptEntry e
    → (k : ℕ) → k < 240 → IsKeptEntry (slice_index_or (set_at kept p e) k blank_entry)
set_kept kept p e size below all one k inside = elim (cases_eq k p) [
  | inl own ↦ subst IsKeptEntry (sym (ap (λ x. slice_index_or (set_at kept p e) x blank_entry) own
      ∙ get_or-set_same kept p e blank_entry (omega (arith, size, below)))) one
  | inr apart ↦ subst IsKeptEntry (sym (get_or-set_other kept p k e blank_entry apart)) (all k inside)
]

pub protected_kept : (e : Entry) (n : ℕ) → n ≤ 1 → IsKeptEntry e → IsKeptEntry (protected_entry e n)
protected_kept e n small (inl empty) = inl empty
protected_kept e n small (inr full) = inr (full_still e n _ small full)

-- what a write of the entry with another protection leaves
pub protected_by : (kept : List Entry) (taken : Pages) (pages : List (List ℕ)) (laid : IsLaidOut kept taken pages) (p protection : ℕ) → p < 240
    → (slice_index_or kept p blank_entry).kind ≢ 0 → protection ≤ 1
    → (r : Result (Unit {0}) FileFault) (now : Option (List (List ℕ))) → let e = slice_index_or kept p blank_entry in
    OnOk r ((after : List (List ℕ)) × (now ≡ Some after) × EntryWritten pages after p (protected_entry e protection))
    → OnOk r (LaidNow now (set_at kept p (protected_entry e protection)) taken
    (fin.insert (files pages) e.name (with_protection (file_at pages e) (protection == 1))))
protected_by kept taken pages laid p protection below used small (Err e) now w = tt
protected_by kept taken pages laid p protection below used small (Ok u) now w =
    let has = kept_has kept taken pages laid p below used in
    let is = laid.entries p below in
    let its : EntryWritten pages w.0 p (protected_entry (entry_of pages p) protection) = subst (λ x. EntryWritten pages w.0 p (protected_entry x protection)) is
    w.2 in
    record {
      pages = w.0;
      told = w.1;
      laid =
          laid_protected kept taken pages laid p protection has small w.0 its (set_at kept p (protected_entry (slice_index_or kept p blank_entry) protection))
          (set_places kept p _ laid.places)
          (λ k inside. elim (cases_eq k p) [
            | inl own ↦ ap (λ x. slice_index_or (set_at kept p (protected_entry (slice_index_or kept p blank_entry) protection)) x blank_entry) own
                ∙ get_or-set_same kept p _ blank_entry (let size = laid.places in omega (arith, size, below)) ∙ sym w.2.is ∙ ap (entry_of w.0) (sym own)
            | inr apart ↦ get_or-set_other kept p k _ blank_entry apart ∙ laid.entries k inside ∙ sym (w.2.entries k inside apart)
          ]);
      files =
          files_protected kept taken pages laid p protection has small w.0 its
          ∙ inserted_as (files pages) _ _ _ _ (λ f. with_protection f (protection == 1)) (ap (λ x. x.name) (sym is)) (ap (file_at pages) (sym is));
    }

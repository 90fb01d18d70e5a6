-- What is answered of a file, by its entry.
use Rattle.std.proofs.Common.{◌≡◌, ℕ, ◌-◌, ◌<◌, ◌==◌, Option, Some, Result, Ok, Err, OnOk, List, [], length, get_or, ap, sym, ◌∙◌, inl, inr, arith, ◌≢◌, None, refl, subst}
use Rattle.std.proofs.lemmas.Bool.{cases_eq, cases_lt}
use Rattle.disk_layout.specs.declared.entry.Entry.{Entry}
use Rattle.disk_layout.specs.Disk.{disk_of, page_at, number_of}
use Rattle.disk_layout.specs.Files.{File, files, file_at, kind_of, page_of}
use Rattle.solo_base.specs.Blanks.{trimmed}
use Rattle.solo_base.specs.Ident.{identifier}
use Rattle.disk_pages.specs.Pages.{Pages}
use Rattle.disk_layout.specs.Layout.{IsLaidOut}
use Rattle.disk_layout.specs.Judging.{IsKeptEntry}
use Rattle.disk_layout.specs.Names.{IsNameAfter, IsNextBelow, name_at}
use Rattle.disk_layout.proofs.NextNames.{name_after, none_after}
use Rattle.disk_files.specs.declared.fault.FileFault.{FileFault}
use Rattle.disk_files.specs.declared.fault.FileFault.TheVariants.{PageRange, DiskFault}
use Rattle.disk_files.specs.Answers.{lookup_answer, read_answer, read_answer_of, Answers}
use Rattle.disk_files.proofs.Numbers.{range_refused}
use Rattle.disk_layout.proofs.Lookups.{length-first_pages, first_pages_at, file_pages}

-- what is said of a file, by its entry
pub info_at : (pages : List (List ℕ)) (e : Entry)
    → lookup_answer (Some (file_at pages e)) ≡ Ok record { kind = kind_of e.kind; protected = e.protection == 1; pages = number_of pages e.address 0 }
unfolding file_at
info_at pages e =
    ap (λ n. Ok record { kind = kind_of e.kind; protected = e.protection == 1; pages = n }) (length-first_pages pages e.address (number_of pages e.address 0))

pub read_at : (pages : List (List ℕ)) (e : Entry) (n : ℕ) → read_answer (Some (file_at pages e)) n ≡ read_answer_of (number_of pages e.address 0) n
unfolding file_at
read_at pages e n = ap (λ l. read_answer_of l n) (length-first_pages pages e.address (number_of pages e.address 0))

-- a page that is given lies in the file
given_within : (length n : ℕ) (u : Unit {0}) → Answers (Ok u) (read_answer_of length n) → n - 1 < length
given_within length n u (inl failed) = absurd (ok_is_fault failed)
  where
    ok_is_fault : ◌≡◌ {A = Result (Unit {0}) FileFault} (Ok u) (Err DiskFault) → ⊥
    ok_is_fault e = cc
given_within length n u (inr given) = elim (cases_eq n 0) [
  | inl none ↦ absurd (ok_is_fault (given ∙ range_refused length n (inl none)))
  | inr some ↦ elim (cases_lt length n) [
    | inl past ↦ absurd (ok_is_fault (given ∙ range_refused length n (inr past)))
    | inr within ↦ omega arith
  ]
]
  where
    ok_is_fault : ◌≡◌ {A = Result (Unit {0}) FileFault} (Ok u) (Err PageRange) → ⊥
    ok_is_fault e = cc

-- a page that was read is the file's
pub page_read : (pages : List (List ℕ)) (e : Entry) (file : File) (n : ℕ) (r : Result (Unit {0}) FileFault) (page : List ℕ)
    → ◌≡◌ {A = Option File} (Some (file_at pages e)) (Some file)
    → Answers r (read_answer_of (number_of pages e.address 0) n) → OnOk r (page ≡ page_at pages (page_of (disk_of pages) e.address (n - 1)))
    → OnOk r (page ≡ get_or file.pages (n - 1) [])
page_read pages e file n (Err fault) page is answer read = tt
page_read pages e file n (Ok u) page is answer read =
    read ∙ sym (first_pages_at pages e.address (number_of pages e.address 0) (n - 1) (given_within _ n u answer))
    ∙ ap (λ ps. get_or ps (n - 1) []) (file_pages pages e file is)

-- the name that comes next is that of an entry
abbrev pub name_found : List Entry → Option ℕ → Option (List ℕ)
name_found kept None = None
name_found kept (Some p) = Some (name_at kept p)

pub next_name : (kept : List Entry) (taken : Pages) (pages : List (List ℕ)) → IsLaidOut kept taken pages → (after : Option (List ℕ)) (n : ℕ) (next : Option ℕ)
    → n ≡ length kept → IsNextBelow kept after n next → IsNameAfter (files pages) after (name_found kept next)
next_name kept taken pages laid after n None size is = none_after kept taken pages laid after
    (subst (λ m. IsNextBelow kept after m None) (size ∙ laid.places) is)
next_name kept taken pages laid after n (Some p) size is =
    name_after kept taken pages laid after p (name_at kept p) refl (subst (λ m. IsNextBelow kept after m (Some p)) (size ∙ laid.places) is)

-- the name of an entry in use is read back
pub ident_kept : (e : Entry) → IsKeptEntry e → e.kind ≢ 0 → identifier (trimmed e.name) ≡ Some e.name
ident_kept e (inl empty) used = absurd (used empty)
ident_kept e (inr full) used = full.name

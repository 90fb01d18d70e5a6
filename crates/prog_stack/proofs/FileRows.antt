-- What the calls of the file area make of the rows of files.
use Rattle.std.proofs.Common.{◌≡◌, ℕ, zero, suc, ◌+◌, ◌-◌, ◌⊎◌, inl, inr, ℤ, pos, negsuc, Bool, true, false, ◌&&◌, ◌||◌, List, [], length, Option, Some, None, Result, Ok, Err, refl, sym, ◌∙◌, ap, subst, arith}
use Rattle.std.specs.Prelude.{nat_le, nat_lt, slice_index_or, ◌==◌, not, OnOk, IfOk, IfErr, if◌then◌else◌}
use Rattle.std.specs.Option.{option_map}
use Rattle.std.specs.FinMap as fin
use Rattle.std.proofs.lemmas.Bool.{cases_lt, lt-ltb, le-leb, le-ltb, lt-leb, eq-eqb, ne_eqb}
use Rattle.std.proofs.lemmas.Option.{slice_get-get_or, slice_get_past}
use Rattle.solo_base.specs.declared.page.Page.{Page}
use Rattle.solo_base.specs.declared.system_call.SysReply.{SysReply}
use Rattle.solo_base.specs.declared.system_call.SysReply.TheVariants as replies
use Rattle.disk_layout.specs.Files.{File, Files, files, with_page, with_page_at}
use Rattle.disk_files.specs.declared.fault.FileFault.{FileFault}
use Rattle.disk_files.specs.declared.fault.FileFault.TheVariants.{NotSolo, NoFile, Exists, Protected, CatalogFull, DiskFull, FileFull, PageRange, DiskFault, NoMemory}
use Rattle.disk_files.specs.declared.fault.FileInfo.{FileInfo}
use Rattle.disk_files.specs.Answers.{Holds, info_of, read_answer, read_answer_of, replace_answer, append_answer, pages_needed}
use Rattle.program_task.specs.Program.{Own, Shared, simply, refuses}
use Rattle.program_task.specs.OpenFiles.{page_numbered, gets_page, of_found, gets, can_grow, file_if, put_in, changes, puts, pages_free}
use Rattle.prog_stack.specs.Answers.{Hand, sharing, Answered, ComesTo, Simply, Changing, refused_by}
use Rattle.prog_stack.specs.FileCalls.{OfFile, PutsSo, PutInto, page_number}

-- ---- Refusals

-- the area failed, or the refusal is a call error
pub failed_or : (fault : FileFault) → (fault ≡ DiskFault) ⊎ (refused_by fault ≡ Ok replies.CallError)
failed_or (NotSolo page) = inr refl
failed_or NoFile = inr refl
failed_or Exists = inr refl
failed_or Protected = inr refl
failed_or CatalogFull = inr refl
failed_or DiskFull = inr refl
failed_or FileFull = inr refl
failed_or PageRange = inr refl
failed_or DiskFault = inl refl
failed_or NoMemory = inr refl

same_fault : (a b : FileFault) → ◌≡◌ {A = Result (Unit {0}) FileFault} (Err a) (Err b) → a ≡ b
same_fault a b e = cc

-- what is said of a refusal besides is left out
pub refused_so : (result : Result (Unit {0}) FileFault) (before after : Option (List (List ℕ))) (More : Type 0)
    → IfErr result (λ fault. (fault ≡ DiskFault) ⊎ ((after ≡ before) × More)) → IfErr result (λ fault. (fault ≡ DiskFault) ⊎ (after ≡ before))
refused_so (Ok done) before after More refused = tt
refused_so (Err fault) before after More (inl failed) = inl failed
refused_so (Err fault) before after More (inr (same, more)) = inr same

-- a file that was found, and what is said of it
pub found_one : (found : Option File) (info : FileInfo) → Some info ≡ option_map info_of found → (file : File) × (found ≡ Some file) × (info ≡ info_of file)
found_one None info is = absurd cc
found_one (Some file) info is = (file, refl, same_info info (info_of file) is) where
  same_info : (a b : FileInfo) → Some a ≡ Some b → a ≡ b
  same_info a b e = cc

-- ---- GET

not_zero : (m : ℕ) → (suc m == 0) ≡ false
not_zero m = ne_eqb (suc m) 0 (λ e. omega (arith, e))

not_file : (n : ℕ) → read_answer None n ≡ Ok tt → ⊥
not_file n e = cc

-- page n is there, or it isn't, as a read answers
page_there : (pages : List (List ℕ)) (n : ℕ) → ◌≡◌ {A = Result (Unit {0}) FileFault} (Ok tt) (read_answer_of (length pages) n)
    → page_numbered pages (pos n) ≡ Some (slice_index_or pages (n - 1) [])
page_there pages zero e = absurd cc
page_there pages (suc m) e = elim (cases_lt (length pages) (suc m)) [
  | inl past ↦ absurd (no_page (lt-ltb (length pages) (suc m) past) e)
  | inr within ↦ let m_is : suc m - 1 ≡ m = omega arith in
      slice_get-get_or pages m [] (omega (arith, within)) ∙ ap (λ k. Some (slice_index_or pages k [])) (sym m_is)
] where
  no_page : nat_lt (length pages) (suc m) ≡ true → ◌≡◌ {A = Result (Unit {0}) FileFault} (Ok tt) (read_answer_of (length pages) (suc m)) → ⊥
  no_page past e = absurd (ok_is_err (e ∙ ap (λ b. if b || nat_lt (length pages) (suc m) then Err PageRange else Ok tt) (not_zero m)
      ∙ ap (λ b. if false || b then Err PageRange else Ok tt) past)) where
        ok_is_err : ◌≡◌ {A = Result (Unit {0}) FileFault} (Ok tt) (Err PageRange) → ⊥
        ok_is_err e = cc

no_page_there : (pages : List (List ℕ)) (n : ℕ) (fault : FileFault)
    → ◌≡◌ {A = Result (Unit {0}) FileFault} (Err fault) (read_answer_of (length pages) n) → page_numbered pages (pos n) ≡ None
no_page_there pages zero fault e = refl
no_page_there pages (suc m) fault e = elim (cases_lt (length pages) (suc m)) [
  | inl past ↦ slice_get_past pages m (omega (arith, past))
  | inr within ↦ absurd (err_is_ok (e ∙ ap (λ b. if b || nat_lt (length pages) (suc m) then Err PageRange else Ok tt) (not_zero m)
      ∙ ap (λ b. if false || b then Err PageRange else Ok tt) (le-ltb (length pages) (suc m) within)))
] where
  err_is_ok : ◌≡◌ {A = Result (Unit {0}) FileFault} (Err fault) (Ok tt) → ⊥
  err_is_ok e = cc

got_by : (p : ℤ) (n : ℕ) (name : List ℕ) (all : Files) (page : Page) (found : Option File) → p ≡ pos n → fin.get all name ≡ found
    → ◌≡◌ {A = Result (Unit {0}) FileFault} (Ok tt) (read_answer found n) → ((file : File) → found ≡ Some file → page.0 ≡ slice_index_or file.pages (n - 1) [])
    → OfFile (gets p) name all (replies.Page page)
got_by p n name all page None is here answer read = absurd (not_file n (sym answer))
got_by p n name all page (Some file) is here answer read = λ own h.
    ap (λ o. of_found (gets p) name o own (sharing all h)) here
    ∙ ap (λ z. gets_page (page_numbered file.pages z) own (sharing all h)) is
    ∙ ap (λ o. gets_page o own (sharing all h)) (page_there file.pages n answer)
    ∙ ap (λ bytes. simply (replies.Page (record { 0 = bytes })) own (sharing all h)) (sym (read file refl))

-- a page that was read
pub got : (p : ℤ) (n : ℕ) (name : List ℕ) (all : Files) (page : Page) (result : Result (Unit {0}) FileFault) → p ≡ pos n → result ≡ Ok tt
    → (result ≡ Err DiskFault) ⊎ (result ≡ read_answer (fin.get all name) n)
    → ((file : File) → fin.get all name ≡ Some file → page.0 ≡ slice_index_or file.pages (n - 1) []) → OfFile (gets p) name all (replies.Page page)
got p n name all page result is ok (inl failed) read = absurd (ok_is_err (sym ok ∙ failed)) where
  ok_is_err : ◌≡◌ {A = Result (Unit {0}) FileFault} (Ok tt) (Err DiskFault) → ⊥
  ok_is_err e = cc
got p n name all page result is ok (inr answer) read = got_by p n name all page (fin.get all name) is refl (sym ok ∙ answer) read

not_got_by : (p : ℤ) (n : ℕ) (name : List ℕ) (all : Files) (fault : FileFault) (found : Option File) → p ≡ pos n → fin.get all name ≡ found
    → ◌≡◌ {A = Result (Unit {0}) FileFault} (Err fault) (read_answer found n) → OfFile (gets p) name all replies.CallError
not_got_by p n name all fault None is here answer = λ own h. ap (λ o. of_found (gets p) name o own (sharing all h)) here
not_got_by p n name all fault (Some file) is here answer = λ own h.
    ap (λ o. of_found (gets p) name o own (sharing all h)) here
    ∙ ap (λ z. gets_page (page_numbered file.pages z) own (sharing all h)) is
    ∙ ap (λ o. gets_page o own (sharing all h)) (no_page_there file.pages n fault answer)

-- a page that was refused
pub not_got : (p : ℤ) (n : ℕ) (name : List ℕ) (all : Files) (result : Result (Unit {0}) FileFault) (fault : FileFault) → p ≡ pos n → result ≡ Err fault
    → (result ≡ Err DiskFault) ⊎ (result ≡ read_answer (fin.get all name) n) → IfOk (refused_by fault) (λ reply. OfFile (gets p) name all reply)
not_got p n name all result fault is err answers = by_fault (failed_or fault) answers where
  Got : Result SysReply FileFault → Type 0
  Got r = IfOk r (λ reply. OfFile (gets p) name all reply)

  by_fault : (fault ≡ DiskFault) ⊎ (refused_by fault ≡ Ok replies.CallError) → (result ≡ Err DiskFault) ⊎ (result ≡ read_answer (fin.get all name) n)
      → Got (refused_by fault)
  by_fault (inl failed) answers = subst (λ f. Got (refused_by f)) (sym failed) tt
  by_fault (inr refused) (inl failed) = subst (λ f. Got (refused_by f)) (sym (same_fault fault DiskFault (sym err ∙ failed))) tt
  by_fault (inr refused) (inr answer) = subst Got (sym refused) (not_got_by p n name all fault (fin.get all name) is refl (sym err ∙ answer))

-- ---- PUT: what it makes of the file, and what the area answers

lt_is_not_le : (a b : ℕ) → nat_lt a b ≡ not (nat_le b a)
lt_is_not_le a b = elim (cases_lt a b) [
  | inl below ↦ lt-ltb a b below ∙ sym (ap not (lt-leb b a below))
  | inr past ↦ le-ltb a b past ∙ sym (ap not (le-leb b a past))
]

le_is_not_lt : (a b : ℕ) → nat_le a b ≡ not (nat_lt b a)
le_is_not_lt a b = elim (cases_lt b a) [
  | inl below ↦ lt-leb a b below ∙ sym (ap not (lt-ltb b a below))
  | inr past ↦ le-leb a b past ∙ sym (ap not (le-ltb b a past))
]

-- the file becomes this one and the area is to answer Ok; or it can't, and is to be refused
data Agrees (becomes : Option File) (file : File) (expected : Result (Unit {0}) FileFault) : Type 0 where
  Can : becomes ≡ Some file → expected ≡ Ok tt → Agrees becomes file expected
  Cannot : becomes ≡ None → (fault : FileFault) → expected ≡ Err fault → Agrees becomes file expected

two_tests : (p b : Bool) (first second : FileFault) (file : File)
    → Agrees (if p then None else file_if (not b) file) file (if p then Err first else if b then Err second else Ok tt)
two_tests true b first second file = Cannot refl first refl
two_tests false true first second file = Cannot refl second refl
two_tests false false first second file = Can refl refl

three_tests : (p b c : Bool) (first second third : FileFault) (file : File)
    → Agrees (if p then None else file_if (not b && not c) file) file (if p then Err first else if b then Err second else if c then Err third else Ok tt)
three_tests true b c first second third file = Cannot refl first refl
three_tests false true c first second third file = Cannot refl second refl
three_tests false false true first second third file = Cannot refl third refl
three_tests false false false first second third file = Can refl refl

-- behind the last page
appends_so : (unused : ℕ) (file : File) (page : List ℕ)
    → Agrees (put_in unused file (pos (length file.pages + 1)) page) (with_page file page) (append_answer (Some file) unused)
appends_so unused file page =
    let here : (length file.pages + 1 == length file.pages + 1) ≡ true = eq-eqb (length file.pages + 1) (length file.pages + 1) refl in
    let put : put_in unused file (pos (length file.pages + 1)) page
    ≡ (if file.protected then None else file_if (not (nat_le 4000 (length file.pages)) && not (nat_lt unused (pages_needed (length file.pages))))
    (with_page file page)) =
    ap (λ b. if file.protected then None else (if b then file_if (can_grow unused file) (with_page file page)
    else file_if (nat_le 1 (length file.pages + 1) && nat_le (length file.pages + 1) (length file.pages)) (with_page_at file
    (length file.pages + 1) page))) here
    ∙ ap (λ b. if file.protected then None else file_if (b && nat_le (pages_needed (length file.pages)) unused) (with_page file page)) (lt_is_not_le
    (length file.pages) 4000)
    ∙ ap (λ b. if file.protected then None else file_if (not (nat_le 4000 (length file.pages)) && b) (with_page file page)) (le_is_not_lt
    (pages_needed (length file.pages)) unused) in
    subst (λ o. Agrees o (with_page file page) (append_answer (Some file) unused)) (sym put)
    (three_tests file.protected (nat_le 4000 (length file.pages)) (nat_lt unused (pages_needed (length file.pages))) Protected FileFull DiskFull
    (with_page file page))

-- in the place of one
in_range : (n count : ℕ) → (nat_le 1 n && nat_le n count) ≡ not ((n == 0) || nat_lt count n)
in_range zero count = refl
in_range (suc n) count =
    ap (λ b. b && nat_le (suc n) count) (le-leb 1 (suc n) (omega arith)) ∙ le_is_not_lt (suc n) count
    ∙ ap (λ b. not (b || nat_lt count (suc n))) (sym (not_zero n))

replaces_so : (unused : ℕ) (file : File) (n : ℕ) (page : List ℕ) → (n == length file.pages + 1) ≡ false
    → Agrees (put_in unused file (pos n) page) (with_page_at file n page) (replace_answer (Some file) n)
replaces_so unused file n page other =
    let put : put_in unused file (pos n) page ≡ (if file.protected then None else file_if (not ((n == 0) || nat_lt (length file.pages) n))
    (with_page_at file n page)) =
    ap (λ b. if file.protected then None else (if b then file_if (can_grow unused file) (with_page file page)
    else file_if (nat_le 1 n && nat_le n (length file.pages)) (with_page_at file n page))) other
    ∙ ap (λ b. if file.protected then None else file_if b (with_page_at file n page)) (in_range n (length file.pages)) in
    subst (λ o. Agrees o (with_page_at file n page) (replace_answer (Some file) n)) (sym put)
    (two_tests file.protected ((n == 0) || nat_lt (length file.pages) n) Protected PageRange (with_page_at file n page))

-- what the area answered, and what it tells then
puts_by : (all : Files) (name : List ℕ) (becomes : Option File) (file : File) (expected : Result (Unit {0}) FileFault) (before after : Option (List
    (List ℕ))) (unused : ℕ)
    (result : Result (Unit {0}) FileFault) → Agrees becomes file expected → (result ≡ Err DiskFault) ⊎ (result ≡ expected)
    → OnOk result (Holds after (fin.insert all name file) unused) → IfErr result (λ fault. (fault ≡ DiskFault) ⊎ (after ≡ before))
    → PutInto all name becomes before result after
puts_by all name becomes file expected before after unused (Ok done) agrees (inl failed) holds refused = absurd cc
puts_by all name becomes file expected before after unused (Ok done) (Can becomes_it ok) (inr answer) holds refused =
    (file, holds.pages, becomes_it, holds.told, holds.files)
puts_by all name becomes file expected before after unused (Ok done) (Cannot not_it fault err) (inr answer) holds refused = absurd cc
puts_by all name becomes file expected before after unused (Err fault) agrees answers holds (inl failed) = inl failed
puts_by all name becomes file expected before after unused (Err fault) agrees (inl failed) holds (inr same) = inl (same_fault fault DiskFault failed)
puts_by all name becomes file expected before after unused (Err fault) (Can becomes_it ok) (inr answer) holds (inr same) = absurd cc
puts_by all name becomes file expected before after unused (Err fault) (Cannot not_it other err) (inr answer) holds (inr same) = inr (not_it, same)

pub appended : (all : Files) (name : List ℕ) (file : File) (page : List ℕ) (unused left : ℕ) (before after : Option (List (List ℕ))) (result : Result
    (Unit {0}) FileFault)
    → unused ≡ pages_free all → fin.get all name ≡ Some file → (result ≡ Err DiskFault) ⊎ (result ≡ append_answer (fin.get all name) unused)
    → OnOk result (Holds after (fin.insert all name (with_page file page)) left) → IfErr result (λ fault. (fault ≡ DiskFault) ⊎ (after ≡ before))
    → PutInto all name (put_in (pages_free all) file (pos (length file.pages + 1)) page) before result after
appended all name file page unused left before after result free here answers holds refused =
    subst (λ u. PutInto all name (put_in u file (pos (length file.pages + 1)) page) before result after) free
    (puts_by all name (put_in unused file (pos (length file.pages + 1)) page) (with_page file page) (append_answer (Some file) unused) before after left result
    (appends_so unused file page) (subst (λ o. (result ≡ Err DiskFault) ⊎ (result ≡ append_answer o unused)) here answers) holds refused)

pub replaced : (all : Files) (name : List ℕ) (file : File) (n : ℕ) (page : List ℕ) (left : ℕ) (before after : Option (List (List ℕ))) (result : Result
    (Unit {0}) FileFault)
    → (n == length file.pages + 1) ≡ false → fin.get all name ≡ Some file → (result ≡ Err DiskFault) ⊎ (result ≡ replace_answer (fin.get all name) n)
    → OnOk result (Holds after (fin.insert all name (with_page_at file n page)) left) → IfErr result (λ fault. (fault ≡ DiskFault) ⊎ (after ≡ before))
    → PutInto all name (put_in (pages_free all) file (pos n) page) before result after
replaced all name file n page left before after result other here answers holds refused =
    puts_by all name (put_in (pages_free all) file (pos n) page) (with_page_at file n page) (replace_answer (Some file) n) before after left result
    (replaces_so (pages_free all) file n page other) (subst (λ o. (result ≡ Err DiskFault) ⊎ (result ≡ replace_answer o n)) here answers) holds refused

-- ---- PUT: its reply

changes_to : (p : ℤ) (n : ℕ) (page name : List ℕ) (all : Files) (file : File) (own : Own) (w : Shared) → p ≡ pos n → fin.get all name ≡ Some file
    → of_found (puts p page) name (fin.get all name) own w ≡ changes name (put_in (pages_free w.files) file (pos n) page) own w
changes_to p n page name all file own w is here =
    ap (λ o. of_found (puts p page) name o own w) here ∙ ap (λ z. changes name (put_in (pages_free w.files) file z page) own w) is

-- a page that was put
pub put_done : (p : ℤ) (n : ℕ) (page name : List ℕ) (pages : List (List ℕ)) (file : File) (before after : Option (List (List ℕ))) (result : Result
    (Unit {0}) FileFault)
    → p ≡ pos n → fin.get (files pages) name ≡ Some file → result ≡ Ok tt
    → PutInto (files pages) name (put_in (pages_free (files pages)) file (pos n) page) before result after → PutsSo p page name pages replies.Done after
put_done p n page name pages file before after result is here ok put = λ own. by_put own (subst (λ r. PutInto (files pages) name (put_in (pages_free
    (files pages)) file (pos n) page) before r after) ok put) where
      by_put : (own : Own) → PutInto (files pages) name (put_in (pages_free (files pages)) file (pos n) page) before (Ok tt) after
          → Answered (λ h. of_found (puts p page) name (fin.get (files pages) name) own (sharing (files pages) h)) (files pages) replies.Done own after
      by_put own (new, now, becomes, told, is_now) = record {
        pages = now;
        told = told;
        comes = λ h. subst (λ all. ComesTo (of_found (puts p page) name (fin.get (files pages) name) own (sharing (files pages) h)) (files pages)
            (record { reply = replies.Done; own = own; shared = sharing all h })) (sym is_now)
            (Changing (changes_to p n page name (files pages) file own (sharing (files pages) h) is here
            ∙ ap (λ o. changes name o own (sharing (files pages) h)) becomes));
      }

refused_puts : (p : ℤ) (page name : List ℕ) (pages : List (List ℕ)) (after : Option (List (List ℕ)))
    → ((own : Own) (h : Hand) → of_found (puts p page) name (fin.get (files pages) name) own (sharing (files pages) h) ≡ refuses own (sharing (files pages) h))
    → after ≡ Some pages → PutsSo p page name pages replies.CallError after
refused_puts p page name pages after refuse told = λ own. record { pages = pages; told = told; comes = λ h. Simply (refuse own h) refl }

-- a page that was refused
pub put_refused : (p : ℤ) (n : ℕ) (page name : List ℕ) (pages : List (List ℕ)) (file : File) (before after : Option (List (List ℕ))) (result : Result
    (Unit {0}) FileFault) (fault : FileFault)
    → p ≡ pos n → fin.get (files pages) name ≡ Some file → before ≡ Some pages → result ≡ Err fault
    → PutInto (files pages) name (put_in (pages_free (files pages)) file (pos n) page) before result after
    → IfOk (refused_by fault) (λ reply. PutsSo p page name pages reply after)
put_refused p n page name pages file before after result fault is here told err put =
    by_fault (failed_or fault) (subst (λ r. PutInto (files pages) name (put_in (pages_free (files pages)) file (pos n) page) before r after) err put) where
      Put : Result SysReply FileFault → Type 0
      Put r = IfOk r (λ reply. PutsSo p page name pages reply after)

      by_fault : (fault ≡ DiskFault) ⊎ (refused_by fault ≡ Ok replies.CallError)
          → PutInto (files pages) name (put_in (pages_free (files pages)) file (pos n) page) before (Err fault) after → Put (refused_by fault)
      by_fault (inl failed) put = subst (λ f. Put (refused_by f)) (sym failed) tt
      by_fault (inr refused) (inl failed) = subst (λ f. Put (refused_by f)) (sym failed) tt
      by_fault (inr refused) (inr (none, same)) = subst Put (sym refused)
          (refused_puts p page name pages after
          (λ own h. changes_to p n page name (files pages) file own (sharing (files pages) h) is here
          ∙ ap (λ o. changes name o own (sharing (files pages) h)) none) (same ∙ told))

-- a number below 0, or a file that isn't there
pub put_nowhere : (p : ℤ) (page name : List ℕ) (pages : List (List ℕ)) (after : Option (List (List ℕ))) → fin.get (files pages) name ≡ None → after ≡ Some pages
    → PutsSo p page name pages replies.CallError after
put_nowhere p page name pages after none told = refused_puts p page name pages after (λ own h. ap (λ o. of_found (puts p page) name o own (sharing
    (files pages) h)) none) told

-- ---- Numbers below 0

pub number_is : (p : ℤ) (n : ℕ) → page_number p ≡ Some n → p ≡ pos n
number_is (pos m) n is = ap pos (same_number m n is) where
  same_number : (a b : ℕ) → Some a ≡ Some b → a ≡ b
  same_number a b e = cc
number_is (negsuc m) n is = absurd cc

below_zero : (found : Option File) (n : ℕ) (page name : List ℕ) (own : Own) (w : Shared) → of_found (puts (negsuc n) page) name found own w ≡ refuses own w
below_zero None n page name own w = refl
below_zero (Some file) n page name own w = refl

pub put_below : (p : ℤ) (page name : List ℕ) (pages : List (List ℕ)) (after : Option (List (List ℕ))) → page_number p ≡ None → after ≡ Some pages
    → PutsSo p page name pages replies.CallError after
put_below (pos n) page name pages after is told = absurd cc
put_below (negsuc n) page name pages after is told =
    refused_puts (negsuc n) page name pages after (λ own h. below_zero (fin.get (files pages) name) n page name own (sharing (files pages) h)) told

got_below : (found : Option File) (n : ℕ) (name : List ℕ) (own : Own) (w : Shared) → of_found (gets (negsuc n)) name found own w ≡ refuses own w
got_below None n name own w = refl
got_below (Some file) n name own w = refl

pub get_below : (p : ℤ) (name : List ℕ) (all : Files) → page_number p ≡ None → OfFile (gets p) name all replies.CallError
get_below (pos n) name all is = absurd cc
get_below (negsuc n) name all is = λ own h. got_below (fin.get all name) n name own (sharing all h)

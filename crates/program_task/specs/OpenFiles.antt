-- The calls of files: a program has at most two open, as 1 and as 2.
use Rattle.std.specs.Prelude.{ℕ, zero, suc, ◌+◌, ◌-◌, ◌==◌, Bool, true, false, if◌then◌else◌, ◌&&◌, nat_le, nat_lt, List, length, slice_get, Option, Some, None, ℤ, pos}
use Rattle.std.specs.FinMap as fin
use Rattle.solo_base.specs.declared.system_call.SysReply.{SysReply}
use Rattle.solo_base.specs.declared.system_call.SysReply.TheVariants as replies
use Rattle.disk_layout.specs.declared.kind.FileKind.{FileKind}
use Rattle.disk_layout.specs.declared.kind.FileKind.TheVariants.{Scratch, Ascii, SeqCode, ConCode}
use Rattle.disk_layout.specs.Files.{File, Files, with_page, with_page_at}
use Rattle.disk_layout.specs.Held.{held_by_all, pages_of_files}
use Rattle.disk_files.specs.Answers.{pages_needed}
use Rattle.program_task.specs.Task.{Task, Changes}
use Rattle.program_task.specs.Program.{Own, Shared, Answer, simply, refuses}

-- the file of a name, if it is the name of one
abbrev pub found_file : Files → Option (List ℕ) → Option File
found_file all None = None
found_file all (Some name) = fin.get all name

-- ---- Numbers of open files

-- what is open as this number: nothing or the file of a name; none where it is no number of an open file
abbrev pub open_as : Own → ℤ → Option (Option (List ℕ))
open_as own (pos (suc zero)) = Some own.first
open_as own (pos (suc (suc zero))) = Some own.second
open_as own other = None

abbrev pub with_open : Own → ℤ → Option (List ℕ) → Own
with_open own (pos (suc zero)) name = record own { first = name }
with_open own (pos (suc (suc zero))) name = record own { second = name }
with_open own other name = own

-- ---- OPEN and CLOSE

-- a file is opened where its name has one
abbrev pub opens_found : ℤ → Option (List ℕ) → Option File → Own → Shared → Task Answer
opens_found f (Some name) (Some file) own w = simply (replies.Opened true) (with_open own f (Some name)) w
opens_found f name found own w = simply (replies.Opened false) own w

-- as a number that is free
abbrev pub opens : ℤ → Option (List ℕ) → Option (Option (List ℕ)) → Own → Shared → Task Answer
opens f name (Some None) own w = opens_found f name (found_file w.files name) own w
opens f name other own w = refuses own w

abbrev pub closes : ℤ → Option (Option (List ℕ)) → Own → Shared → Task Answer
closes f (Some (Some name)) own w = simply replies.Done (with_open own f None) w
closes f other own w = refuses own w

-- ---- GET, PUT and LENGTH of a file that is open

-- what a call does with the file that is open, by its name and itself; without one it is refused
abbrev pub of_found : (List ℕ → File → Own → Shared → Task Answer) → List ℕ → Option File → Own → Shared
    → Task Answer
of_found use_file name None own w = refuses own w
of_found use_file name (Some file) own w = use_file name file own w

abbrev pub of_open : (List ℕ → File → Own → Shared → Task Answer) → Option (Option (List ℕ)) → Own → Shared
    → Task Answer
of_open use_file (Some (Some name)) own w = of_found use_file name (fin.get w.files name) own w
of_open use_file other own w = refuses own w

-- page p of a file, from 1
abbrev pub page_numbered : List (List ℕ) → ℤ → Option (List ℕ)
page_numbered pages (pos (suc p)) = slice_get pages p
page_numbered pages other = None

abbrev pub gets_page : Option (List ℕ) → Own → Shared → Task Answer
gets_page None own w = refuses own w
gets_page (Some bytes) own w = simply (replies.Page (record { 0 = bytes })) own w

abbrev pub gets : ℤ → List ℕ → File → Own → Shared → Task Answer
gets p name file own w = gets_page (page_numbered file.pages p) own w

-- how many pages of the area the files leave free
abbrev pub pages_free : Files → ℕ
pages_free all = pages_of_files - held_by_all all

-- a file can get one page more where it has fewer than 4,000, and as many are free as that takes
abbrev pub can_grow : ℕ → File → Bool
can_grow unused file = nat_lt (length file.pages) 4000 && nat_le (pages_needed (length file.pages)) unused

abbrev pub file_if : Bool → File → Option File
file_if true file = Some file
file_if false file = None

-- the file whose page p, from 1, is this one: one of its pages, or the next behind them; else none
abbrev pub with_page_put : ℕ → File → ℕ → List ℕ → Option File
with_page_put unused file p page =
    if p == length file.pages + 1 then file_if (can_grow unused file) (with_page file page)
    else file_if (nat_le 1 p && nat_le p (length file.pages)) (with_page_at file p page)

-- and the file isn't protected
abbrev pub put_in : ℕ → File → ℤ → List ℕ → Option File
put_in unused file (pos p) page = if file.protected then None else with_page_put unused file p page
put_in unused file other page = None

abbrev pub changes : List ℕ → Option File → Own → Shared → Task Answer
changes name None own w = refuses own w
changes name (Some file) own w =
    let files = fin.insert w.files name file in
    Changes files (simply replies.Done own (record w { files = files }))

abbrev pub puts : ℤ → List ℕ → List ℕ → File → Own → Shared → Task Answer
puts p page name file own w = changes name (put_in (pages_free w.files) file p page) own w

abbrev pub measures : List ℕ → File → Own → Shared → Task Answer
measures name file own w = simply (replies.Length (pos (length file.pages))) own w

-- ---- LOOKUP

abbrev pub kind_number : FileKind → ℕ
kind_number Scratch = 1
kind_number Ascii = 2
kind_number SeqCode = 3
kind_number ConCode = 4

abbrev pub looks_up : Option File → Own → Shared → Task Answer
looks_up None own w = simply (replies.Found (pos 0) false) own w
looks_up (Some file) own w = simply (replies.Found (pos (kind_number file.kind)) true) own w

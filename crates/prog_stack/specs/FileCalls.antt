-- What the calls of a file come to, by the file of its name.
use Rattle.std.specs.Prelude.{◌≡◌, ◌⊎◌, ℕ, ◌≤◌, List, Option, Some, None, Result, Ok, Err, ℤ, pos}
use Rattle.std.specs.FinMap as fin
use Rattle.solo_base.specs.declared.system_call.SysReply.{SysReply}
use Rattle.disk_layout.specs.Files.{File, Files, files}
use Rattle.disk_files.specs.declared.fault.FileFault.{FileFault}
use Rattle.disk_files.specs.declared.fault.FileFault.TheVariants.{DiskFault}
use Rattle.disk_files.specs.declared.fault.FileInfo.{FileInfo}
use Rattle.program_task.specs.Task.{Task}
use Rattle.program_task.specs.Program.{Own, Shared, Answer, simply}
use Rattle.program_task.specs.OpenFiles.{of_found, puts}
use Rattle.prog_stack.specs.Answers.{Hand, sharing, Answered}

-- a call of the file of this name is answered so, by these files
abbrev pub OfFile : (List ℕ → File → Own → Shared → Task Answer) → List ℕ → Files → SysReply → Type 0
OfFile use_file name all reply =
    (own : Own) (h : Hand)
    → of_found use_file name (fin.get all name) own (sharing all h) ≡ simply reply own (sharing all h)

-- a PUT is answered so, by what the area told and what it tells then
abbrev pub PutsSo : ℤ → List ℕ → List ℕ → List (List ℕ) → SysReply → Option (List (List ℕ)) → Type 0
PutsSo p page name pages reply after =
    (own : Own)
    → Answered (λ h. of_found (puts p page) name (fin.get (files pages) name) own (sharing (files pages) h))
    (files pages) reply own after

-- a file has at most 4,000 pages
abbrev pub IsShort : Option FileInfo → Type 0
IsShort None = Unit {0}
IsShort (Some info) = info.pages ≤ 4000

-- a page was put: the file of this name became another, or it can't, and nothing changed, or the area failed
abbrev pub PutInto : Files → List ℕ → Option File → Option (List (List ℕ)) → Result (Unit {0}) FileFault
    → Option (List (List ℕ)) → Type 0
PutInto all name becomes before (Ok done) after =
    (file : File) × (now : List (List ℕ)) × (becomes ≡ Some file) × (after ≡ Some now)
    × (files now ≡ fin.insert all name file)
PutInto all name becomes before (Err fault) after =
    (fault ≡ DiskFault) ⊎ ((becomes ≡ None) × (after ≡ before))

-- a number that isn't below 0
abbrev pub page_number : ℤ → Option ℕ
page_number (pos p) = Some p
page_number other = None

-- The lines that answer a command, and what it makes of the files.
use Rattle.std.specs.Prelude.{ℕ, ◌++◌, List, [], ◌∷◌, length, codes, Result, Ok, Err}
use Rattle.std.specs.FinMap as fin
use Rattle.disk_layout.specs.Files.{File, Files}
use Rattle.disk_files.specs.declared.fault.FileFault.{FileFault}
use Rattle.disk_files.specs.declared.fault.FileFault.TheVariants as fault
use Rattle.disk_system.specs.Calls.{room_answer}
use Rattle.program_task.specs.OpenFiles.{pages_free}
use Rattle.program_task.specs.Task.{Task, Gives, Changes}

-- what a command does, up to the lines that answer it
abbrev pub Doing : Type 0
Doing = Task (List (List ℕ))

-- `COPY: OK`
abbrev pub answer_line : List ℕ → List ℕ → List ℕ
answer_line word how = word ++ codes ": " ++ how

abbrev pub answers : List ℕ → List ℕ → Doing
answers word how = Gives (answer_line word how ∷ [])

-- why the files refuse; no command is refused for another reason of theirs
abbrev pub fault_text : FileFault → List ℕ
fault_text fault.NoFile = codes "NO FILE"
fault_text fault.Exists = codes "FILE EXISTS"
fault_text fault.Protected = codes "PROTECTED"
fault_text fault.CatalogFull = codes "CATALOG FULL"
fault_text fault.FileFull = codes "FILE FULL"
fault_text fault.DiskFull = codes "DISK FULL"
fault_text other = []

abbrev pub no_file : List ℕ → Doing
no_file word = answers word (codes "NO FILE")

abbrev pub file_exists : List ℕ → Doing
file_exists word = answers word (codes "FILE EXISTS")

abbrev pub not_text : List ℕ → Doing
not_text word = answers word (codes "NOT TEXT")

-- the files are these from now on, unless that is refused
abbrev pub becomes : List ℕ → Result (Unit {0}) FileFault → Files → Doing
becomes word (Ok done) now = Changes now (answers word (codes "OK"))
becomes word (Err why) now = answers word (fault_text why)

-- A new file, where there is room: for its name in the catalogue, for its pages in a file, and on the disk
-- for what it will hold.
abbrev pub stores : List ℕ → Files → List ℕ → File → Doing
stores word all name file =
    becomes word (room_answer (fin.len all) (pages_free all) (length file.pages)) (fin.insert all name file)

-- What a command came to: its task, by the files before it and behind it.
use Rattle.std.specs.Prelude.{◌≡◌, ◌⊎◌, ℕ, List, [], ◌∷◌, codes, Option, Some, None, Result, Ok, Err}
use Rattle.disk_layout.specs.Files.{Files, files}
use Rattle.disk_files.specs.declared.fault.FileFault.{FileFault}
use Rattle.disk_files.specs.declared.fault.FileFault.TheVariants.{DiskFault as AreaFails, NoMemory as LacksMemory}
use Rattle.program_task.specs.Task.{Gives, Changes}
use Rattle.solo_task.specs.Answers.{Doing, answer_line, fault_text}
use Rattle.file_commands.specs.declared.fault.CommandFault.{CommandFault}
use Rattle.file_commands.specs.declared.fault.CommandFault.TheVariants.{DiskFault, NoMemory}

-- the line that answers a change of the files that came to this
abbrev pub change_line : List ℕ → Result (Unit {0}) FileFault → Result (List ℕ) CommandFault
change_line word (Ok done) = Ok (answer_line word (codes "OK"))
change_line word (Err AreaFails) = Err DiskFault
change_line word (Err LacksMemory) = Err NoMemory
change_line word (Err why) = Ok (answer_line word (fault_text why))

-- it gives these lines; the files stay, or become these first
abbrev pub Settles : Doing → Files → List (List ℕ) → Files → Type 0
Settles doing before lines now =
    ((doing ≡ Gives lines) × (before ≡ now)) ⊎ (doing ≡ Changes now (Gives lines))

-- over an area that told these pages, and tells its pages then
pub record SettledIn (doing : Doing) (before : List (List ℕ)) (lines : List (List ℕ))
    (after : Option (List (List ℕ))) : Type 0 where
  pub pages : List (List ℕ)
  pub told : after ≡ Some pages
  pub settles : Settles doing (files before) lines (files pages)

-- The command came to lines that answer it. Where memory was refused no file is changed yet; where the area
-- failed, nothing is said.
abbrev pub IsSettledSo : Doing → List (List ℕ) → Result (List (List ℕ)) CommandFault → Option (List (List ℕ))
    → Type 0
IsSettledSo doing before (Ok lines) after = SettledIn doing before lines after
IsSettledSo doing before (Err NoMemory) after = after ≡ Some before
IsSettledSo doing before (Err DiskFault) after = Unit {0}

-- it came to one line
abbrev pub one_line : Result (List ℕ) CommandFault → Result (List (List ℕ)) CommandFault
one_line (Ok line) = Ok (line ∷ [])
one_line (Err fault) = Err fault

abbrev pub IsAnsweredSo : Doing → List (List ℕ) → Result (List ℕ) CommandFault
    → Option (List (List ℕ)) → Type 0
IsAnsweredSo doing before result after = IsSettledSo doing before (one_line result) after

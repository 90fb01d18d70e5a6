-- How many files there are, behind their lines.
use Rattle.std.specs.Prelude.{◌≡◌, ℕ, List, [], ◌∷◌, ◌++◌, length, codes, Result, Ok, Err}
use Rattle.std.specs.Fmt.{decimal}
use Rattle.file_commands.specs.declared.fault.CommandFault.{CommandFault}
use Rattle.file_commands.specs.declared.fault.CommandFault.TheVariants.{NoMemory}

abbrev pub count_line : ℕ → List ℕ
count_line count = codes "LIST: " ++ decimal count ++ codes " FILES"

abbrev pub CountBehind : List (List ℕ) → Result (List (List ℕ)) CommandFault → Type 0
CountBehind lines (Ok all) = all ≡ lines ++ count_line (length lines) ∷ []
CountBehind lines (Err fault) = fault ≡ NoMemory

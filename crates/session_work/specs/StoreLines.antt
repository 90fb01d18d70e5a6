-- What a store of code answers.
use Rattle.std.specs.Prelude.{ℕ, List, Result, Ok, Err}
use Rattle.disk_system.specs.declared.fault.SystemFault.{SystemFault}
use Rattle.disk_system.specs.declared.fault.SystemFault.TheVariants as system
use Rattle.file_commands.specs.declared.fault.CommandFault.{CommandFault}
use Rattle.file_commands.specs.declared.fault.CommandFault.TheVariants.{NoMemory}
use Rattle.file_commands.specs.Settling.{change_line}

-- the line that answers a store that came to this
abbrev pub store_line : List ℕ → Result (Unit {0}) SystemFault → Result (List ℕ) CommandFault
store_line word (Ok done) = change_line word (Ok tt)
store_line word (Err (system.File fault)) = change_line word (Err fault)
store_line word (Err other) = Err NoMemory

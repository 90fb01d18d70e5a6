-- Why a command wasn't done, by what the file area answered.
use Rattle.std.specs.Prelude.{Result, Ok, Err}
use Rattle.disk_files.specs.declared.fault.FileFault.{FileFault}
use Rattle.disk_files.specs.declared.fault.FileFault.TheVariants as file
use Rattle.disk_system.specs.declared.fault.SystemFault.{SystemFault}
use Rattle.disk_system.specs.declared.fault.SystemFault.TheVariants as system
use Rattle.file_commands.specs.declared.fault.CommandFault.{CommandFault}
use Rattle.file_commands.specs.declared.fault.CommandFault.TheVariants.{DiskFault, NoMemory}

abbrev pub as_command : FileFault → CommandFault
as_command file.DiskFault = DiskFault
as_command other = NoMemory

abbrev pub as_system_command : SystemFault → CommandFault
as_system_command (system.File fault) = as_command fault
as_system_command other = NoMemory

-- the answer as far as the file area gave it
abbrev pub of_command : {T : Type 0} → Result T CommandFault → Result (Unit {0}) FileFault
of_command (Ok x) = Ok tt
of_command (Err DiskFault) = Err file.DiskFault
of_command (Err NoMemory) = Err file.NoMemory

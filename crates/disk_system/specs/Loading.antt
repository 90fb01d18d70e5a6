-- What the calls answer that load the code of a file.
use Rattle.std.specs.Prelude.{◌≡◌, ◌⊎◌, Result, Ok, Err}
use Rattle.disk_files.specs.declared.fault.FileFault.{FileFault}
use Rattle.disk_files.specs.declared.fault.FileFault.TheVariants.{NoFile as OfNoFile, DiskFault as AreaFails, NoMemory as OfNoMemory}
use Rattle.stack_code.specs.CodeLists.{CodeLists}
use Rattle.disk_system.specs.declared.fault.SystemFault.{SystemFault}
use Rattle.disk_system.specs.declared.fault.SystemFault.TheVariants.{File as OfFiles}
use Rattle.disk_system.specs.declared.fault.SystemFault.TheVariants.{NotCode as OfNotCode, BadCode as OfBadCode}
use Rattle.disk_contents.specs.declared.loading.Loaded.{Loaded}
use Rattle.disk_contents.specs.declared.loading.Loaded.TheVariants.{Code, NoFile, NotCode, BadCode}
use Rattle.disk_system.specs.declared.loading.LoadFault.{LoadFault}
use Rattle.disk_system.specs.declared.loading.LoadFault.TheVariants.{DiskFault, NoMemory}

-- what a load of code answers, by what is found
abbrev pub as_code : Loaded → Result CodeLists SystemFault
as_code (Code code) = Ok code
as_code NoFile = Err (OfFiles OfNoFile)
as_code NotCode = Err OfNotCode
as_code (BadCode at) = Err (OfBadCode at)

-- a load of code answers so, unless the area failed or memory was refused
abbrev pub LoadsSo : Result CodeLists SystemFault → Loaded → Type 0
LoadsSo result found =
    (result ≡ Err (OfFiles AreaFails)) ⊎ (result ≡ Err (OfFiles OfNoMemory)) ⊎ (result ≡ as_code found)

-- a load for a job finds this, unless the area failed or memory was refused
abbrev pub FindsSo : Result Loaded LoadFault → Loaded → Type 0
FindsSo result found = (result ≡ Err DiskFault) ⊎ (result ≡ Err NoMemory) ⊎ (result ≡ Ok found)

-- the answer as far as the area gave it
abbrev pub load_failed : Result Loaded LoadFault → Result (Unit {0}) FileFault
load_failed (Ok found) = Ok tt
load_failed (Err DiskFault) = Err AreaFails
load_failed (Err NoMemory) = Err OfNoMemory

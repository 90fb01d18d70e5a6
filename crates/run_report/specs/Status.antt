-- The numbers of causes.
use Rattle.std.specs.Prelude.{ℕ, Option, Some, None}
use Rattle.solo_base.specs.declared.outcome.Cause.{Cause}
use Rattle.solo_base.specs.declared.outcome.Cause.TheVariants.{Usage, ReadFault, DiskFault, PrintFault, ConsoleFault, DeckLimit, NotSolo, Damaged, NoMemory}

-- the number of a cause; where several arose the lowest decides
abbrev pub number_of : Cause → ℕ
number_of Usage = 1
number_of ReadFault = 2
number_of DiskFault = 3
number_of PrintFault = 4
number_of ConsoleFault = 5
number_of DeckLimit = 6
number_of (NotSolo page) = 7
number_of (Damaged expected found at) = 8
number_of NoMemory = 9

-- 0 where the whole work was done
abbrev pub status_of : Option Cause → ℕ
status_of None = 0
status_of (Some cause) = number_of cause

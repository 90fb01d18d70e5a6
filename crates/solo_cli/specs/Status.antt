-- The status of a command, and its cause.
use Rattle.std.specs.Prelude.{ℕ, Option, Some, None}
use Rattle.run_report.specs.Status.{number_of}
use Rattle.solo_cli.specs.declared.refusal.Refusal.{Refusal}
use Rattle.solo_cli.specs.declared.refusal.Refusal.TheVariants.{Fault, NoRoom}

-- 0 where the whole work was done, else the number of the cause
abbrev pub status_of : Option Refusal → ℕ
status_of None = 0
status_of (Some (Fault cause)) = number_of cause
status_of (Some (NoRoom needed free)) = 10

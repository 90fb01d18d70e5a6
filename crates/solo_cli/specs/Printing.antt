-- What is printed by a command itself.
use Rattle.std.specs.Prelude.{◌≡◌, ◌≤◌, ℕ, List, Option, Some, None, IfSome}
use Rattle.solo_base.specs.declared.outcome.Cause.TheVariants as cause
use Rattle.solo_devices.specs.Count.{Rose}
use Rattle.solo_devices.specs.PrinterUnit.{Gains}
use Rattle.run_report.specs.Told.{SinkTold}
use Rattle.solo_cli.specs.declared.refusal.Refusal.{Refusal}
use Rattle.solo_cli.specs.declared.refusal.Refusal.TheVariants.{Fault}
use Rattle.solo_cli.specs.Causes.{EndsBy, print_statuses}

-- It gains these bytes or a prefix of them, and all of them where there is no cause.
pub record PrintsBytes {K : Type 0} (before after : SinkTold K) (bytes : List ℕ)
    (answer : Option Refusal) : Type 0 where
  pub gains : Gains before.given after.given bytes (answer ≡ None)
  pub known : IfSome answer (EndsBy print_statuses)
  pub failed : answer ≡ Some (Fault cause.PrintFault) → Rose before.faults after.faults
  pub counts : before.faults ≤ after.faults

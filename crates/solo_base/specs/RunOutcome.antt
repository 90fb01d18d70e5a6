-- What comes of a program's run, by its code as by its source.
use Rattle.std.specs.Prelude.{ℕ, List}
use Rattle.solo_base.specs.declared.outcome.ProgResult.{ProgResult}
use Rattle.solo_base.specs.declared.system_call.SysCall.{SysCall}

-- A run ends with a result in a line after so many ticks, or it makes one call more than there are
-- replies. The calls are all that were made, in order.
pub data RunOutcome : Type 0 where
  Ends : ProgResult → ℕ → ℕ → List SysCall → RunOutcome
  Waits : List SysCall → RunOutcome

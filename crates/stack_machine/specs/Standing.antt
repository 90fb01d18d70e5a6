-- Where a machine stands.
use Rattle.std.specs.Prelude.{◌≡◌, ℕ}
use Rattle.solo_base.specs.declared.system_call.SysCall.{SysCall}
use Rattle.solo_base.specs.declared.system_call.SysReply.{SysReply}
use Rattle.stack_code.specs.CodeLists.{CodeLists}
use Rattle.stack_machine.specs.States.{State}
use Rattle.stack_machine.specs.State.{Asks}
use Rattle.stack_machine.specs.Machine.{next}
use Rattle.stack_machine.specs.Safe.{IsSound}
use Rattle.solo_base.specs.Fits.{Fits}

-- the code that the machine runs, the ticks that it may take, and the state of the program
pub record Standing : Type 0 where
  pub code : CodeLists
  pub limit : ℕ
  pub state : State

-- nothing is lacking to the program
abbrev pub StandsWell : Standing → Type 0
StandsWell m = IsSound m.code m.limit m.state

-- the program asks for a call that this reply fits
abbrev pub Awaits : Standing → SysReply → Type 0
Awaits m reply = (call : SysCall) × (next m.code m.limit m.state ≡ Asks call m.state) × Fits call reply

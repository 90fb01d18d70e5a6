-- What a machine was given and what it gave: the replies and the calls that it stands for.
use Rattle.std.specs.Prelude.{◌≡◌, ℕ, List, [], ◌∷◌, ◌++◌, Some}
use Rattle.solo_base.specs.declared.system_call.SysCall.{SysCall}
use Rattle.solo_base.specs.declared.system_call.SysReply.{SysReply}
use Rattle.stack_code.specs.CodeLists.{CodeLists}
use Rattle.stack_machine.specs.declared.running.Pause.{Pause}
use Rattle.stack_machine.specs.declared.running.Pause.TheVariants as pause
use Rattle.stack_machine.specs.declared.state.Finish.{Finish}
use Rattle.stack_machine.specs.States.{State}
use Rattle.stack_machine.specs.Machine.{start_state}
use Rattle.solo_base.specs.RunOutcome.{RunOutcome, Ends, Waits}
use Rattle.stack_machine.specs.Run.{Moves, LeadsToEnd, Replied}
use Rattle.stack_machine.specs.Standing.{Standing}

-- the program went on by itself from one state to another, and may have come to its end
pub data WentOn (c : CodeLists) (limit : ℕ) (s t : State) : Type 0 where
  RunsOn : (steps : ℕ) → Moves c limit steps s t → WentOn c limit s t
  HasEnded : (finish : Finish) → t.ended ≡ Some finish
      → LeadsToEnd c limit s finish.result finish.line finish.ticks → WentOn c limit s t

-- The machine was given these replies to these calls since it was made, and stands behind the last of them.
pub record StandsFor (m : Standing) (replies : List SysReply) (calls : List SysCall) : Type 0 where
  pub begun : State
  pub replied : Replied m.code m.limit (start_state m.code) replies calls begun
  pub went_on : WentOn m.code m.limit begun m.state

-- the outcome that a pause is, behind these calls
abbrev pub outcome_at : Pause → List SysCall → RunOutcome
outcome_at (pause.Call call) calls = Waits (calls ++ call ∷ [])
outcome_at (pause.Finished finish) calls = Ends finish.result finish.line finish.ticks calls

-- With these replies to its calls the program came from one state to another.
pub record CameTo (c : CodeLists) (limit : ℕ) (s : State) (replies : List SysReply) (calls : List SysCall)
    (t : State) : Type 0 where
  pub begun : State
  pub replied : Replied c limit s replies calls begun
  pub went_on : WentOn c limit begun t

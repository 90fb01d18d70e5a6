-- A program in a world that answers its calls.
use Rattle.std.specs.Prelude.{◌≡◌, ℕ, ◌≤◌, List, [], ◌∷◌, ◌++◌, Result, Ok, Err, Some}
use Rattle.solo_base.specs.declared.system_call.SysCall.{SysCall}
use Rattle.solo_base.specs.declared.system_call.SysReply.{SysReply}
use Rattle.stack_code.specs.CodeLists.{CodeLists}
use Rattle.stack_machine.specs.declared.state.Finish.{Finish}
use Rattle.stack_machine.specs.States.{State}
use Rattle.stack_machine.specs.State.{Asks}
use Rattle.stack_machine.specs.Machine.{next}
use Rattle.solo_base.specs.Fits.{Fits}
use Rattle.solo_base.specs.RunOutcome.{Ends, Waits}
use Rattle.stack_machine.specs.Run.{RunsFrom}
use Rattle.stack_machine.specs.History.{CameTo}

-- a world that was asked these calls, in order, gave these replies, each of which fits its call
abbrev pub Gave : {W F : Type 0} → (W → SysCall → Result SysReply F → W → Type 0) → W → List SysCall
    → List SysReply → W → Type 0
Gave answers w [] [] now = w ≡ now
Gave answers w (call ∷ calls) (reply ∷ replies) now =
    (then_is : _) × answers w call (Ok reply) then_is × Fits call reply
    × Gave answers then_is calls replies now
Gave answers w [] (reply ∷ replies) now = ⊥
Gave answers w (call ∷ calls) [] now = ⊥

-- the program ran to its end, with the replies that the world gave to its calls
pub record RanToEnd {W F : Type 0} (answers : W → SysCall → Result SysReply F → W → Type 0) (c : CodeLists)
    (limit : ℕ) (s : State) (w : W) (finish : Finish) (t : State) (now : W) : Type 0 where
  pub calls : List SysCall
  pub replies : List SysReply
  pub gave : Gave answers w calls replies now
  pub came : CameTo c limit s replies calls t
  pub runs : RunsFrom c limit s replies (Ends finish.result finish.line finish.ticks calls)
  pub ended : t.ended ≡ Some finish
  pub ticks : finish.ticks ≤ limit

-- the world gave replies up to a call that it couldn't answer, and the program still asks for that one
pub record BrokeOff {W F : Type 0} (answers : W → SysCall → Result SysReply F → W → Type 0) (c : CodeLists)
    (limit : ℕ) (s : State) (w : W) (fault : F) (t : State) (now : W) : Type 0 where
  pub calls : List SysCall
  pub replies : List SysReply
  pub call : SysCall
  pub before : W
  pub gave : Gave answers w calls replies before
  pub fails : answers before call (Err fault) now
  pub came : CameTo c limit s replies calls t
  pub runs : RunsFrom c limit s replies (Waits (calls ++ call ∷ []))
  pub asks : next c limit t ≡ Asks call t

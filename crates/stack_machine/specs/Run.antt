-- A whole run: the calls that a program makes, and how it ends.
use Rattle.std.specs.Prelude.{◌≡◌, ℕ, zero, suc, List, [], ◌∷◌, ◌++◌, Some}
use Rattle.solo_base.specs.declared.outcome.ProgResult.{ProgResult}
use Rattle.solo_base.specs.declared.system_call.SysCall.{SysCall}
use Rattle.solo_base.specs.declared.system_call.SysReply.{SysReply}
use Rattle.stack_code.specs.CodeLists.{CodeLists}
use Rattle.stack_machine.specs.States.{State}
use Rattle.stack_machine.specs.declared.running.Pause.{Pause}
use Rattle.stack_machine.specs.declared.running.Pause.TheVariants as pause
use Rattle.stack_machine.specs.State.{Goes, Asks, Stops}
use Rattle.stack_machine.specs.Machine.{next, start_state, answered}
use Rattle.solo_base.specs.RunOutcome.{RunOutcome, Ends, Waits}
use Rattle.solo_base.specs.Fits.{Fits}

-- so many instructions lead from one state to another, with no call between them
abbrev pub Moves : CodeLists → ℕ → ℕ → State → State → Type 0
Moves c limit zero s t = s ≡ t
Moves c limit (suc n) s t = (mid : State) × (next c limit s ≡ Goes mid) × Moves c limit n mid t

-- the program goes on by itself until it asks for this call, in this state
pub record LeadsToCall (c : CodeLists) (limit : ℕ) (s : State) (call : SysCall) (t : State) : Type 0 where
  pub steps : ℕ
  pub moves : Moves c limit steps s t
  pub asks : next c limit t ≡ Asks call t

-- the program goes on by itself until it ends
pub record LeadsToEnd (c : CodeLists) (limit : ℕ) (s : State) (result : ProgResult)
    (line ticks : ℕ) : Type 0 where
  pub last : State
  pub steps : ℕ
  pub moves : Moves c limit steps s last
  pub stops : next c limit last ≡ Stops result line ticks

-- the program goes on by itself until it pauses, at a call or at its end
abbrev pub Pauses : CodeLists → ℕ → State → Pause → State → Type 0
Pauses c limit s (pause.Call call) t = LeadsToCall c limit s call t
Pauses c limit s (pause.Finished finish) t =
    LeadsToEnd c limit s finish.result finish.line finish.ticks × (t.ended ≡ Some finish)

-- these replies were given to these calls, from one state to another
abbrev pub Replied : CodeLists → ℕ → State → List SysReply → List SysCall → State → Type 0
Replied c limit s [] [] t = s ≡ t
Replied c limit s (reply ∷ replies) (call ∷ calls) t =
    (asked : State) × LeadsToCall c limit s call asked
    × Replied c limit (answered c asked reply) replies calls t
Replied c limit s [] (call ∷ calls) t = ⊥
Replied c limit s (reply ∷ replies) [] t = ⊥

-- The run from a state under a limit of ticks with these replies: it ends, having been given the replies to
-- the calls that it made; or it was given all of them and asks once more.
abbrev pub RunsFrom : CodeLists → ℕ → State → List SysReply → RunOutcome → Type 0
RunsFrom c limit s replies (Ends result line ticks calls) =
    (used unused : List SysReply) × (t : State) × (replies ≡ used ++ unused)
    × Replied c limit s used calls t × LeadsToEnd c limit t result line ticks
RunsFrom c limit s replies (Waits calls) =
    (before : List SysCall) × (last : SysCall) × (t asked : State) × (calls ≡ before ++ last ∷ [])
    × Replied c limit s replies before t × LeadsToCall c limit t last asked

-- the run of a code
abbrev pub Runs : CodeLists → ℕ → List SysReply → RunOutcome → Type 0
Runs c limit replies outcome = RunsFrom c limit (start_state c) replies outcome

-- each of these replies fits the call to which it is given
abbrev pub AreFitting : CodeLists → ℕ → State → List SysReply → Type 0
AreFitting c limit s [] = Unit {0}
AreFitting c limit s (reply ∷ replies) =
    (call : SysCall) (t : State) → LeadsToCall c limit s call t
    → Fits call reply × AreFitting c limit (answered c t reply) replies

-- What comes of a code in a world that answers its calls, instruction by instruction.
use Rattle.std.specs.Prelude.{◌≡◌, ℕ, zero, suc, ◌+◌, List, [], ◌∷◌, ◌++◌, Option, None, Some}
use Rattle.solo_base.specs.declared.system_call.SysCall.{SysCall}
use Rattle.solo_base.specs.declared.system_call.SysReply.{SysReply}
use Rattle.solo_base.specs.RunOutcome.{RunOutcome, Ends, Waits}
use Rattle.solo_base.specs.Fits.{Fits}
use Rattle.stack_code.specs.CodeLists.{CodeLists, IsCode}
use Rattle.stack_code.specs.Rules.{IsGood}
use Rattle.stack_machine.specs.States.{State}
use Rattle.stack_machine.specs.State.{Next, Goes, Asks, Stops, Lacks}
use Rattle.stack_machine.specs.Machine.{next, start_state, answered}
use Rattle.stack_machine.specs.Run.{Runs}
use Rattle.stack_machine.specs.Left.{left_until_end}

-- what a world replies to a call, and what it is then; or it has no reply yet
abbrev pub Answering : Type 0 → Type 0
Answering W = W → SysCall → Option (SysReply × W)

-- what comes of a run, and what the world is then
pub record InWorld (W : Type 0) : Type 0 where
  pub outcome : RunOutcome
  pub world : W

-- what comes of the rest of a run: of a state, the world and the calls made so far
abbrev pub RestIn : Type 0 → Type 0
RestIn W = State → W → List SysCall → InWorld W

abbrev pub in_world : {W : Type 0} → RunOutcome → W → InWorld W
in_world outcome w = record { outcome = outcome; world = w }

-- a call gets its reply, or waits for one
abbrev pub reply_in : {W : Type 0} → CodeLists → State → SysCall → W → List SysCall → Option (SysReply × W)
    → RestIn W → InWorld W
reply_in c asked call w made None rest = in_world (Waits (made ++ call ∷ [])) w
reply_in c asked call w made (Some (reply, after)) rest =
    rest (answered c asked reply) after (made ++ call ∷ [])

-- one instruction, and the rest; good code never lacks anything
abbrev pub step_in : {W : Type 0} → Answering W → CodeLists → W → List SysCall → Next → RestIn W → InWorld W
step_in answers c w made (Goes t) rest = rest t w made
step_in answers c w made (Asks call asked) rest = reply_in c asked call w made (answers w call) rest
step_in answers c w made (Stops result line ticks) rest = in_world (Ends result line ticks made) w
step_in answers c w made Lacks rest = in_world (Waits made) w

-- at most so many instructions
abbrev pub run_in_for : {W : Type 0} → ℕ → Answering W → CodeLists → ℕ → RestIn W
run_in_for zero answers c limit s w made = in_world (Waits made) w
run_in_for (suc n) answers c limit s w made =
    step_in answers c w made (next c limit s) (run_in_for n answers c limit)

-- What comes of a code in a world: it has ended, or it waits for a reply. A run of good code has no more
-- instructions than are left to run at its start.
unfoldable pub run_in : {W : Type 0} → Answering W → CodeLists → ℕ → W → InWorld W
run_in answers c limit w =
    run_in_for (left_until_end c limit (start_state c) + 1) answers c limit (start_state c) w []

-- ---- Its law

-- the world gives these replies to these calls, in order
abbrev pub GivesReplies : {W : Type 0} → Answering W → W → List SysCall → List SysReply → W → Type 0
GivesReplies answers w [] [] now = w ≡ now
GivesReplies answers w (call ∷ calls) (reply ∷ replies) now =
    (after : _) × (answers w call ≡ Some (reply, after)) × GivesReplies answers after calls replies now
GivesReplies answers w [] (reply ∷ replies) now = ⊥
GivesReplies answers w (call ∷ calls) [] now = ⊥

-- the run by the replies that the world gives: to its end, or to a call to which the world has none
abbrev pub IsRunIn : {W : Type 0} → Answering W → CodeLists → ℕ → W → RunOutcome → W → Type 0
IsRunIn answers c limit w (Ends result line ticks made) now =
    (replies : List SysReply) × GivesReplies answers w made replies now
    × Runs c limit replies (Ends result line ticks made)
IsRunIn answers c limit w (Waits made) now =
    (before : List SysCall) × (last : SysCall) × (replies : List SysReply) × (made ≡ before ++ last ∷ [])
    × GivesReplies answers w before replies now × (answers now last ≡ None)
    × Runs c limit replies (Waits made)

-- each reply of the world fits its call
abbrev pub AreFit : {W : Type 0} → Answering W → Type 0
AreFit {W} answers =
    (w : W) (call : SysCall) (reply : SysReply) (after : W) → answers w call ≡ Some (reply, after)
    → Fits call reply

-- what comes of good code in a world whose replies fit is its run by the replies of the world
abbrev pub AnyRunIn : Type 0 → Type 0
AnyRunIn W =
    (answers : Answering W) (c : CodeLists) (limit : ℕ) (w : W) → AreFit answers → IsCode c → IsGood c
    → IsRunIn answers c limit w (run_in answers c limit w).outcome (run_in answers c limit w).world

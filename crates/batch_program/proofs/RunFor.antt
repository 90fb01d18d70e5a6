-- The run with the cards so far, as one function of its state: what proofs about it go by.
use Rattle.std.proofs.Common.{◌≡◌, ℕ, zero, suc, ◌+◌, Bool, List, [], ◌∷◌, ◌++◌, Option, None, Some, refl}
use Rattle.std.specs.Option.{option_map}
use Rattle.solo_base.specs.declared.system_call.SysCall.{SysCall}
use Rattle.solo_base.specs.declared.system_call.SysReply.{SysReply}
use Rattle.solo_base.specs.RunOutcome.{RunOutcome, Ends, Waits}
use Rattle.solo_base.specs.Text.{text}
use Rattle.stack_code.specs.CodeLists.{CodeLists}
use Rattle.stack_machine.specs.States.{State}
use Rattle.stack_machine.specs.State.{Next, Goes, Asks, Stops, Lacks}
use Rattle.stack_machine.specs.Machine.{next, start_state, answered}
use Rattle.stack_machine.specs.Left.{left_until_end}
use Rattle.stack_machine.specs.RunIn.{RestIn, reply_in, step_in, run_in_for, run_in}
use Rattle.pascal_mean.specs.Batch.{input_after}
use Rattle.batch_program.specs.Input.{reply_so_far}
use Rattle.batch_program.specs.RunSoFar.{batch_world, run_so_far}

-- what comes of the rest of a run: of a state, what is left of the input, and the calls made so far
abbrev pub Later : Type 0
Later = State → List ℕ → List SysCall → RunOutcome

-- a call gets the reply that it has by now, or waits for one
abbrev pub answer_by : CodeLists → State → SysCall → List ℕ → List SysCall → Option SysReply → Later → RunOutcome
answer_by c asked call input made None later = Waits (made ++ call ∷ [])
answer_by c asked call input made (Some reply) later =
    later (answered c asked reply) (input_after input call) (made ++ call ∷ [])

-- one instruction, and the rest; good code never lacks anything
abbrev pub go_on : CodeLists → Bool → List ℕ → List SysCall → Next → Later → RunOutcome
go_on c closed input made (Goes t) later = later t input made
go_on c closed input made (Asks call asked) later =
    answer_by c asked call input made (reply_so_far input closed call) later
go_on c closed input made (Stops result line ticks) later = Ends result line ticks made
go_on c closed input made Lacks later = Waits made

-- at most so many instructions
abbrev pub run_for : ℕ → CodeLists → ℕ → Bool → Later
run_for zero c limit closed s input made = Waits made
run_for (suc n) c limit closed s input made =
    go_on c closed input made (next c limit s) (run_for n c limit closed)

-- ---- It is the run in the batch's world

-- the outcome of the one is the other
abbrev Agree : RestIn (List ℕ) → Later → Type 0
Agree rest later = (s : State) (input : List ℕ) (made : List SysCall) → (rest s input made).outcome ≡ later s input made

same_reply : (c : CodeLists) (asked : State) (call : SysCall) (input : List ℕ) (made : List SysCall) (rest : RestIn (List ℕ)) (later : Later)
    → Agree rest later → (reply : Option SysReply)
    → (reply_in c asked call input made (option_map (λ r. (r, input_after input call)) reply) rest).outcome ≡ answer_by c asked call input made reply later
same_reply c asked call input made rest later agree None = refl
same_reply c asked call input made rest later agree (Some reply) = agree (answered c asked reply) (input_after input call) (made ++ call ∷ [])

same_step : (c : CodeLists) (closed : Bool) (input : List ℕ) (made : List SysCall) (rest : RestIn (List ℕ)) (later : Later) → Agree rest later
    → (step : Next) → (step_in (batch_world closed) c input made step rest).outcome ≡ go_on c closed input made step later
same_step c closed input made rest later agree (Goes t) = agree t input made
same_step c closed input made rest later agree (Asks call asked) =
    same_reply c asked call input made rest later agree (reply_so_far input closed call)
same_step c closed input made rest later agree (Stops result line ticks) = refl
same_step c closed input made rest later agree Lacks = refl

same_run : (n : ℕ) (c : CodeLists) (limit : ℕ) (closed : Bool) → Agree (run_in_for n (batch_world closed) c limit) (run_for n c limit closed)
same_run zero c limit closed s input made = refl
same_run (suc n) c limit closed s input made =
    same_step c closed input made (run_in_for n (batch_world closed) c limit) (run_for n c limit closed) (same_run n c limit closed) (next c limit s)

pub run_is : (c : CodeLists) (limit : ℕ) (cards : List (List ℕ)) (closed : Bool)
    → run_so_far c limit cards closed ≡ run_for (left_until_end c limit (start_state c) + 1) c limit closed (start_state c) (text cards) []
unfolding run_so_far run_in
run_is c limit cards closed = same_run (left_until_end c limit (start_state c) + 1) c limit closed (start_state c) (text cards) []

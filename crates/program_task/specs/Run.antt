-- A program as a task: its code, instruction by instruction, with the table's answer to each of its calls.
use Rattle.std.specs.Prelude.{ℕ, zero, suc, ◌+◌, Option, Some, None}
use Rattle.solo_base.specs.declared.outcome.ProgResult.{ProgResult}
use Rattle.solo_base.specs.declared.outcome.ProgResult.TheVariants as result
use Rattle.stack_code.specs.CodeLists.{CodeLists}
use Rattle.stack_machine.specs.States.{State}
use Rattle.stack_machine.specs.State.{Next, Goes, Asks, Stops, Lacks}
use Rattle.stack_machine.specs.Machine.{next, start_state, answered}
use Rattle.stack_machine.specs.Left.{left_until_end}
use Rattle.program_task.specs.Task.{Task, and_then, Gives}
use Rattle.program_task.specs.Program.{Own, Shared, Answer, Ended, Runner}
use Rattle.program_task.specs.Table.{answer}

-- what the rest of a run does, by the machine's state, what the program has and what it shares
abbrev pub Later : Type 0
Later = State → Own → Shared → Task Ended

abbrev pub ends_so : ProgResult → ℕ → ℕ → Own → Shared → Task Ended
ends_so r line ticks own w =
    Gives (record { result = r; line = line; ticks = ticks; outgoing = own.outgoing; shared = w })

-- one instruction, and the rest; good code never lacks anything
abbrev pub step_by : Option Runner → CodeLists → Own → Shared → Next → Later → Task Ended
step_by deeper c own w (Goes t) later = later t own w
step_by deeper c own w (Asks call asked) later =
    and_then (answer deeper call own w) (λ a. later (answered c asked a.reply) a.own a.shared)
step_by deeper c own w (Stops r line ticks) later = ends_so r line ticks own w
step_by deeper c own w Lacks later = ends_so result.CallError 0 0 own w

-- at most so many instructions
abbrev pub run_for : ℕ → Option Runner → CodeLists → ℕ → Later
run_for zero deeper c limit s own w = ends_so result.CallError 0 0 own w
run_for (suc n) deeper c limit s own w = step_by deeper c own w (next c limit s) (run_for n deeper c limit)

-- A program on a stack with room for so many: its own RUN is the same, with room for one fewer. A run of good
-- code has no more instructions than are left to run at its start.
abbrev pub runner : ℕ → Option Runner
runner zero = None
runner (suc room) =
    Some (λ c limit own w.
    run_for (left_until_end c limit (start_state c) + 1) (runner room) c limit (start_state c) own w)

-- at most five programs stand on the stack of a command
abbrev pub program_room : ℕ
program_room = 5

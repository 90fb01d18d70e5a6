-- Where a program stands, and what one instruction may make of it.
use Rattle.std.specs.Prelude.{ℕ, ◌+◌, Bool, true, false, List, ◌∷◌, ℤ, length, nat_lt, if◌then◌else◌}
use Rattle.solo_base.specs.declared.outcome.ProgResult.{ProgResult}
use Rattle.solo_base.specs.declared.system_call.SysCall.{SysCall}
use Rattle.stack_code.specs.CodeLists.{CodeLists, routine_at}
use Rattle.stack_machine.specs.States.{Activation, State}
use Rattle.stack_machine.specs.Activations.{words_from, waiting_with, own_with}
use Rattle.stack_machine.specs.declared.state.Step.{Step}
use Rattle.stack_machine.specs.declared.state.Step.TheVariants as step
use Rattle.stack_machine.specs.declared.state.Ask.{Ask}
use Rattle.stack_machine.specs.declared.state.Ask.TheVariants as ask

-- What an instruction does: it goes on in a new state, it asks for a call in this state, or it stops
-- with a result, a line and the ticks taken. Lacks: an instruction, an operand, a word or room is missing.
pub data Next : Type 0 where
  Goes : State → Next
  Asks : SysCall → State → Next
  Stops : ProgResult → ℕ → ℕ → Next
  Lacks : Next

-- what the code's step says, with the state that it leaves
abbrev pub outcome : Step → State → Next
outcome step.Moved new = Goes new
outcome (step.Stopped result line) new = Stops result line new.ticks
outcome step.Stuck new = Lacks

-- the same of an instruction with a call, which changes nothing
abbrev pub asked : Ask → State → Next
asked (ask.Call call) s = Asks call s
asked (ask.Stopped result line) s = Stops result line s.ticks
asked ask.Stuck s = Lacks

-- stops in the line of the activation
abbrev pub stop : State → ProgResult → Next
stop s result = Stops result s.current.line s.ticks

-- at the next instruction, with these operands
abbrev pub advance : State → List ℤ → State
advance s operands =
    record s { current = record s.current { place = s.current.place + 1; operands = operands } }

-- at another instruction, with these operands
abbrev pub jump_to : State → ℕ → List ℤ → State
jump_to s place operands = record s { current = record s.current { place = place; operands = operands } }

-- whether the routine has room for one more operand
abbrev pub has_room : CodeLists → Activation → Bool
has_room c a = nat_lt (length a.operands) (routine_at c a.routine).height

-- pushes a word
abbrev pub push : CodeLists → State → ℤ → Next
push c s word = if has_room c s.current then Goes (advance s (word ∷ s.current.operands)) else Lacks

-- ---- Frames

-- the words of the activation with this number, and the state in which it has other words
abbrev pub words_at : State → ℕ → List ℤ
words_at s number = words_from s.below s.current.words number

abbrev pub with_words_at : State → ℕ → List ℤ → State
with_words_at s number words = record s {
  below = waiting_with s.below number words;
  current = record s.current { words = own_with s.below s.current.words number words };
}

-- the words of the program's frame, or of the current activation's own
abbrev pub words_of : Bool → State → List ℤ
words_of true s = words_at s 0
words_of false s = s.current.words

abbrev pub with_words : Bool → State → List ℤ → State
with_words true s words = with_words_at s 0 words
with_words false s words = record s { current = record s.current { words = words } }

-- How much a program has left to run at most: each instruction lowers it, and so does each reply.
use Rattle.std.specs.Prelude.{ℕ, ◌+◌, ◌-◌, ◌*◌, Bool, true, false, List, [], ◌∷◌, length, Option, Some, None}
use Rattle.stack_code.specs.CodeLists.{CodeLists, instr_at}
use Rattle.stack_code.specs.Rules.{is_tick, is_behind_tick}
use Rattle.stack_machine.specs.States.{Activation, State}
use Rattle.stack_machine.specs.declared.state.Finish.{Finish}

abbrev pub instr_count : CodeLists → ℕ
instr_count c = length c.instrs

-- The instructions that an activation runs from a place on up to its next tick weigh one each, and one more:
-- a TICK pays for what comes behind it. Behind a tick calls may come, so there each weighs as much as a
-- routine that is called and runs up to its first tick.
abbrev pub weight_by : Bool → Bool → ℕ → ℕ → ℕ
weight_by true behind ahead room = 1
weight_by false true ahead room = ahead * room + 1
weight_by false false ahead room = ahead + 1

abbrev pub weight_at : CodeLists → ℕ → ℕ
weight_at c place =
    weight_by (is_tick (instr_at c place).op) (is_behind_tick c place)
    (instr_count c - place) (instr_count c + 2)

abbrev pub weights : CodeLists → List Activation → ℕ
weights c [] = 0
weights c (a ∷ others) = weight_at c a.place + weights c others

-- each tick that is left pays for the heaviest activation
abbrev pub price : CodeLists → ℕ
price c = instr_count c * (instr_count c + 2) + (instr_count c + 2)

abbrev pub left_to_run : CodeLists → ℕ → State → ℕ
left_to_run c limit s = (limit - s.ticks) * price c + weights c s.below + weight_at c s.current.place

-- up to the end: nothing for a program that ended
abbrev pub left_by : Option Finish → ℕ → ℕ
left_by (Some finish) left = 0
left_by None left = left + 1

abbrev pub left_until_end : CodeLists → ℕ → State → ℕ
left_until_end c limit s = left_by s.ended (left_to_run c limit s)

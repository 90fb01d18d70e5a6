-- The machine: its table, its first state, and what becomes of it by a reply.
use Rattle.std.specs.Prelude.{ℕ, ◌+◌, Bool, true, false, List, [], ◌++◌, length, take, drop, replicate, slice_get, Option, Some, None, ℤ, pos}
use Rattle.std.specs.Int.{w16, cast_signed}
use Rattle.solo_base.specs.declared.outcome.ProgResult.TheVariants as result
use Rattle.solo_base.specs.declared.system_call.SysReply.{SysReply}
use Rattle.solo_base.specs.declared.system_call.SysReply.TheVariants as replies
use Rattle.stack_code.specs.declared.table.Op.{Op}
use Rattle.stack_code.specs.declared.table.Op.TheVariants as op
use Rattle.stack_code.specs.declared.instr.Instr.{Instr}
use Rattle.stack_code.specs.CodeLists.{CodeLists, routine_at, instr_at}
use Rattle.stack_code.specs.Rules.{pops}
use Rattle.stack_machine.specs.declared.state.Finish.{Finish}
use Rattle.stack_machine.specs.States.{State}
use Rattle.stack_machine.specs.State.{Next, Goes, Stops, Lacks, stop, advance, jump_to, push, words_of, with_words}
use Rattle.stack_machine.specs.Effects.{load, store, load_at, store_at, refer, load_reference, store_reference, unary, binary, index, chr, jump_false, tick, call, leave}
use Rattle.stack_machine.specs.Operators.{unary_of, binary_of}
use Rattle.solo_base.specs.Replies.{results_in, array_in, ticks_in}
use Rattle.stack_machine.specs.Calls.{sys}

-- ---- The table

unfoldable pub effect : CodeLists → ℕ → State → Op → ℕ → ℕ → Next
effect c limit s op.Push a b = push c s (cast_signed w16 a)
effect c limit s op.LoadG a b = load c true s a
effect c limit s op.LoadL a b = load c false s a
effect c limit s op.StoreG a b = store true s a s.current.operands
effect c limit s op.StoreL a b = store false s a s.current.operands
effect c limit s op.LoadGX a b = load_at true s a b s.current.operands
effect c limit s op.LoadLX a b = load_at false s a b s.current.operands
effect c limit s op.StoreGX a b = store_at true s a b s.current.operands
effect c limit s op.StoreLX a b = store_at false s a b s.current.operands
effect c limit s op.Index a b = index s a b s.current.operands
effect c limit s op.Add a b = binary (binary_of op.Add) s s.current.operands
effect c limit s op.Sub a b = binary (binary_of op.Sub) s s.current.operands
effect c limit s op.Mul a b = binary (binary_of op.Mul) s s.current.operands
effect c limit s op.Div a b = binary (binary_of op.Div) s s.current.operands
effect c limit s op.Mod a b = binary (binary_of op.Mod) s s.current.operands
effect c limit s op.Neg a b = unary (unary_of op.Neg) s s.current.operands
effect c limit s op.Abs a b = unary (unary_of op.Abs) s s.current.operands
effect c limit s op.Not a b = unary (unary_of op.Not) s s.current.operands
effect c limit s op.And a b = binary (binary_of op.And) s s.current.operands
effect c limit s op.Or a b = binary (binary_of op.Or) s s.current.operands
effect c limit s op.Eq a b = binary (binary_of op.Eq) s s.current.operands
effect c limit s op.Ne a b = binary (binary_of op.Ne) s s.current.operands
effect c limit s op.Lt a b = binary (binary_of op.Lt) s s.current.operands
effect c limit s op.Gt a b = binary (binary_of op.Gt) s s.current.operands
effect c limit s op.Le a b = binary (binary_of op.Le) s s.current.operands
effect c limit s op.Ge a b = binary (binary_of op.Ge) s s.current.operands
effect c limit s op.Chr a b = chr s s.current.operands
effect c limit s op.Jump a b = Goes (jump_to s a s.current.operands)
effect c limit s op.JumpF a b = jump_false s a s.current.operands
effect c limit s op.Tick a b = tick limit s a b
effect c limit s op.Call a b = call c s a
effect c limit s op.Return a b = leave c s
effect c limit s op.Sys a b = sys c limit s false a 0
effect c limit s op.SysG a b = sys c limit s true a b
effect c limit s op.SysL a b = sys c limit s false a b
effect c limit s op.Halt a b = stop s result.Terminated
effect c limit s op.Succ a b = unary (unary_of op.Succ) s s.current.operands
effect c limit s op.Pred a b = unary (unary_of op.Pred) s s.current.operands
effect c limit s op.RefG a b = refer c s 0 a
effect c limit s op.RefL a b = refer c s (length s.below) a
effect c limit s op.LoadR a b = load_reference c s a
effect c limit s op.StoreR a b = store_reference s a s.current.operands

-- the instruction at the current place
abbrev pub next_by : CodeLists → ℕ → State → Option Instr → Next
next_by c limit s (Some i) = effect c limit s i.op i.a i.b
next_by c limit s None = Lacks

-- what the next instruction does; a program that ended does nothing more
abbrev pub next_of : CodeLists → ℕ → State → Option Finish → Next
next_of c limit s (Some finish) = Stops finish.result finish.line finish.ticks
next_of c limit s None = next_by c limit s (slice_get c.instrs s.current.place)

unfoldable pub next : CodeLists → ℕ → State → Next
next c limit s = next_of c limit s s.ended

-- ---- Begin and reply

-- the program at its first instruction, its words 0
abbrev pub start_state : CodeLists → State
start_state c = record {
  below = [];
  current =
      record {
        routine =
            0;
        place = 0;
        line = 0;
        words = replicate (routine_at c 0).words (pos 0);
        operands = [];
      };
  ticks = 0;
  ended = None;
}

-- the instructions with a call
abbrev pub calls : Op → Bool
calls op.Sys = true
calls op.SysG = true
calls op.SysL = true
calls other = false

-- whether an instruction's array is in the program's frame, where it begins, and how many values it pops
abbrev pub uses_program : Op → Bool
uses_program op.SysG = true
uses_program other = false

abbrev pub array_start : Op → ℕ → ℕ
array_start op.Sys b = 0
array_start other b = b

abbrev pub set_array : List ℤ → ℕ → List ℤ → List ℤ
set_array words b array = take b words ++ array ++ drop (b + length array) words

-- a state in which the instruction's call was answered: its values are popped, the array is set, the results
-- are pushed, and the ticks count
abbrev pub reply_at : CodeLists → State → Instr → SysReply → State
reply_at c s i reply =
    let program = uses_program i.op in
    let set = with_words program s (set_array (words_of program s) (array_start i.op i.b) (array_in reply)) in
    let popped = drop (pops c i.op i.a) s.current.operands in
    record (advance set (results_in reply ++ popped)) { ticks = s.ticks + ticks_in reply }

abbrev pub fail_call : State → State
fail_call s =
    record s { ended = Some (record { result = result.CallError; line = s.current.line; ticks = s.ticks }) }

unfoldable pub answered : CodeLists → State → SysReply → State
answered c s replies.CallError = fail_call s
answered c s other = reply_at c s (instr_at c s.current.place) other

-- Room for what a reply gives.
use Rattle.std.specs.Prelude.{◌≡◌, ℕ, ◌+◌, ◌-◌, ◌<◌, ◌≤◌, ◌^◌, length}
use Rattle.solo_base.specs.declared.system_call.SysReply.{SysReply}
use Rattle.solo_base.specs.declared.system_call.SysReply.TheVariants as replies
use Rattle.stack_code.specs.declared.instr.Instr.{Instr}
use Rattle.solo_base.specs.Interface.{values_of}
use Rattle.stack_code.specs.Rules.{pops}
use Rattle.stack_code.specs.CodeLists.{CodeLists, instr_at}
use Rattle.stack_machine.specs.States.{State}
use Rattle.stack_machine.specs.State.{words_of}
use Rattle.solo_base.specs.Replies.{results_in, array_in, ticks_in}
use Rattle.stack_machine.specs.Machine.{uses_program, array_start}

-- the values of the instruction's call are there, the reply's array lies in the frame, and there is room for
-- its results, among at most so many operands, and its ticks
pub record HasRoom (s : State) (most : ℕ) (i : Instr) (reply : SysReply) : Type 0 where
  pub values : values_of i.a ≤ length s.current.operands
  pub array : array_start i.op i.b + length (array_in reply) ≤ length (words_of (uses_program i.op) s)
  pub results : length s.current.operands - values_of i.a + length (results_in reply) ≤ most
  pub ticks : s.ticks + ticks_in reply < 2 ^ 32

-- the instruction at the program's place has made a call, and there is room for this reply to it
pub record TakesReply (c : CodeLists) (s : State) (most : ℕ) (reply : SysReply) : Type 0 where
  pub inside : s.current.place < length c.instrs
  pub pops_values : pops c (instr_at c s.current.place).op (instr_at c s.current.place).a
      ≡ values_of (instr_at c s.current.place).a
  pub room : HasRoom s most (instr_at c s.current.place) reply

-- CallError needs no room
abbrev pub HasRoomFor : CodeLists → State → ℕ → SysReply → Type 0
HasRoomFor c s most replies.CallError = Unit {0}
HasRoomFor c s most other = TakesReply c s most other

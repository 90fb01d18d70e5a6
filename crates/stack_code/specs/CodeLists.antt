-- What code is: a list of routines and a list of instructions.
use Rattle.std.specs.Prelude.{◌≡◌, ℕ, ◌<◌, ◌≤◌, ◌^◌, false, List, length, slice_index_or}
use Rattle.stack_code.specs.declared.table.Op.TheVariants as op
use Rattle.stack_code.specs.declared.instr.Instr.{Instr}
use Rattle.stack_code.specs.declared.instr.RoutineInfo.{RoutineInfo}
use Rattle.stack_code.specs.Table.{row}

-- The routines, the program first, and the instructions of all of them.
pub record CodeLists : Type 0 where
  pub routines : List RoutineInfo
  pub instrs : List Instr

-- an operand that the row doesn't use is 0
pub record UsesItsOperands (i : Instr) : Type 0 where
  pub a : (row i.op).uses_a ≡ false → i.a ≡ 0
  pub b : (row i.op).uses_b ≡ false → i.b ≡ 0

-- what stands past the end of a list
abbrev pub no_routine : RoutineInfo
no_routine = record { start = 0; params = 0; function = false; words = 0; height = 0 }

abbrev pub no_instr : Instr
no_instr = record { op = op.Halt; a = 0; b = 0 }

abbrev pub routine_at : CodeLists → ℕ → RoutineInfo
routine_at c k = slice_index_or c.routines k no_routine

abbrev pub instr_at : CodeLists → ℕ → Instr
instr_at c place = slice_index_or c.instrs place no_instr

-- what every code keeps
pub record IsCode (c : CodeLists) : Type 0 where
  pub some_routine : 1 ≤ length c.routines
  pub few_routines : length c.routines ≤ 255
  pub some_instr : 1 ≤ length c.instrs
  pub few_instrs : length c.instrs ≤ 8192
  pub operands : (place : ℕ) → place < length c.instrs → UsesItsOperands (instr_at c place)

-- the numbers fit their fields, as those of the code's types do
pub record FitsRoutine (r : RoutineInfo) : Type 0 where
  pub starts : r.start < 2 ^ 16
  pub params : r.params < 2 ^ 8
  pub words : r.words < 2 ^ 16
  pub height : r.height < 2 ^ 16

pub record FitsInstr (i : Instr) : Type 0 where
  pub a : i.a < 2 ^ 16
  pub b : i.b < 2 ^ 16

pub record FitsItsFields (c : CodeLists) : Type 0 where
  pub routines : (k : ℕ) → k < length c.routines → FitsRoutine (routine_at c k)
  pub instrs : (place : ℕ) → place < length c.instrs → FitsInstr (instr_at c place)

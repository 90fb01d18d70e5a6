-- Instructions, alone and for the words of a frame.
use Rattle.std.specs.Prelude.{ℕ, ◌/◌, ◌%◌, ℤ}
use Rattle.std.specs.Int.{w16, cast_unsigned}
use Rattle.stack_code.specs.declared.table.Op.{Op}
use Rattle.stack_code.specs.declared.table.Op.TheVariants as op
use Rattle.stack_code.specs.declared.instr.Instr.{Instr}
use Rattle.pascal_mean.specs.Means.{Owner, OfProgram, OfRoutine, Bounds}

-- with no operand, one, or two
abbrev pub bare : Op → Instr
bare o = record { op = o; a = 0; b = 0 }

abbrev pub with_a : Op → ℕ → Instr
with_a o a = record { op = o; a = a; b = 0 }

abbrev pub with_both : Op → ℕ → ℕ → Instr
with_both o a b = record { op = o; a = a; b = b }

-- a number as an operand: its two's complement
abbrev pub operand : ℤ → ℕ
operand v = cast_unsigned w16 v

abbrev pub push : ℤ → Instr
push v = with_a op.Push (operand v)

-- a tick on a line
abbrev pub tick : ℕ → Instr
tick line = with_both op.Tick (line / 65536) (line % 65536)

-- the bounds of an array are tested
abbrev pub test_index : Bounds → Instr
test_index bounds = with_both op.Index (operand bounds.low) (operand bounds.high)

-- a word of the program's frame takes the form G, one of the own frame the form L
abbrev pub load_word : Owner → ℕ → Instr
load_word OfProgram a = with_a op.LoadG a
load_word OfRoutine a = with_a op.LoadL a

abbrev pub store_word : Owner → ℕ → Instr
store_word OfProgram a = with_a op.StoreG a
store_word OfRoutine a = with_a op.StoreL a

-- an element of an array: its first word, and how many elements it has
abbrev pub load_element : Owner → ℕ → ℕ → Instr
load_element OfProgram a count = with_both op.LoadGX a count
load_element OfRoutine a count = with_both op.LoadLX a count

abbrev pub store_element : Owner → ℕ → ℕ → Instr
store_element OfProgram a count = with_both op.StoreGX a count
store_element OfRoutine a count = with_both op.StoreLX a count

-- an activation and a word of its frame, as a VAR parameter keeps them
abbrev pub refer : Owner → ℕ → Instr
refer OfProgram a = with_a op.RefG a
refer OfRoutine a = with_a op.RefL a

-- a row of the interface with the array from a word on
abbrev pub call_with_array : Owner → ℕ → ℕ → Instr
call_with_array OfProgram row a = with_both op.SysG row a
call_with_array OfRoutine row a = with_both op.SysL row a

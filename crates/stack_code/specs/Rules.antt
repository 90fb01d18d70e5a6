-- What makes code safe to run: the rules on its records, and the first record that breaks one.
use Rattle.std.specs.Prelude.{◌≡◌, ℕ, zero, suc, ◌+◌, ◌-◌, ◌*◌, ◌<◌, Bool, true, false, not, ◌&&◌, ◌||◌, ◌==◌, nat_lt, nat_le, if◌then◌else◌, length, Option, Some, None, is_some, is_none, pos, ◌-ℤ◌, int_le}
use Rattle.std.specs.List.{list_any, count_by}
use Rattle.std.specs.Option.{option_map_or, option_map}
use Rattle.std.specs.Int.{w16, cast_signed}
use Rattle.stack_code.specs.declared.table.Op.{Op}
use Rattle.stack_code.specs.declared.table.Op.TheVariants as op
use Rattle.stack_code.specs.Table.{row}
use Rattle.solo_base.specs.Interface.{call_row, values_of, results_of}
use Rattle.stack_code.specs.CodeLists.{CodeLists, routine_at, instr_at}
use Rattle.stack_code.specs.CodeFile.{mark, least}

-- ---- Where a place belongs

-- the routine of a place: the last one that starts there or before
abbrev pub routine_of : CodeLists → ℕ → ℕ
routine_of c place = count_by (λ r. nat_le r.start place) c.routines - 1

-- the words of the frame that a place can use as its own, and those of the program's frame
abbrev pub own_words : CodeLists → ℕ → ℕ
own_words c place = (routine_at c (routine_of c place)).words

abbrev pub program_words : CodeLists → ℕ
program_words c = (routine_at c 0).words

-- whether the place behind this one is still in its routine
abbrev pub goes_on : CodeLists → ℕ → Bool
goes_on c place = nat_lt (place + 1) (length c.instrs) && routine_of c (place + 1) == routine_of c place

-- ---- Routines

-- the program has neither parameters nor a result and starts the code; the others start behind one another
abbrev pub starts_well : CodeLists → ℕ → Bool
starts_well c zero =
    (routine_at c 0).start == 0 && (routine_at c 0).params == 0 && not (routine_at c 0).function
starts_well c (suc k) = nat_lt (routine_at c k).start (routine_at c (suc k)).start

abbrev pub routine_is_good : CodeLists → ℕ → Bool
routine_is_good c k =
    let r = routine_at c k in
    starts_well c k && nat_lt r.start (length c.instrs)
    && nat_le r.params 16 && nat_le (r.params + mark r.function) r.words
    && nat_le r.words 4352 && nat_le r.height 1536

-- ---- Kinds of instructions

abbrev pub is_jump : Op → Bool
is_jump op.Jump = true
is_jump op.JumpF = true
is_jump other = false

abbrev pub is_tick : Op → Bool
is_tick op.Tick = true
is_tick other = false

-- a routine's last instruction
abbrev pub may_be_last : Op → Bool
may_be_last op.Jump = true
may_be_last op.Return = true
may_be_last op.Halt = true
may_be_last other = false

-- nothing is on the operand stack behind these
abbrev pub leaves_nothing : Op → Bool
leaves_nothing op.Jump = true
leaves_nothing op.JumpF = true
leaves_nothing op.Return = true
leaves_nothing op.Halt = true
leaves_nothing other = false

-- how many words an instruction takes from the operand stack, and how many it puts there
abbrev pub pops : CodeLists → Op → ℕ → ℕ
pops c op.Call a = (routine_at c a).params
pops c op.Sys a = values_of a
pops c op.SysG a = values_of a
pops c op.SysL a = values_of a
pops c other a = (row other).pops

abbrev pub pushes : CodeLists → Op → ℕ → ℕ
pushes c op.Call a = mark (routine_at c a).function
pushes c op.Sys a = results_of a
pushes c op.SysG a = results_of a
pushes c op.SysL a = results_of a
pushes c other a = (row other).pushes

-- ---- Operands

-- a word of a frame, an array of a frame, and the array of an interface row
abbrev pub word_fits : ℕ → ℕ → Bool
word_fits words a = nat_lt a words

-- the two words of a reference
abbrev pub reference_fits : ℕ → ℕ → Bool
reference_fits words a = nat_lt (a + 1) words

abbrev pub array_fits : ℕ → ℕ → ℕ → Bool
array_fits words a b = nat_le 1 b && nat_le b 4096 && nat_le (a + b) words

abbrev pub call_array_fits : ℕ → ℕ → ℕ → Bool
call_array_fits words a b =
    option_map_or (λ r. nat_le 1 r.array && nat_le (b + r.array) words) (call_row a) false

-- the bounds of an array, signed
abbrev pub bounds_fit : ℕ → ℕ → Bool
bounds_fit a b =
    int_le (cast_signed w16 a) (cast_signed w16 b)
    && int_le (cast_signed w16 b -ℤ cast_signed w16 a) (pos 4095)

-- a jump stays in its routine, and one that doesn't lead forward leads to a TICK
abbrev pub jump_fits : CodeLists → ℕ → ℕ → Bool
jump_fits c place a =
    nat_lt a (length c.instrs) && routine_of c a == routine_of c place
    && (nat_lt place a || is_tick (instr_at c a).op)

abbrev pub operands_fit : CodeLists → ℕ → Op → ℕ → ℕ → Bool
operands_fit c place op.LoadG a b = word_fits (program_words c) a
operands_fit c place op.StoreG a b = word_fits (program_words c) a
operands_fit c place op.LoadL a b = word_fits (own_words c place) a
operands_fit c place op.StoreL a b = word_fits (own_words c place) a
operands_fit c place op.RefG a b = word_fits (program_words c) a
operands_fit c place op.RefL a b = word_fits (own_words c place) a
operands_fit c place op.LoadR a b = reference_fits (own_words c place) a
operands_fit c place op.StoreR a b = reference_fits (own_words c place) a
operands_fit c place op.LoadGX a b = array_fits (program_words c) a b
operands_fit c place op.StoreGX a b = array_fits (program_words c) a b
operands_fit c place op.LoadLX a b = array_fits (own_words c place) a b
operands_fit c place op.StoreLX a b = array_fits (own_words c place) a b
operands_fit c place op.Index a b = bounds_fit a b
operands_fit c place op.Jump a b = jump_fits c place a
operands_fit c place op.JumpF a b = jump_fits c place a
operands_fit c place op.Call a b = nat_le 1 a && nat_lt a (length c.routines)
operands_fit c place op.Sys a b = option_map_or (λ r. r.array == 0) (call_row a) false
operands_fit c place op.SysG a b = call_array_fits (program_words c) a b
operands_fit c place op.SysL a b = call_array_fits (own_words c place) a b
operands_fit c place op.Return a b = nat_lt 0 (routine_of c place)
operands_fit c place op.Halt a b = routine_of c place == 0
operands_fit c place other a b = true

-- ---- Along the straight line of a routine

-- how many words are on the operand stack before an instruction, counted from nothing at the routine's start
unfoldable pub height_at : CodeLists → ℕ → ℕ
height_at c zero = 0
height_at c (suc place) =
    if routine_of c (suc place) == routine_of c place
    then height_at c place - pops c (instr_at c place).op (instr_at c place).a + pushes c (instr_at c place).op (instr_at c place).a
    else 0

-- a jump leads there
abbrev pub is_target : CodeLists → ℕ → Bool
is_target c place = list_any (λ i. is_jump i.op && i.a == place) c.instrs

-- A TICK leads straight to a later place of its routine: no jump stands between the two, and no place behind
-- the TICK up to the later one, which counts, is a jump's target.
abbrev pub leads_straight : CodeLists → ℕ → ℕ → Bool
leads_straight c tick place =
    is_tick (instr_at c tick).op && routine_of c tick == routine_of c place
    && is_none (least (λ k. is_jump (instr_at c k).op) (tick + 1) (place - (tick + 1)))
    && is_none (least (is_target c) (tick + 1) (place - tick))

-- some TICK leads straight to the place
unfoldable pub is_behind_tick : CodeLists → ℕ → Bool
is_behind_tick c place = is_some (least (λ tick. leads_straight c tick place) 0 place)

-- no more is popped than is there, the routine's height isn't passed, and nothing is left where nothing may
-- be
abbrev pub height_fits : CodeLists → ℕ → Op → ℕ → ℕ → Bool
height_fits c place o a height =
    nat_le (pops c o a) height
    && nat_le (height - pops c o a + pushes c o a) (routine_at c (routine_of c place)).height
    && (not (leaves_nothing o) || height - pops c o a == 0)

abbrev pub is_call : Op → Bool
is_call op.Call = true
is_call other = false

-- every rule on the instruction at a place
abbrev pub instr_is_good : CodeLists → ℕ → Bool
instr_is_good c place =
    let i = instr_at c place in
    (goes_on c place || may_be_last i.op)
    && operands_fit c place i.op i.a i.b
    && height_fits c place i.op i.a (height_at c place)
    && (height_at c place == 0 || not (is_target c place))
    && (not (is_call i.op) || is_behind_tick c place)

-- ---- The first record that breaks a rule

-- the place in the code file of a routine's record, and of an instruction's
abbrev pub routine_record : ℕ → ℕ
routine_record k = 12 + 8 * k

abbrev pub instr_record : CodeLists → ℕ → ℕ
instr_record c place = 12 + 8 * length c.routines + 5 * place

abbrev pub broken_routine : CodeLists → Option ℕ
broken_routine c = least (λ k. not (routine_is_good c k)) 0 (length c.routines)

abbrev pub broken_instr : CodeLists → Option ℕ
broken_instr c = least (λ place. not (instr_is_good c place)) 0 (length c.instrs)

abbrev pub first_of : Option ℕ → Option ℕ → Option ℕ
first_of (Some at) later = Some at
first_of None later = later

-- the place of the first broken record, routines before instructions
unfoldable pub broken_record : CodeLists → Option ℕ
broken_record c =
    first_of (option_map routine_record (broken_routine c)) (option_map (instr_record c) (broken_instr c))

-- code is good where no record breaks a rule
pub record IsGood (c : CodeLists) : Type 0 where
  pub routines : (k : ℕ) → k < length c.routines → routine_is_good c k ≡ true
  pub instrs : (place : ℕ) → place < length c.instrs → instr_is_good c place ≡ true

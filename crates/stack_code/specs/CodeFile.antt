-- The bytes of a code file, and the first byte that is wrong in a file that isn't one.
use Rattle.std.specs.Prelude.{◌≡◌, ℕ, zero, suc, ◌+◌, ◌-◌, ◌*◌, ◌%◌, Bool, true, false, not, ◌&&◌, ◌||◌, ◌==◌, nat_lt, nat_le, if◌then◌else◌, List, [], ◌∷◌, ◌++◌, length, codes, replicate, slice_index, Option, Some, None, is_some}
use Rattle.std.specs.List.{flat_map}
use Rattle.std.specs.Option.{option_map_or}
use Rattle.solo_base.specs.declared.page.TheConstants.{PAGE_LENGTH}
use Rattle.solo_base.specs.PageBytes.{number_at, number_bytes}
use Rattle.stack_code.specs.declared.instr.Instr.{Instr}
use Rattle.stack_code.specs.declared.instr.RoutineInfo.{RoutineInfo}
use Rattle.stack_code.specs.Table.{row, op_at}
use Rattle.stack_code.specs.CodeLists.{CodeLists}

-- ---- What code is written as

abbrev pub mark : Bool → ℕ
mark function = if function then 1 else 0

-- eight bytes: start, parameters, the function's mark, words, height
abbrev pub routine_bytes : RoutineInfo → List ℕ
routine_bytes r =
    number_bytes r.start ++ (r.params ∷ mark r.function ∷ []) ++ number_bytes r.words ++ number_bytes r.height

-- five bytes: the operation's number, and its operands
abbrev pub instr_bytes : Instr → List ℕ
instr_bytes i = ((row i.op).number ∷ []) ++ number_bytes i.a ++ number_bytes i.b

-- eight letters and the two counts
abbrev pub head_bytes : CodeLists → List ℕ
head_bytes c = codes "SEQCODE1" ++ number_bytes (length c.routines) ++ number_bytes (length c.instrs)

abbrev pub text_bytes : CodeLists → List ℕ
text_bytes c = head_bytes c ++ flat_map routine_bytes c.routines ++ flat_map instr_bytes c.instrs

-- how many zeros fill a page that is begun
abbrev pub padding : ℕ → ℕ
padding len = (PAGE_LENGTH - len % PAGE_LENGTH) % PAGE_LENGTH

-- the code file, whole pages
unfoldable pub code_bytes : CodeLists → List ℕ
code_bytes c = text_bytes c ++ replicate (padding (length (text_bytes c))) 0

-- ---- Which byte is wrong

-- where the routines, the instructions and the file end, by the counts that the bytes give
abbrev pub routines_end : List ℕ → ℕ
routines_end bytes = 12 + 8 * number_at bytes 8

abbrev pub instrs_end : List ℕ → ℕ
instrs_end bytes = routines_end bytes + 5 * number_at bytes 10

abbrev pub file_end : List ℕ → ℕ
file_end bytes = instrs_end bytes + padding (instrs_end bytes)

-- a count is judged at its first byte, where its second one is there
abbrev pub count_may_stand : List ℕ → ℕ → ℕ → Bool
count_may_stand bytes place limit =
    nat_le (length bytes) (place + 1) || (nat_le 1 (number_at bytes place)
    && nat_le (number_at bytes place) limit)

-- the function's mark is 0 or 1
abbrev pub routine_byte_may_stand : ℕ → ℕ → Bool
routine_byte_may_stand at byte = not (at == 3) || nat_le byte 1

abbrev pub uses_a : ℕ → Bool
uses_a number = option_map_or (λ o. (row o).uses_a) (op_at number) false

abbrev pub uses_b : ℕ → Bool
uses_b number = option_map_or (λ o. (row o).uses_b) (op_at number) false

-- the operation's number is that of a row, and an operand that the operation doesn't use is 0
abbrev pub instr_byte_may_stand : ℕ → ℕ → ℕ → Bool
instr_byte_may_stand number at byte =
    if at == 0 then is_some (op_at byte) else if nat_le at 2 then uses_a number || byte == 0 else uses_b number || byte == 0

-- whether the byte at this place of the file may stand there
abbrev pub may_stand : List ℕ → ℕ → Bool
may_stand bytes place =
    if nat_lt place 8 then slice_index bytes place == slice_index (codes "SEQCODE1") place
    else if place == 8 then count_may_stand bytes 8 255
    else if place == 10 then count_may_stand bytes 10 8192
    else if nat_lt place 12 then true
    else if nat_lt place (routines_end bytes) then routine_byte_may_stand ((place - 12) % 8) (slice_index bytes place)
    else if nat_lt place (instrs_end bytes) then (let at =
    (place - routines_end bytes) % 5 in instr_byte_may_stand (slice_index bytes (place - at)) at (slice_index bytes place))
    else slice_index bytes place == 0

-- a byte is wrong that is missing or may not stand there, or, at the file's end, that is there
abbrev pub is_wrong : List ℕ → ℕ → Bool
is_wrong bytes place =
    if nat_lt place (file_end bytes) then not (nat_lt place (length bytes)
    && may_stand bytes place) else nat_lt place (length bytes)

-- the least of so many numbers from the first on that passes the test
unfoldable pub least : (ℕ → Bool) → ℕ → ℕ → Option ℕ
least test first zero = None
least test first (suc n) = if test first then Some first else least test (first + 1) n

-- the least place at which the bytes differ from every code file: no byte there, a wrong one, or one too many
abbrev pub wrong_byte : List ℕ → Option ℕ
wrong_byte bytes = least (is_wrong bytes) 0 (file_end bytes + 1)

-- ---- What is read back

-- the routine that these eight bytes of the file say
pub record IsRoutineAt (bytes : List ℕ) (place : ℕ) (r : RoutineInfo) : Type 0 where
  pub starts : r.start ≡ number_at bytes place
  pub params : r.params ≡ slice_index bytes (place + 2)
  pub function : r.function ≡ (slice_index bytes (place + 3) == 1)
  pub words : r.words ≡ number_at bytes (place + 4)
  pub height : r.height ≡ number_at bytes (place + 6)

-- the instruction that these five bytes say
pub record IsInstrAt (bytes : List ℕ) (place : ℕ) (i : Instr) : Type 0 where
  pub number : op_at (slice_index bytes place) ≡ Some i.op
  pub a : i.a ≡ number_at bytes (place + 1)
  pub b : i.b ≡ number_at bytes (place + 3)

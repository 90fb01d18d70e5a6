-- The calls of a program.
use Rattle.std.specs.Prelude.{ℕ, ◌+◌, ◌-◌, Bool, ◌&&◌, nat_le, if◌then◌else◌, List, ◌∷◌, length, take, drop, map, Option, Some, None, ℤ, unsigned_abs}
use Rattle.solo_base.specs.declared.outcome.ProgResult.TheVariants as result
use Rattle.solo_base.specs.declared.system_call.SysCall.{SysCall}
use Rattle.solo_base.specs.declared.system_call.SysCall.TheVariants as calls
use Rattle.solo_base.specs.Arithmetic.{byte_of, are_bytes}
use Rattle.solo_base.specs.declared.interface.Procedure.{Procedure}
use Rattle.solo_base.specs.declared.interface.Procedure.TheVariants as row
use Rattle.solo_base.specs.Interface.{procedure_at, call_row_of}
use Rattle.stack_code.specs.CodeLists.{CodeLists, routine_at}
use Rattle.stack_machine.specs.States.{State}
use Rattle.stack_machine.specs.State.{Next, Asks, Lacks, stop, words_of}

-- what a procedure asks for, by its values (the last one topmost), its array and the ticks that are left. Out
-- of range: WRITE, DISPLAY and PUT of a number outside 0 to 255.
pub data Request : Type 0 where
  Makes : SysCall → Request
  OutOfRange : Request
  LacksValue : Request

abbrev pub write_of : (ℕ → SysCall) → Option ℕ → Request
write_of made (Some byte) = Makes (made byte)
write_of made None = OutOfRange

abbrev pub request : Procedure → List ℤ → List ℤ → ℕ → Request
request row.Read operands array left = Makes calls.Read
request row.Write (v ∷ rest) array left = write_of (λ b. calls.Write b) (byte_of v)
request row.WriteInt (v ∷ rest) array left = Makes (calls.WriteInt v)
request row.Accept operands array left = Makes calls.Accept
request row.Display (v ∷ rest) array left = write_of (λ b. calls.Display b) (byte_of v)
request row.Open (f ∷ rest) array left = Makes (calls.Open f array)
request row.Close (f ∷ rest) array left = Makes (calls.Close f)
request row.Get (p ∷ f ∷ rest) array left = Makes (calls.Get f p)
request row.Put (p ∷ f ∷ rest) array left =
    if are_bytes array then Makes (calls.Put f p (record { 0 = map unsigned_abs array })) else OutOfRange
request row.Length (f ∷ rest) array left = Makes (calls.Length f)
request row.Lookup operands array left = Makes (calls.Lookup array)
request row.ReadArg operands array left = Makes calls.ReadArg
request row.WriteArg (n ∷ tag ∷ rest) array left = Makes (calls.WriteArg tag n array)
request row.Run operands array left = Makes (calls.Run array left)
request other operands array left = LacksValue

abbrev pub made : State → Request → Next
made s (Makes call) = Asks call s
made s OutOfRange = stop s result.RangeError
made s LacksValue = Lacks

-- the values are there, the array lies in the frame, and there is room for the results
abbrev pub ask : CodeLists → ℕ → State → Procedure → Bool → ℕ → Next
ask c limit s procedure program b =
    let r = call_row_of procedure in
    let words = words_of program s in
    if nat_le r.values (length s.current.operands) && nat_le (b + r.array) (length words)
    && nat_le (length s.current.operands - r.values + r.results) (routine_at c s.current.routine).height
    then made s (request procedure s.current.operands (take r.array (drop b words)) (limit - s.ticks))
    else Lacks

abbrev pub ask_row : CodeLists → ℕ → State → Option Procedure → Bool → ℕ → Next
ask_row c limit s (Some procedure) program b = ask c limit s procedure program b
ask_row c limit s None program b = Lacks

-- SYS a; SYSG a b, SYSL a b: the call of row a, with the array from word b
abbrev pub sys : CodeLists → ℕ → State → Bool → ℕ → ℕ → Next
sys c limit s program a b = ask_row c limit s (procedure_at a) program b

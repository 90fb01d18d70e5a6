-- The rows of the interface between a program and the system that runs it.
use Rattle.std.specs.Prelude.{ℕ, List, [], ◌∷◌, Option, slice_get}
use Rattle.std.specs.Option.{option_map_or, option_map}
use Rattle.solo_base.specs.declared.ident.TheConstants.{IDENT_LENGTH}
use Rattle.solo_base.specs.declared.page.TheConstants.{PAGE_LENGTH}
use Rattle.solo_base.specs.declared.interface.Procedure.{Procedure}
use Rattle.solo_base.specs.declared.interface.Procedure.TheVariants as call
use Rattle.solo_base.specs.declared.interface.CallRow.{CallRow}

-- the procedures in the order of their numbers
abbrev pub procedures : List Procedure
procedures =
    call.Read ∷ call.Write ∷ call.WriteInt ∷ call.Accept ∷ call.Display ∷ call.Open ∷ call.Close
    ∷ call.Get ∷ call.Put ∷ call.Length ∷ call.Lookup ∷ call.ReadArg ∷ call.WriteArg ∷ call.Run ∷ []

abbrev pub procedure_at : ℕ → Option Procedure
procedure_at number = slice_get procedures number

-- how many values are popped, and how many words are pushed for the variables that the call sets and for its
-- result
abbrev pub plain : ℕ → ℕ → CallRow
plain values results = record { values = values; array = 0; results = results }

-- the same of a procedure with an array of so many words
abbrev pub with_array : ℕ → ℕ → ℕ → CallRow
with_array array values results = record { values = values; array = array; results = results }

abbrev pub call_row_of : Procedure → CallRow
call_row_of call.Read = plain 0 1
call_row_of call.Write = plain 1 0
call_row_of call.WriteInt = plain 1 0
call_row_of call.Accept = plain 0 1
call_row_of call.Display = plain 1 0
call_row_of call.Open = with_array IDENT_LENGTH 1 1
call_row_of call.Close = plain 1 0
call_row_of call.Get = with_array PAGE_LENGTH 2 0
call_row_of call.Put = with_array PAGE_LENGTH 2 0
call_row_of call.Length = plain 1 1
call_row_of call.Lookup = with_array IDENT_LENGTH 0 2
call_row_of call.ReadArg = with_array IDENT_LENGTH 0 2
call_row_of call.WriteArg = with_array IDENT_LENGTH 2 0
call_row_of call.Run = with_array IDENT_LENGTH 0 2

-- the row with this number, if there is one
abbrev pub call_row : ℕ → Option CallRow
call_row number = option_map call_row_of (procedure_at number)

abbrev pub values_of : ℕ → ℕ
values_of number = option_map_or (λ r. r.values) (call_row number) 0

abbrev pub results_of : ℕ → ℕ
results_of number = option_map_or (λ r. r.results) (call_row number) 0

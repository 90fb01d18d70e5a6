-- The code of calls: of routines, of standard functions, and of the interface.
use Rattle.std.specs.Prelude.{ℕ, List, [], ◌∷◌, ◌++◌}
use Rattle.solo_base.specs.declared.interface.Procedure.{Procedure}
use Rattle.solo_base.specs.declared.interface.Procedure.TheVariants as row
use Rattle.stack_code.specs.declared.table.Op.TheVariants as op
use Rattle.stack_code.specs.declared.instr.Instr.{Instr}
use Rattle.pascal_tree.specs.Expression.{Arguments, arguments, Exprs, no_expr, next_expr}
use Rattle.pascal_mean.specs.Means.{Standard, Abs, Succ, Pred, Ord, Chr}
use Rattle.pascal_mean.specs.Calls.{Passing, ByValue, ByVariable, ByArray, row_passing}
use Rattle.pascal_mean.specs.Expressions.{name_in}
use Rattle.pascal_code.specs.Instructions.{bare, with_a, call_with_array}
use Rattle.pascal_code.specs.Senses.{Sense, Constant, Variable, Array, Reference, Routine, Function, Interface, Nothing, Site}
use Rattle.pascal_code.specs.Names.{store_code, reference_code}

-- the number of a row
abbrev pub row_number : Procedure → ℕ
row_number row.Read = 0
row_number row.Write = 1
row_number row.WriteInt = 2
row_number row.Accept = 3
row_number row.Display = 4
row_number row.Open = 5
row_number row.Close = 6
row_number row.Get = 7
row_number row.Put = 8
row_number row.Length = 9
row_number row.Lookup = 10
row_number row.ReadArg = 11
row_number row.WriteArg = 12
row_number row.Run = 13

-- the instruction of a standard function; ORD changes nothing
abbrev pub standard_code : Standard → List Instr
standard_code Abs = bare op.Abs ∷ []
standard_code Succ = bare op.Succ ∷ []
standard_code Pred = bare op.Pred ∷ []
standard_code Ord = []
standard_code Chr = bare op.Chr ∷ []

-- ---- Arguments

-- how the arguments of what is called are passed
abbrev pub passing_of : Sense → List Passing
passing_of (Routine k passing) = passing
passing_of (Function f) = ByValue ∷ []
passing_of (Interface p) = row_passing p
passing_of (Constant v) = []
passing_of (Variable owner a) = []
passing_of (Array owner a bounds) = []
passing_of (Reference a) = []
passing_of Nothing = []

-- A variable that is passed to what is called: a routine gets a reference to it, and the interface sets it
-- behind the call.
abbrev pub variable_code : Sense → Sense → List Instr
variable_code (Routine k passing) given = reference_code given
variable_code (Interface p) given = []
variable_code (Constant v) given = []
variable_code (Variable owner a) given = []
variable_code (Array owner a bounds) given = []
variable_code (Reference a) given = []
variable_code (Function f) given = []
variable_code Nothing given = []

-- the code of an argument, with that of its value; of an array the name alone counts
abbrev pub passed_code : Sense → Passing → Sense → List Instr → List Instr
passed_code callee ByValue given value = value
passed_code callee ByVariable given value = variable_code callee given
passed_code callee ByArray given value = []

-- ---- Behind the arguments

-- what each argument is by its name
abbrev pub given_exprs : Site → Exprs → List Sense
given_exprs site no_expr = []
given_exprs site (next_expr comma e more) = site.names (name_in e) ∷ given_exprs site more

abbrev pub given_arguments : Site → Arguments → List Sense
given_arguments site (arguments opening e more closing) = site.names (name_in e) ∷ given_exprs site more

-- those that are passed as variables, and those that are arrays
abbrev pub variables_among : List Passing → List Sense → List Sense
variables_among [] given = []
variables_among (p ∷ others) [] = []
variables_among (ByValue ∷ others) (s ∷ given) = variables_among others given
variables_among (ByVariable ∷ others) (s ∷ given) = s ∷ variables_among others given
variables_among (ByArray ∷ others) (s ∷ given) = variables_among others given

abbrev pub arrays_among : List Passing → List Sense → List Sense
arrays_among [] given = []
arrays_among (p ∷ others) [] = []
arrays_among (ByValue ∷ others) (s ∷ given) = arrays_among others given
arrays_among (ByVariable ∷ others) (s ∷ given) = arrays_among others given
arrays_among (ByArray ∷ others) (s ∷ given) = s ∷ arrays_among others given

-- the call of a row with its array
abbrev pub array_call : Procedure → Sense → Instr
array_call p (Array owner a bounds) = call_with_array owner (row_number p) a
array_call p (Constant v) = with_a op.Sys (row_number p)
array_call p (Variable owner a) = with_a op.Sys (row_number p)
array_call p (Reference a) = with_a op.Sys (row_number p)
array_call p (Routine k passing) = with_a op.Sys (row_number p)
array_call p (Function f) = with_a op.Sys (row_number p)
array_call p (Interface q) = with_a op.Sys (row_number p)
array_call p Nothing = with_a op.Sys (row_number p)

-- the call of a row, which has at most one array
abbrev pub row_call : Procedure → List Sense → Instr
row_call p [] = with_a op.Sys (row_number p)
row_call p (s ∷ more) = array_call p s

-- variables are set from the last to the first
abbrev pub stores_code : ℕ → List Sense → List Instr
stores_code result [] = []
stores_code result (s ∷ later) = stores_code result later ++ store_code result s

-- the call, behind what was passed
abbrev pub call_code : ℕ → Sense → List Sense → List Instr
call_code result (Routine k passing) given = with_a op.Call k ∷ []
call_code result (Function f) given = standard_code f
call_code result (Interface p) given =
    let passing = row_passing p in
    row_call p (arrays_among passing given) ∷ stores_code result (variables_among passing given)
call_code result (Constant v) given = []
call_code result (Variable owner a) given = []
call_code result (Array owner a bounds) given = []
call_code result (Reference a) given = []
call_code result Nothing given = []

-- What the names of a program mean, and where each is declared.
use Rattle.std.specs.Prelude.{ℕ, ◌+◌, Bool, true, false, List, [], ◌∷◌, Option, Some, None, if◌then◌else◌, ℤ, pos, ◌-ℤ◌, unsigned_abs, bytes_eq, codes}
use Rattle.pascal_tree.specs.declared.scalar.Scalar.{Scalar}
use Rattle.pascal_tree.specs.declared.scalar.Scalar.TheVariants as scalar
use Rattle.pascal_tree.specs.declared.scalar.VariableType.{VariableType}
use Rattle.pascal_tree.specs.declared.scalar.VariableType.TheVariants as variable_type
use Rattle.pascal_tree.specs.declared.parameter.Parameter.{Parameter}
use Rattle.pascal_tree.specs.declared.parameter.Parameter.TheVariants as parameter
use Rattle.pascal_tree.specs.declared.means.Means.{Means}
use Rattle.pascal_tree.specs.declared.means.Means.TheVariants as means

pub record Declared : Type 0 where
  pub name : List ℕ
  pub means : Means

-- The declarations before a place, the latest first: those of the list in which it stands, those of
-- the program outside a routine, and the function in whose body it stands.
pub record Scope : Type 0 where
  pub own : List Declared
  pub outer : List Declared
  pub within : Option (List ℕ)

abbrev pub named_as : List ℕ → Means → Declared
named_as name means = record { name = name; means = means }

-- the latest declaration of a name in a list
abbrev pub found : List Declared → List ℕ → Option Means
found [] name = None
found (d ∷ earlier) name = if bytes_eq name d.name then Some d.means else found earlier name

abbrev pub or_else : {A : Type 0} → Option A → Option A → Option A
or_else None other = other
or_else (Some x) other = Some x

-- what the predeclared routines want: values, variables that are set, arrays
abbrev number : Parameter
number = parameter.Value scalar.Integer

abbrev letter : Parameter
letter = parameter.Value scalar.Character

abbrev to_number : Parameter
to_number = parameter.VariableOf scalar.Integer

abbrev to_letter : Parameter
to_letter = parameter.VariableOf scalar.Character

abbrev to_truth : Parameter
to_truth = parameter.VariableOf scalar.Boolean

abbrev file_name : Parameter
file_name = parameter.Characters 12

abbrev page : Parameter
page = parameter.Characters 512

-- what is declared before each program
abbrev pub predeclared : List Declared
predeclared =
    named_as (codes "INTEGER") (means.TypeName scalar.Integer)
    ∷ named_as (codes "BOOLEAN") (means.TypeName scalar.Boolean)
    ∷ named_as (codes "CHAR") (means.TypeName scalar.Character)
    ∷ named_as (codes "FALSE") (means.Constant scalar.Boolean (pos 0))
    ∷ named_as (codes "TRUE") (means.Constant scalar.Boolean (pos 1))
    ∷ named_as (codes "NL") (means.Constant scalar.Character (pos 10))
    ∷ named_as (codes "EM") (means.Constant scalar.Character (pos 25))
    ∷ named_as (codes "ABS") (means.Function (number ∷ []) scalar.Integer)
    ∷ named_as (codes "SUCC") (means.Function (number ∷ []) scalar.Integer)
    ∷ named_as (codes "PRED") (means.Function (number ∷ []) scalar.Integer)
    ∷ named_as (codes "ORD") (means.Function (letter ∷ []) scalar.Integer)
    ∷ named_as (codes "CHR") (means.Function (number ∷ []) scalar.Character)
    ∷ named_as (codes "READ") (means.Procedure (to_letter ∷ []))
    ∷ named_as (codes "WRITE") (means.Procedure (letter ∷ []))
    ∷ named_as (codes "WRITEINT") (means.Procedure (number ∷ []))
    ∷ named_as (codes "ACCEPT") (means.Procedure (to_letter ∷ []))
    ∷ named_as (codes "DISPLAY") (means.Procedure (letter ∷ []))
    ∷ named_as (codes "OPEN") (means.Procedure (number ∷ file_name ∷ to_truth ∷ []))
    ∷ named_as (codes "CLOSE") (means.Procedure (number ∷ []))
    ∷ named_as (codes "GET") (means.Procedure (number ∷ number ∷ page ∷ []))
    ∷ named_as (codes "PUT") (means.Procedure (number ∷ number ∷ page ∷ []))
    ∷ named_as (codes "LENGTH") (means.Function (number ∷ []) scalar.Integer)
    ∷ named_as (codes "LOOKUP") (means.Procedure (file_name ∷ to_number ∷ to_truth ∷ []))
    ∷ named_as (codes "READARG") (means.Procedure (to_number ∷ to_number ∷ file_name ∷ []))
    ∷ named_as (codes "WRITEARG") (means.Procedure (number ∷ number ∷ file_name ∷ []))
    ∷ named_as (codes "RUN") (means.Procedure (file_name ∷ to_number ∷ to_number ∷ []))
    ∷ []

-- A name means its latest declaration in its own list, or else in the program's, or else before any program.
abbrev pub means_of : Scope → List ℕ → Option Means
means_of scope name = or_else (found scope.own name) (or_else (found scope.outer name) (found predeclared name))

-- the scope behind one declaration more
abbrev pub declare : Scope → List ℕ → Means → Scope
declare scope name means = record scope { own = named_as name means ∷ scope.own }

-- whether two scalar types are one
abbrev pub same_scalar : Scalar → Scalar → Bool
same_scalar scalar.Integer scalar.Integer = true
same_scalar scalar.Boolean scalar.Boolean = true
same_scalar scalar.Character scalar.Character = true
same_scalar s t = false

-- whether a type is there and is this one
abbrev pub is_scalar : Option Scalar → Scalar → Bool
is_scalar None t = false
is_scalar (Some s) t = same_scalar s t

-- how many elements an array has between its bounds
abbrev pub elements : ℤ → ℤ → ℕ
elements low high = unsigned_abs (high -ℤ low) + 1

-- how many words of a frame a variable and a parameter take
abbrev pub words_of_type : VariableType → ℕ
words_of_type (variable_type.Plain s) = 1
words_of_type (variable_type.Array low high s) = elements low high

abbrev pub words_of_means : Means → ℕ
words_of_means (means.Constant s v) = 0
words_of_means (means.Variable t) = words_of_type t
words_of_means (means.Reference s) = 2
words_of_means (means.Procedure ps) = 0
words_of_means (means.Function ps s) = 0
words_of_means (means.TypeName s) = 0

abbrev pub words_of_list : List Declared → ℕ
words_of_list [] = 0
words_of_list (d ∷ earlier) = words_of_means d.means + words_of_list earlier

-- the word of a function's result
abbrev pub result_words : Option (List ℕ) → ℕ
result_words None = 0
result_words (Some name) = 1

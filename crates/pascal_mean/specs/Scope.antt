-- What the names at a place of a program mean, by the declarations before it.
use Rattle.std.specs.Prelude.{ℕ, List, [], ◌∷◌, Option, Some, None, ℤ, pos, neg_ℤ, bytes_eq, if◌then◌else◌}
use Rattle.pascal_tree.specs.declared.constant.Constant.{Constant}
use Rattle.pascal_tree.specs.declared.constant.Constant.TheVariants as constant
use Rattle.pascal_mean.specs.Means.{Means, Scalar, Integer, Char}
use Rattle.pascal_mean.specs.Means as meant
use Rattle.pascal_mean.specs.Predeclared.{Item, predeclared}

abbrev pub Scope : Type 0
Scope = List ℕ → Means

-- the latest declaration of a name in a list, whose latest item comes first
abbrev pub found : List Item → List ℕ → Option Means
found [] x = None
found (i ∷ earlier) x = if bytes_eq i.letters x then Some i.means else found earlier x

abbrev pub first_of_three : Option Means → Option Means → Option Means → Means
first_of_three (Some own) program outermost = own
first_of_three None (Some program) outermost = program
first_of_three None None (Some predeclared) = predeclared
first_of_three None None None = meant.Nothing

-- a name means its latest declaration in the routine's own list, else in the program's, else the
-- predeclared one
abbrev pub scope_of : List Item → List Item → Scope
scope_of own program x = first_of_three (found own x) (found program x) (found predeclared x)

-- ---- Constants and types

-- the number of a constant's name, and 0 for any other
abbrev pub number_named : Means → ℤ
number_named (meant.Constant t v) = v
number_named (meant.Variable owner t) = pos 0
number_named (meant.Array owner t bounds) = pos 0
number_named (meant.Reference t) = pos 0
number_named (meant.Routine k signature) = pos 0
number_named (meant.Function f) = pos 0
number_named (meant.Interface p) = pos 0
number_named (meant.TypeName t) = pos 0
number_named meant.Nothing = pos 0

-- what a constant of the program stands for
abbrev pub constant_number : Scope → Constant → ℤ
constant_number scope (constant.Name n) = number_named (scope n.letters)
constant_number scope (constant.Number n) = pos n.value
constant_number scope (constant.Negative line n) = neg_ℤ (pos n.value)
constant_number scope (constant.Character c) = pos c.code

-- the type of a constant's name or of a type's, and INTEGER for any other
abbrev pub scalar_named : Means → Scalar
scalar_named (meant.Constant t v) = t
scalar_named (meant.TypeName t) = t
scalar_named (meant.Variable owner t) = Integer
scalar_named (meant.Array owner t bounds) = Integer
scalar_named (meant.Reference t) = Integer
scalar_named (meant.Routine k signature) = Integer
scalar_named (meant.Function f) = Integer
scalar_named (meant.Interface p) = Integer
scalar_named meant.Nothing = Integer

abbrev pub constant_scalar : Scope → Constant → Scalar
constant_scalar scope (constant.Name n) = scalar_named (scope n.letters)
constant_scalar scope (constant.Number n) = Integer
constant_scalar scope (constant.Negative line n) = Integer
constant_scalar scope (constant.Character c) = Char

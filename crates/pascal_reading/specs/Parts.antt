-- The part of a tree that each want of a reader stands for.
use Rattle.std.specs.Prelude.{ℕ, List, [], ◌∷◌, ◌++◌, Option}
use Rattle.pascal_tree.specs.Word.{NameAt, NumberAt}
use Rattle.pascal_tree.specs.Expression.{Expr, Simple, Addends, Term, Multipliers, Factor, Exprs}
use Rattle.pascal_tree.specs.Statement.{Statement, Statements, Body, Branches}
use Rattle.pascal_tree.specs.Program.{Consts, Group, Vars, ParameterGroup, Parameters, Routine}
use Rattle.pascal_tree.specs.declared.constant.Constant.{Constant}
use Rattle.pascal_tree.specs.declared.statement.Direction.{Direction}
use Rattle.pascal_tree.specs.declared.declaration.Definition.{Definition}
use Rattle.pascal_tree.specs.declared.declaration.Kind.{Kind}
use Rattle.pascal_tree.specs.declared.declaration.Heading.{Heading}
use Rattle.pascal_read.specs.ParseWants.{Want}
use Rattle.pascal_read.specs.ParseWants as want

-- A reserved word, a symbol and the end token are a line. What stands behind something that was read, as a
-- relation behind a simple expression, makes a part of that.
abbrev pub PartOf : Want → Type 0
PartOf (want.reserved_word r) = ℕ
PartOf (want.mark s) = ℕ
PartOf want.name = NameAt
PartOf want.number = NumberAt
PartOf want.end = ℕ
PartOf (want.expr n) = Expr
PartOf (want.relation n) = Simple → Expr
PartOf (want.simple n) = Simple
PartOf (want.addends n) = Addends
PartOf (want.term n) = Term
PartOf (want.multipliers n) = Multipliers
PartOf (want.factor n) = Factor
PartOf (want.behind_name n) = NameAt → Factor
PartOf (want.more_exprs n) = Exprs
PartOf (want.statement n) = Statement
PartOf want.behind_first_name = NameAt → Statement
PartOf (want.otherwise n) = Option (ℕ × Statement)
PartOf (want.more_statements n) = Statements
PartOf (want.more_branches n) = Branches
PartOf want.more_labels = List (ℕ × Constant)
PartOf want.direction = Direction × ℕ
PartOf want.body = Body
PartOf want.heading = Option Heading
PartOf want.constant = Constant
PartOf want.consts = Option Consts
PartOf want.definition = Definition
PartOf want.more_definitions = List Definition
PartOf want.kind = Kind
PartOf want.vars = Option Vars
PartOf want.group = Group
PartOf want.more_groups = List Group
PartOf want.more_names = List (ℕ × NameAt)
PartOf want.parameters = Option Parameters
PartOf want.parameter_group = ParameterGroup
PartOf want.more_parameters = List (ℕ × ParameterGroup)
PartOf want.routines = List Routine

-- the parts of all that is wanted, in its order: `r.0`, `r.1.0`, `r.1.1.0` ..
abbrev pub PartsOf : List Want → Type 0
PartsOf [] = Unit {0}
PartsOf (x ∷ rest) = PartOf x × PartsOf rest

-- those of the first of two lists of wants, and those of the second
abbrev pub first_parts : (xs ys : List Want) → PartsOf (xs ++ ys) → PartsOf xs
first_parts [] ys r = tt
first_parts (x ∷ xs) ys r = (r.0, first_parts xs ys r.1)

abbrev pub later_parts : (xs ys : List Want) → PartsOf (xs ++ ys) → PartsOf ys
later_parts [] ys r = r
later_parts (x ∷ xs) ys r = later_parts xs ys r.1

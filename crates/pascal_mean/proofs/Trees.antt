-- Short forms for the trees of examples, whose words all stand on one line where no other is named.
use Rattle.std.proofs.Common.{ℕ, List, [], ◌∷◌, Option, Some, None}
use Rattle.std.specs.Prelude.{map, codes}
use Rattle.pascal_tree.specs.Word.{NameAt}
use Rattle.pascal_tree.specs.declared.constant.Constant.{Constant}
use Rattle.pascal_tree.specs.declared.constant.Constant.TheVariants as constant
use Rattle.pascal_tree.specs.declared.declaration.Kind.{Kind}
use Rattle.pascal_tree.specs.declared.declaration.Kind.TheVariants as kind
use Rattle.pascal_tree.specs.declared.expression.Adding.{Adding}
use Rattle.pascal_tree.specs.declared.expression.Multiplying.{Multiplying}
use Rattle.pascal_tree.specs.declared.expression.Relation.{Relation}
use Rattle.pascal_tree.specs.Expression.{Expr, alone, compared, simple, no_addend, addend, term, no_multiplier, multiplier, Factor, number, character, named, element, called, group, index, Arguments, arguments, Exprs, no_expr, next_expr}
use Rattle.pascal_tree.specs.Statement.{Labels, Statement, empty, assign, call, Body, body, Sequence, sequence, Statements, no_statement, next_statement}
use Rattle.pascal_tree.specs.Program.{Names, Group, Vars, ParameterGroup, Parameters, Block, Routine, procedure, function, Program}

abbrev pub at : ℕ → List ℕ → NameAt
at line x = record { letters = x; line = line }

-- ---- Factors and expressions

abbrev pub num : ℕ → Factor
num n = number (record { value = n; line = 1 })

abbrev pub char : ℕ → Factor
char n = character (record { code = n; line = 1 })

abbrev pub name : List ℕ → Factor
name x = named (at 1 x)

abbrev pub only : Factor → Expr
only f = alone (simple None (term f no_multiplier) no_addend)

abbrev pub in_parentheses : Expr → Factor
in_parentheses e = group 1 e 1

abbrev pub adds : Factor → Adding → Factor → Expr
adds f a g = alone (simple None (term f no_multiplier) (addend a 1 (term g no_multiplier) no_addend))

abbrev pub multiplies : Factor → Multiplying → Factor → Expr
multiplies f m g = alone (simple None (term f (multiplier m 1 g no_multiplier)) no_addend)

abbrev pub compares : Factor → Relation → Factor → Expr
compares f r g =
    compared (simple None (term f no_multiplier) no_addend) r 1 (simple None (term g no_multiplier) no_addend)

abbrev exprs : List Expr → Exprs
exprs [] = no_expr
exprs (e ∷ more) = next_expr 1 e (exprs more)

abbrev pub given : Expr → List Expr → Arguments
given e more = arguments 1 e (exprs more) 1

abbrev pub apply : List ℕ → Expr → List Expr → Factor
apply x e more = called (at 1 x) (given e more)

abbrev pub item : List ℕ → Expr → Factor
item x e = element (at 1 x) (index 1 e 1)

-- ---- Statements

abbrev later : List Statement → Statements
later [] = no_statement
later (s ∷ more) = next_statement 1 s (later more)

abbrev pub all_of : Statement → List Statement → Sequence
all_of s more = sequence s (later more)

abbrev pub block_body : List Statement → Body
block_body [] = body 1 (sequence empty no_statement) 1
block_body (s ∷ more) = body 1 (all_of s more) 1

abbrev pub set : ℕ → List ℕ → Expr → Statement
set line x e = assign (at line x) None 1 e

abbrev pub set_item : ℕ → List ℕ → Expr → Expr → Statement
set_item line x i e = assign (at line x) (Some (index 1 i 1)) 1 e

abbrev pub do_call : ℕ → List ℕ → List Expr → Statement
do_call line x [] = call (at line x) None
do_call line x (e ∷ more) = call (at line x) (Some (given e more))

abbrev pub print : ℕ → Expr → Statement
print line e = do_call line (codes "WRITEINT") (e ∷ [])

abbrev pub label : ℕ → Constant
label n = constant.Number (record { value = n; line = 1 })

abbrev pub labels : ℕ → List ℕ → Labels
labels n more = record { first = label n; rest = map (λ m. (1, label m)) more }

-- ---- Declarations

abbrev pub names : List ℕ → List (List ℕ) → Names
names x more = record { first = at 1 x; rest = map (λ y. (1, at 1 y)) more }

abbrev pub integer : Kind
integer = kind.Name (at 1 (codes "INTEGER"))

abbrev pub array : ℕ → ℕ → Kind
array low high = kind.Array 1 1 (label low) 1 (label high) 1 1 (at 1 (codes "INTEGER"))

abbrev pub of_kind : List ℕ → List (List ℕ) → Kind → Group
of_kind x more k = record { names = names x more; colon = 1; kind = k; semicolon = 1 }

abbrev pub vars : List Group → Option Vars
vars [] = None
vars (g ∷ more) = Some (record { line = 1; first = g; rest = more })

abbrev pub by_value : List ℕ → ParameterGroup
by_value x = record { var = None; names = names x []; colon = 1; kind = at 1 (codes "INTEGER") }

abbrev pub by_name : List ℕ → List (List ℕ) → ParameterGroup
by_name x more = record { var = Some 1; names = names x more; colon = 1; kind = at 1 (codes "INTEGER") }

abbrev parameters : List ParameterGroup → Option Parameters
parameters [] = None
parameters (g ∷ more) = Some (record { opening = 1; first = g; rest = map (λ h. (1, h)) more; closing = 1 })

abbrev block : List Group → List Statement → Block
block groups statements = record { consts = None; vars = vars groups; body = block_body statements }

abbrev pub a_procedure : List ℕ → List ParameterGroup → List Group → List Statement → Routine
a_procedure x groups own statements = procedure 1 (at 1 x) (parameters groups) 1 (block own statements) 1

abbrev pub a_function : List ℕ → List ParameterGroup → List Group → List Statement → Routine
a_function x groups own statements =
    function 1 (at 1 x) (parameters groups) 1 (at 1 (codes "INTEGER")) 1 (block own statements) 1

abbrev pub a_program : List Group → List Routine → List Statement → Program
a_program groups routines statements = record {
  heading = None;
  consts = None;
  vars = vars groups;
  routines = routines;
  body = block_body statements;
  period = 1;
  end = 2;
}

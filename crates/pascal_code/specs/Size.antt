-- How many instructions the code of a program has, counted over its tree.
use Rattle.std.specs.Prelude.{ℕ, ◌+◌, ◌*◌, List, [], ◌∷◌, length, Option, Some, None}
use Rattle.pascal_tree.specs.Word.{NameAt}
use Rattle.pascal_tree.specs.declared.expression.Sign.{Sign}
use Rattle.pascal_tree.specs.declared.expression.Sign.TheVariants as sign
use Rattle.pascal_tree.specs.Expression.{Expr, alone, compared, Simple, simple, Addends, no_addend, addend, Term, term, Multipliers, no_multiplier, multiplier, Factor, number, character, named, element, called, group, negated, Index, index, Arguments, arguments, Exprs, no_expr, next_expr}
use Rattle.pascal_tree.specs.Statement.{Labels, Statement, empty, assign, call, compound, if_then, if_else, while_do, repeat_until, for_do, case_of, Body, body, Sequence, sequence, Statements, no_statement, next_statement, Branch, branch, Branches, no_branch, next_branch}
use Rattle.pascal_tree.specs.Program.{Program}
use Rattle.pascal_mean.specs.Means.{Means, Standard, Abs, Succ, Pred, Ord, Chr}
use Rattle.pascal_mean.specs.Means as meant
use Rattle.pascal_mean.specs.Scope.{Scope}
use Rattle.pascal_mean.specs.Calls.{Passing, ByValue, ByVariable, ByArray, passing_named}
use Rattle.pascal_mean.specs.Expressions.{name_in}
use Rattle.pascal_mean.specs.Declarations.{Declared, all_declared}

-- ---- Names

-- a name as a factor
abbrev pub name_size : Means → ℕ
name_size (meant.Constant t v) = 1
name_size (meant.Variable owner t) = 1
name_size (meant.Reference t) = 1
name_size (meant.Routine k signature) = 1
name_size (meant.Array owner t bounds) = 0
name_size (meant.Function f) = 0
name_size (meant.Interface p) = 0
name_size (meant.TypeName t) = 0
name_size meant.Nothing = 0

-- a name that is set
abbrev pub store_size : Means → ℕ
store_size (meant.Variable owner t) = 1
store_size (meant.Reference t) = 1
store_size (meant.Routine k signature) = 1
store_size (meant.Constant t v) = 0
store_size (meant.Array owner t bounds) = 0
store_size (meant.Function f) = 0
store_size (meant.Interface p) = 0
store_size (meant.TypeName t) = 0
store_size meant.Nothing = 0

-- a variable that is passed on: a VAR parameter has two words
abbrev pub reference_size : Means → ℕ
reference_size (meant.Variable owner t) = 1
reference_size (meant.Reference t) = 2
reference_size (meant.Constant t v) = 0
reference_size (meant.Array owner t bounds) = 0
reference_size (meant.Routine k signature) = 0
reference_size (meant.Function f) = 0
reference_size (meant.Interface p) = 0
reference_size (meant.TypeName t) = 0
reference_size meant.Nothing = 0

-- an instruction that only an array has: the test of an index, a load or a store of an element
abbrev pub array_size : Means → ℕ
array_size (meant.Array owner t bounds) = 1
array_size (meant.Constant t v) = 0
array_size (meant.Variable owner t) = 0
array_size (meant.Reference t) = 0
array_size (meant.Routine k signature) = 0
array_size (meant.Function f) = 0
array_size (meant.Interface p) = 0
array_size (meant.TypeName t) = 0
array_size meant.Nothing = 0

-- ---- Calls

-- a variable that is passed to what is called
abbrev pub variable_size : Means → Means → ℕ
variable_size (meant.Routine k signature) means = reference_size means
variable_size (meant.Interface p) means = 0
variable_size (meant.Constant t v) means = 0
variable_size (meant.Variable owner t) means = 0
variable_size (meant.Array owner t bounds) means = 0
variable_size (meant.Reference t) means = 0
variable_size (meant.Function f) means = 0
variable_size (meant.TypeName t) means = 0
variable_size meant.Nothing means = 0

-- an argument, whose value takes so many
abbrev pub passed_size : Means → Passing → Means → ℕ → ℕ
passed_size callee ByValue means value = value
passed_size callee ByVariable means value = variable_size callee means
passed_size callee ByArray means value = 0

-- the variables that the interface sets
abbrev pub set_size : Scope → List Passing → Exprs → ℕ
set_size scope passing no_expr = 0
set_size scope [] (next_expr comma e more) = 0
set_size scope (ByValue ∷ others) (next_expr comma e more) = set_size scope others more
set_size scope (ByVariable ∷ others) (next_expr comma e more) =
    store_size (scope (name_in e)) + set_size scope others more
set_size scope (ByArray ∷ others) (next_expr comma e more) = set_size scope others more

abbrev pub standard_size : Standard → ℕ
standard_size Abs = 1
standard_size Succ = 1
standard_size Pred = 1
standard_size Ord = 0
standard_size Chr = 1

-- a call behind its arguments, where the interface then sets so many
abbrev pub call_size : Means → ℕ → ℕ
call_size (meant.Routine k signature) sets = 1
call_size (meant.Function f) sets = standard_size f
call_size (meant.Interface p) sets = sets + 1
call_size (meant.Constant t v) sets = 0
call_size (meant.Variable owner t) sets = 0
call_size (meant.Array owner t bounds) sets = 0
call_size (meant.Reference t) sets = 0
call_size (meant.TypeName t) sets = 0
call_size meant.Nothing sets = 0

-- the arguments of a call as later ones behind a comma
abbrev pub exprs_of : Arguments → Exprs
exprs_of (arguments opening e more closing) = next_expr opening e more

-- ---- Expressions

abbrev pub sign_size : Option (Sign × ℕ) → ℕ
sign_size None = 0
sign_size (Some (sign.Plus, line)) = 0
sign_size (Some (sign.Minus, line)) = 1

abbrev mutual
  pub expr_size : Scope → Expr → ℕ
  expr_size scope (alone s) = simple_size scope s
  expr_size scope (compared s r line t) = simple_size scope s + simple_size scope t + 1

  pub simple_size : Scope → Simple → ℕ
  simple_size scope (simple sign t more) = term_size scope t + sign_size sign + addends_size scope more

  pub addends_size : Scope → Addends → ℕ
  addends_size scope no_addend = 0
  addends_size scope (addend a line t more) = term_size scope t + 1 + addends_size scope more

  pub term_size : Scope → Term → ℕ
  term_size scope (term f more) = factor_size scope f + multipliers_size scope more

  pub multipliers_size : Scope → Multipliers → ℕ
  multipliers_size scope no_multiplier = 0
  multipliers_size scope (multiplier m line f more) = factor_size scope f + 1 + multipliers_size scope more

  pub factor_size : Scope → Factor → ℕ
  factor_size scope (number n) = 1
  factor_size scope (character x) = 1
  factor_size scope (named x) = name_size (scope x.letters)
  factor_size scope (element x i) = index_size scope (scope x.letters) i + array_size (scope x.letters)
  factor_size scope (called x a) =
      let means = scope x.letters in
      let passing = passing_named means in
      arguments_size scope means passing a + call_size means (set_size scope passing (exprs_of a))
  factor_size scope (group opening e closing) = expr_size scope e
  factor_size scope (negated line f) = factor_size scope f + 1

  pub index_size : Scope → Means → Index → ℕ
  index_size scope means (index opening e closing) = expr_size scope e + array_size means

  pub arguments_size : Scope → Means → List Passing → Arguments → ℕ
  arguments_size scope means [] (arguments opening e more closing) = 0
  arguments_size scope means (p ∷ others) (arguments opening e more closing) =
      passed_size means p (scope (name_in e)) (expr_size scope e) + exprs_size scope means others more

  pub exprs_size : Scope → Means → List Passing → Exprs → ℕ
  exprs_size scope means passing no_expr = 0
  exprs_size scope means [] (next_expr comma e more) = 0
  exprs_size scope means (p ∷ others) (next_expr comma e more) =
      passed_size means p (scope (name_in e)) (expr_size scope e) + exprs_size scope means others more

-- ---- Statements

abbrev pub call_statement_size : Scope → NameAt → Option Arguments → ℕ
call_statement_size scope x None = call_size (scope x.letters) 0
call_statement_size scope x (Some a) =
    let means = scope x.letters in
    let passing = passing_named means in
    arguments_size scope means passing a + call_size means (set_size scope passing (exprs_of a))

-- four for each label
abbrev pub labels_size : Labels → ℕ
labels_size labels = 4 * (length labels.rest + 1)

abbrev mutual
  pub statement_size : Scope → Statement → ℕ
  statement_size scope empty = 0
  statement_size scope (assign x None becomes e) = expr_size scope e + store_size (scope x.letters) + 1
  statement_size scope (assign x (Some i) becomes e) =
      let means = scope x.letters in
      index_size scope means i + expr_size scope e + array_size means + 1
  statement_size scope (call x a) = call_statement_size scope x a + 1
  statement_size scope (compound b) = body_size scope b
  statement_size scope (if_then line e then_line s) = expr_size scope e + statement_size scope s + 2
  statement_size scope (if_else line e then_line s else_line t) =
      expr_size scope e + statement_size scope s + statement_size scope t + 3
  statement_size scope (while_do line e do_line s) = expr_size scope e + statement_size scope s + 4
  statement_size scope (repeat_until line s until_line e) = expr_size scope e + sequence_size scope s + 6
  statement_size scope (for_do line x becomes from way way_line to do_line s) =
      expr_size scope from + expr_size scope to + store_size (scope x.letters) + statement_size scope s + 17
  statement_size scope (case_of line e of_line b more end_line) =
      expr_size scope e + branch_size scope b + branches_size scope more + 2

  pub body_size : Scope → Body → ℕ
  body_size scope (body begin s end) = sequence_size scope s

  pub sequence_size : Scope → Sequence → ℕ
  sequence_size scope (sequence s more) = statement_size scope s + statements_size scope more

  pub statements_size : Scope → Statements → ℕ
  statements_size scope no_statement = 0
  statements_size scope (next_statement line s more) = statement_size scope s + statements_size scope more

  pub branch_size : Scope → Branch → ℕ
  branch_size scope (branch labels colon s) = labels_size labels + statement_size scope s + 2

  -- the end, where no branch has the value, takes three
  pub branches_size : Scope → Branches → ℕ
  branches_size scope no_branch = 3
  branches_size scope (next_branch line b more) = branch_size scope b + branches_size scope more

-- ---- The program

-- each routine ends in one instruction
abbrev pub routines_size : List Declared → ℕ
routines_size [] = 0
routines_size (r ∷ more) = body_size r.scope r.body + 1 + routines_size more

-- The number of instructions: `BEGIN END.` has one.
unfoldable pub size : Program → ℕ
size p = routines_size (all_declared p)

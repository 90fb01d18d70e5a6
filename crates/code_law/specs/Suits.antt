-- What a program that breaks no static rule has at each name, expression and statement, as far as its code
-- asks.
use Rattle.std.specs.Prelude.{◌≡◌, ℕ, ◌+◌, ◌<◌, ◌≤◌, Bool, true, false, List, [], ◌∷◌, map, Option, Some, None, ℤ}
use Rattle.std.specs.Int.{w16, cast_signed}
use Rattle.solo_base.specs.declared.interface.Procedure.{Procedure}
use Rattle.solo_base.specs.Interface.{call_row_of}
use Rattle.pascal_tree.specs.declared.constant.Constant.{Constant}
use Rattle.pascal_tree.specs.Word.{NameAt}
use Rattle.pascal_tree.specs.Expression.{Expr, alone, compared, Simple, simple, Addends, no_addend, addend, Term, term, Multipliers, no_multiplier, multiplier, Factor, number, character, named, element, called, group, negated, Index, index, Arguments, arguments, Exprs, no_expr, next_expr}
use Rattle.pascal_tree.specs.Statement.{Labels, Statement, empty, assign, call, compound, if_then, if_else, while_do, repeat_until, for_do, case_of, Body, body, Sequence, sequence, Statements, no_statement, next_statement, Branch, branch, Branches, no_branch, next_branch}
use Rattle.pascal_mean.specs.Means.{Bounds, Parameter}
use Rattle.pascal_mean.specs.Variables.{size_of}
use Rattle.pascal_mean.specs.Calls.{Passing, ByValue, ByVariable, ByArray, row_passing}
use Rattle.pascal_mean.specs.Calls as mean
use Rattle.pascal_mean.specs.Expressions.{name_in}
use Rattle.pascal_code.specs.Instructions.{operand}
use Rattle.pascal_code.specs.Senses.{Sense, Constant as IsConstant, Variable, Array, Reference, Routine, Function, Interface, Nothing, constant_value}
use Rattle.pascal_code.specs.Calls.{passing_of}

-- the routines by their numbers, from 1: their parameters, and which are functions
pub record Routines : Type 0 where
  pub count : ℕ
  pub parameters : ℕ → List Parameter
  pub gives : ℕ → Bool

pub record IsRoutineOf (rs : Routines) (k : ℕ) (passing : List Passing) (gives : Bool) : Type 0 where
  pub some : 1 ≤ k
  pub low : k < rs.count
  pub passing_is : passing ≡ map mean.passing_of (rs.parameters k)
  pub gives_is : rs.gives k ≡ gives

-- ---- Names

-- a number that an operand holds
abbrev pub IsHeld : ℤ → Type 0
IsHeld v = cast_signed w16 (operand v) ≡ v

abbrev pub HasBounds : Bounds → Type 0
HasBounds b = IsHeld b.low × IsHeld b.high

-- a factor that is a name alone
abbrev pub CanLoad : Routines → Sense → Type 0
CanLoad rs (IsConstant v) = IsHeld v
CanLoad rs (Variable o a) = Unit {0}
CanLoad rs (Reference a) = Unit {0}
CanLoad rs (Routine k passing) = IsRoutineOf rs k passing true × (passing ≡ [])
CanLoad rs (Array o a b) = ⊥
CanLoad rs (Function f) = ⊥
CanLoad rs (Interface p) = ⊥
CanLoad rs Nothing = ⊥

-- a name that is indexed
abbrev pub CanIndex : Sense → Type 0
CanIndex (Array o a b) = HasBounds b
CanIndex (IsConstant v) = ⊥
CanIndex (Variable o a) = ⊥
CanIndex (Reference a) = ⊥
CanIndex (Routine k passing) = ⊥
CanIndex (Function f) = ⊥
CanIndex (Interface p) = ⊥
CanIndex Nothing = ⊥

-- a name that is set, where a routine is the function itself
abbrev pub CanStore : Bool → Sense → Type 0
CanStore in_function (Variable o a) = Unit {0}
CanStore in_function (Reference a) = Unit {0}
CanStore in_function (Routine k passing) = in_function ≡ true
CanStore in_function (IsConstant v) = ⊥
CanStore in_function (Array o a b) = ⊥
CanStore in_function (Function f) = ⊥
CanStore in_function (Interface p) = ⊥
CanStore in_function Nothing = ⊥

-- a scalar variable, or a VAR parameter
abbrev pub IsScalar : Sense → Type 0
IsScalar (Variable o a) = Unit {0}
IsScalar (Reference a) = Unit {0}
IsScalar (IsConstant v) = ⊥
IsScalar (Array o a b) = ⊥
IsScalar (Routine k passing) = ⊥
IsScalar (Function f) = ⊥
IsScalar (Interface p) = ⊥
IsScalar Nothing = ⊥

-- an array of so many elements
abbrev pub IsArrayOf : ℕ → Sense → Type 0
IsArrayOf size (Array o a b) = size_of b ≡ size
IsArrayOf size (IsConstant v) = ⊥
IsArrayOf size (Variable o a) = ⊥
IsArrayOf size (Reference a) = ⊥
IsArrayOf size (Routine k passing) = ⊥
IsArrayOf size (Function f) = ⊥
IsArrayOf size (Interface p) = ⊥
IsArrayOf size Nothing = ⊥

-- ---- Calls

abbrev pub variable_count : List Passing → ℕ
variable_count [] = 0
variable_count (ByValue ∷ more) = variable_count more
variable_count (ByVariable ∷ more) = variable_count more + 1
variable_count (ByArray ∷ more) = variable_count more

-- a row gives one result and sets no variable, or its variables take all results
abbrev pub RowGives : Procedure → Bool → Type 0
RowGives p true = ((call_row_of p).results ≡ 1) × (variable_count (row_passing p) ≡ 0)
RowGives p false = (call_row_of p).results ≡ variable_count (row_passing p)

-- what is called in an expression gives a value, and elsewhere none
abbrev pub CanCall : Routines → Bool → Sense → Type 0
CanCall rs gives (Routine k passing) = IsRoutineOf rs k passing gives
CanCall rs gives (Function f) = gives ≡ true
CanCall rs gives (Interface p) = RowGives p gives
CanCall rs gives (IsConstant v) = ⊥
CanCall rs gives (Variable o a) = ⊥
CanCall rs gives (Array o a b) = ⊥
CanCall rs gives (Reference a) = ⊥
CanCall rs gives Nothing = ⊥

-- the elements of the array that a row takes
abbrev pub array_size : Sense → ℕ
array_size (Interface p) = (call_row_of p).array
array_size (Routine k passing) = 0
array_size (Function f) = 0
array_size (IsConstant v) = 0
array_size (Variable o a) = 0
array_size (Array o a b) = 0
array_size (Reference a) = 0
array_size Nothing = 0

-- what takes variables, and arrays
abbrev pub TakesVariables : Sense → Type 0
TakesVariables (Routine k passing) = Unit {0}
TakesVariables (Interface p) = Unit {0}
TakesVariables (Function f) = ⊥
TakesVariables (IsConstant v) = ⊥
TakesVariables (Variable o a) = ⊥
TakesVariables (Array o a b) = ⊥
TakesVariables (Reference a) = ⊥
TakesVariables Nothing = ⊥

abbrev pub TakesArrays : Sense → Type 0
TakesArrays (Interface p) = Unit {0}
TakesArrays (Routine k passing) = ⊥
TakesArrays (Function f) = ⊥
TakesArrays (IsConstant v) = ⊥
TakesArrays (Variable o a) = ⊥
TakesArrays (Array o a b) = ⊥
TakesArrays (Reference a) = ⊥
TakesArrays Nothing = ⊥

-- an argument, with what suits its value
abbrev pub CanPass : Sense → Passing → Sense → Type 0 → Type 0
CanPass callee ByValue given value = value
CanPass callee ByVariable given value = TakesVariables callee × IsScalar given
CanPass callee ByArray given value = TakesArrays callee × IsArrayOf (array_size callee) given

-- ---- Expressions

module _ (rs : Routines) (names : List ℕ → Sense) where
  abbrev mutual
    pub SuitsExpr : Expr → Type 0
    SuitsExpr (alone s) = SuitsSimple s
    SuitsExpr (compared s r line t) = SuitsSimple s × SuitsSimple t

    pub SuitsSimple : Simple → Type 0
    SuitsSimple (simple sign t more) = SuitsTerm t × SuitsAddends more

    pub SuitsAddends : Addends → Type 0
    SuitsAddends no_addend = Unit {0}
    SuitsAddends (addend a line t more) = SuitsTerm t × SuitsAddends more

    pub SuitsTerm : Term → Type 0
    SuitsTerm (term f more) = SuitsFactor f × SuitsMultipliers more

    pub SuitsMultipliers : Multipliers → Type 0
    SuitsMultipliers no_multiplier = Unit {0}
    SuitsMultipliers (multiplier m line f more) = SuitsFactor f × SuitsMultipliers more

    pub SuitsFactor : Factor → Type 0
    SuitsFactor (number n) = n.value ≤ 32767
    SuitsFactor (character x) = x.code ≤ 32767
    SuitsFactor (named x) = CanLoad rs (names x.letters)
    SuitsFactor (element x i) = CanIndex (names x.letters) × SuitsIndex i
    SuitsFactor (called x a) =
        CanCall rs true (names x.letters)
        × SuitsArguments (names x.letters) (passing_of (names x.letters)) a
    SuitsFactor (group opening e closing) = SuitsExpr e
    SuitsFactor (negated line f) = SuitsFactor f

    pub SuitsIndex : Index → Type 0
    SuitsIndex (index opening e closing) = SuitsExpr e

    -- as many arguments as are passed
    pub SuitsArguments : Sense → List Passing → Arguments → Type 0
    SuitsArguments callee [] (arguments opening e more closing) = ⊥
    SuitsArguments callee (p ∷ others) (arguments opening e more closing) =
        CanPass callee p (names (name_in e)) (SuitsExpr e) × SuitsExprs callee others more

    pub SuitsExprs : Sense → List Passing → Exprs → Type 0
    SuitsExprs callee [] no_expr = Unit {0}
    SuitsExprs callee (p ∷ others) no_expr = ⊥
    SuitsExprs callee [] (next_expr comma e more) = ⊥
    SuitsExprs callee (p ∷ others) (next_expr comma e more) =
        CanPass callee p (names (name_in e)) (SuitsExpr e) × SuitsExprs callee others more

  -- ---- Statements

  -- a call without arguments
  abbrev pub SuitsAlone : Sense → Type 0
  SuitsAlone callee = CanCall rs false callee × (passing_of callee ≡ [])

  abbrev pub SuitsCall : NameAt → Option Arguments → Type 0
  SuitsCall x None = SuitsAlone (names x.letters)
  SuitsCall x (Some a) =
      CanCall rs false (names x.letters) × SuitsArguments (names x.letters) (passing_of (names x.letters)) a

  abbrev pub AreHeld : List (ℕ × Constant) → Type 0
  AreHeld [] = Unit {0}
  AreHeld (l ∷ more) = IsHeld (constant_value names l.1) × AreHeld more

  abbrev pub SuitsLabels : Labels → Type 0
  SuitsLabels labels = IsHeld (constant_value names labels.first) × AreHeld labels.rest

  abbrev mutual
    pub SuitsStatement : Bool → Statement → Type 0
    SuitsStatement inside empty = Unit {0}
    SuitsStatement inside (assign x None becomes e) = CanStore inside (names x.letters) × SuitsExpr e
    SuitsStatement inside (assign x (Some i) becomes e) =
        CanIndex (names x.letters) × SuitsIndex i × SuitsExpr e
    SuitsStatement inside (call x a) = SuitsCall x a
    SuitsStatement inside (compound b) = SuitsBody inside b
    SuitsStatement inside (if_then line e then_line s) = SuitsExpr e × SuitsStatement inside s
    SuitsStatement inside (if_else line e then_line s else_line t) =
        SuitsExpr e × SuitsStatement inside s × SuitsStatement inside t
    SuitsStatement inside (while_do line e do_line s) = SuitsExpr e × SuitsStatement inside s
    SuitsStatement inside (repeat_until line s until_line e) = SuitsExpr e × SuitsSequence inside s
    SuitsStatement inside (for_do line x becomes from way way_line to do_line s) =
        IsScalar (names x.letters) × SuitsExpr from × SuitsExpr to × SuitsStatement inside s
    SuitsStatement inside (case_of line e of_line b more end_line) =
        SuitsExpr e × SuitsBranch inside b × SuitsBranches inside more

    pub SuitsBody : Bool → Body → Type 0
    SuitsBody inside (body begin s end) = SuitsSequence inside s

    pub SuitsSequence : Bool → Sequence → Type 0
    SuitsSequence inside (sequence s more) = SuitsStatement inside s × SuitsStatements inside more

    pub SuitsStatements : Bool → Statements → Type 0
    SuitsStatements inside no_statement = Unit {0}
    SuitsStatements inside (next_statement line s more) =
        SuitsStatement inside s × SuitsStatements inside more

    pub SuitsBranch : Bool → Branch → Type 0
    SuitsBranch inside (branch labels colon s) = SuitsLabels labels × SuitsStatement inside s

    pub SuitsBranches : Bool → Branches → Type 0
    SuitsBranches inside no_branch = Unit {0}
    SuitsBranches inside (next_branch line b more) = SuitsBranch inside b × SuitsBranches inside more

-- What the static rules say of expressions.
use Rattle.std.specs.Prelude.{ℕ, ◌+◌, Bool, true, false, not, ◌&&◌, ◌||◌, ◌==◌, List, [], ◌∷◌, ◌++◌, length, Option, Some, None, is_some, if◌then◌else◌}
use Rattle.pascal_tree.specs.Word.{NameAt}
use Rattle.pascal_tree.specs.Expression.{Expr, alone, compared, Simple, simple, Addends, no_addend, addend, Term, term, Multipliers, no_multiplier, multiplier, Factor, number, character, named, element, called, group, negated, Index, index, Arguments, arguments, Exprs, no_expr, next_expr}
use Rattle.pascal_tree.specs.Scopes.{Scope, means_of, same_scalar, is_scalar, elements}
use Rattle.pascal_tree.specs.declared.broken.Broken.{Broken}
use Rattle.pascal_tree.specs.declared.scalar.Scalar.{Scalar}
use Rattle.pascal_tree.specs.declared.scalar.Scalar.TheVariants as scalar
use Rattle.pascal_tree.specs.declared.scalar.VariableType.TheVariants as variable_type
use Rattle.pascal_tree.specs.declared.parameter.Parameter.{Parameter}
use Rattle.pascal_tree.specs.declared.parameter.Parameter.TheVariants as parameter
use Rattle.pascal_tree.specs.declared.means.Means.{Means}
use Rattle.pascal_tree.specs.declared.means.Means.TheVariants as means
use Rattle.pascal_tree.specs.declared.expression.Sign.{Sign}
use Rattle.pascal_tree.specs.declared.expression.Adding.{Adding}
use Rattle.pascal_tree.specs.declared.expression.Adding.TheVariants as adding
use Rattle.pascal_tree.specs.declared.expression.Multiplying.{Multiplying}
use Rattle.pascal_tree.specs.declared.expression.Multiplying.TheVariants as multiplying

-- What is said of nodes, in the order in which they end; of one node its rules, the least first.
abbrev pub Judged : Type 0
Judged = List (Option Broken)

abbrev pub breaks : ℕ → Bool → ℕ → Option Broken
breaks rule is line = if is then Some (record { rule = rule; line = line }) else None

-- the type of the value of a name, of an element of it, and of a call of it, where it has one
abbrev pub named_type : Option Means → Option Scalar
named_type (Some (means.Constant s v)) = Some s
named_type (Some (means.Variable (variable_type.Plain s))) = Some s
named_type (Some (means.Reference s)) = Some s
named_type (Some (means.Function ps s)) = Some s
named_type other = None

abbrev pub element_type : Option Means → Option Scalar
element_type (Some (means.Variable (variable_type.Array low high s))) = Some s
element_type other = None

abbrev pub called_type : Option Means → Option Scalar
called_type (Some (means.Function ps s)) = Some s
called_type other = None

-- what an operator wants on both sides, and gives
abbrev pub adding_type : Adding → Scalar
adding_type adding.Plus = scalar.Integer
adding_type adding.Minus = scalar.Integer
adding_type adding.Or = scalar.Boolean

abbrev pub multiplying_type : Multiplying → Scalar
multiplying_type multiplying.Times = scalar.Integer
multiplying_type multiplying.Div = scalar.Integer
multiplying_type multiplying.Mod = scalar.Integer
multiplying_type multiplying.And = scalar.Boolean

-- the type behind the last operator, or that of the first part
abbrev pub addends_type : Option Scalar → Addends → Option Scalar
addends_type first no_addend = first
addends_type first (addend a l t more) = addends_type (Some (adding_type a)) more

abbrev pub multipliers_type : Option Scalar → Multipliers → Option Scalar
multipliers_type first no_multiplier = first
multipliers_type first (multiplier m l f more) = multipliers_type (Some (multiplying_type m)) more

-- a sign gives an INTEGER
abbrev pub signed_type : Option (Sign × ℕ) → Option Scalar → Option Scalar
signed_type None t = t
signed_type (Some s) t = Some scalar.Integer

-- the type of an expression in which no rule is broken
abbrev mutual
  pub expr_type : Scope → Expr → Option Scalar
  expr_type s (alone x) = simple_type s x
  expr_type s (compared x r l y) = Some scalar.Boolean

  pub simple_type : Scope → Simple → Option Scalar
  simple_type s (simple sign t more) = addends_type (signed_type sign (term_type s t)) more

  pub term_type : Scope → Term → Option Scalar
  term_type s (term f more) = multipliers_type (factor_type s f) more

  pub index_type : Scope → Index → Option Scalar
  index_type s (index o e c) = expr_type s e

  pub factor_type : Scope → Factor → Option Scalar
  factor_type s (number n) = Some scalar.Integer
  factor_type s (character c) = Some scalar.Character
  factor_type s (named x) = named_type (means_of s x.letters)
  factor_type s (element x i) = element_type (means_of s x.letters)
  factor_type s (called x a) = called_type (means_of s x.letters)
  factor_type s (group o e c) = expr_type s e
  factor_type s (negated l f) = Some scalar.Boolean

-- the name that an expression is, where it is nothing more
abbrev pub plain_name : Expr → Option NameAt
plain_name (alone (simple None (term (named x) no_multiplier) no_addend)) = Some x
plain_name other = None

abbrev pub plain_means : Scope → Option NameAt → Option Means
plain_means s None = None
plain_means s (Some x) = means_of s x.letters

-- what a name means, as far as the rules ask
abbrev pub is_value : Means → Bool
is_value (means.Procedure ps) = false
is_value (means.TypeName s) = false
is_value other = true

abbrev pub is_array : Option Means → Bool
is_array (Some (means.Variable (variable_type.Array low high s))) = true
is_array other = false

abbrev pub no_value : Option Means → Bool
no_value None = false
no_value (Some m) = not (is_value m)

-- the parameters of a routine, and none of what is no routine
abbrev pub parameters_of : Option Means → List Parameter
parameters_of (Some (means.Procedure ps)) = ps
parameters_of (Some (means.Function ps s)) = ps
parameters_of other = []

-- how many expressions there are
abbrev pub count_exprs : Exprs → ℕ
count_exprs no_expr = 0
count_exprs (next_expr l e more) = count_exprs more + 1

abbrev pub count_arguments : Arguments → ℕ
count_arguments (arguments o e more c) = count_exprs more + 1

-- the place of an array argument
abbrev pub is_for_array : Option Parameter → Bool
is_for_array (Some (parameter.Characters n)) = true
is_for_array other = false

-- the variable of a type, and the array of so many characters
abbrev pub is_variable : Option Means → Scalar → Bool
is_variable (Some (means.Variable (variable_type.Plain s))) t = same_scalar s t
is_variable (Some (means.Reference s)) t = same_scalar s t
is_variable other t = false

abbrev pub is_characters : Option Means → ℕ → Bool
is_characters (Some (means.Variable (variable_type.Array low high scalar.Character))) n =
    elements low high == n
is_characters other n = false

-- an argument is what its parameter wants
abbrev pub suits : Scope → Expr → Parameter → Bool
suits s e (parameter.Value t) = is_scalar (expr_type s e) t
suits s e (parameter.VariableOf t) = is_variable (plain_means s (plain_name e)) t
suits s e (parameter.Characters n) = is_characters (plain_means s (plain_name e)) n

abbrev pub first_parameter : List Parameter → Option Parameter
first_parameter [] = None
first_parameter (p ∷ more) = Some p

abbrev pub later_parameters : List Parameter → List Parameter
later_parameters [] = []
later_parameters (p ∷ more) = more

abbrev pub suits_first : Scope → Expr → Option Parameter → Bool
suits_first s e None = true
suits_first s e (Some p) = suits s e p

abbrev pub all_suit : Scope → Exprs → List Parameter → Bool
all_suit s no_expr ps = true
all_suit s (next_expr l e more) ps = suits_first s e (first_parameter ps) && all_suit s more (later_parameters ps)

abbrev pub arguments_suit : Scope → Arguments → List Parameter → Bool
arguments_suit s (arguments o e more c) ps = suits_first s e (first_parameter ps) && all_suit s more (later_parameters ps)

-- a name as a factor: rules 2, 3, 11 and 12; at the place of an array argument an array may stand
abbrev pub judged_name : Scope → NameAt → Bool → Judged
judged_name s x for_array =
    let m = means_of s x.letters in
    breaks 2 (not (is_some m)) x.line
    ∷ breaks 3 (no_value m) x.line
    ∷ breaks 11 (is_array m && not for_array) x.line
    ∷ breaks 12 (not (length (parameters_of m) == 0)) x.line
    ∷ []

-- an element as a factor, behind an index of a type
abbrev pub judged_element_of : Scope → NameAt → Option Scalar → Judged
judged_element_of s x t =
    let m = means_of s x.letters in
    breaks 2 (not (is_some m)) x.line
    ∷ breaks 3 (no_value m) x.line
    ∷ breaks 11 (not (is_array m) || not (is_scalar t scalar.Integer)) x.line
    ∷ []

-- a call as a factor, behind so many arguments, that suit or don't
abbrev pub judged_called : Scope → NameAt → (count : ℕ) → (suit : Bool) → Judged
judged_called s x count suit =
    let m = means_of s x.letters in
    breaks 2 (not (is_some m)) x.line
    ∷ breaks 3 (no_value m) x.line
    ∷ breaks 11 (is_array m) x.line
    ∷ breaks 12 (not (count == length (parameters_of m))) x.line
    ∷ breaks 13 (not suit) x.line
    ∷ []

-- an argument: at the place of an array, and only there, an array may stand without an index
abbrev pub judged_as : Scope → Option Parameter → Option NameAt → Judged → Judged
judged_as s p None otherwise = otherwise
judged_as s p (Some x) otherwise = judged_name s x (is_for_array p)

-- operators want their types on both sides
abbrev pub judged_sign : Option (Sign × ℕ) → Option Scalar → Judged
judged_sign None t = []
judged_sign (Some s) t = breaks 8 (not (is_scalar t scalar.Integer)) s.1 ∷ []

abbrev pub judged_adding : Scope → Option Scalar → Addends → Judged
judged_adding s left no_addend = []
judged_adding s left (addend a l t more) =
    breaks 8 (not (is_scalar left (adding_type a) && is_scalar (term_type s t) (adding_type a))) l
    ∷ judged_adding s (Some (adding_type a)) more

abbrev pub judged_multiplying : Scope → Option Scalar → Multipliers → Judged
judged_multiplying s left no_multiplier = []
judged_multiplying s left (multiplier m l f more) =
    breaks 8 (not (is_scalar left (multiplying_type m) && is_scalar (factor_type s f) (multiplying_type m))) l
    ∷ judged_multiplying s (Some (multiplying_type m)) more

-- two of one type
abbrev pub agree : Option Scalar → Option Scalar → Bool
agree (Some s) t = is_scalar t s
agree None t = false

-- The nodes of an expression: what stands inside a node, and then the node.
abbrev mutual
  pub judged_expr : Scope → Expr → Judged
  judged_expr s (alone x) = judged_simple s x
  judged_expr s (compared x r l y) =
      judged_simple s x ++ (judged_simple s y ++ breaks 8 (not (agree (simple_type s x) (simple_type s y))) l ∷ [])

  pub judged_simple : Scope → Simple → Judged
  judged_simple s (simple sign t more) =
      judged_term s t ++ (judged_addends s more
      ++ (judged_sign sign (term_type s t) ++ judged_adding s (signed_type sign (term_type s t)) more))

  pub judged_addends : Scope → Addends → Judged
  judged_addends s no_addend = []
  judged_addends s (addend a l t more) = judged_term s t ++ judged_addends s more

  pub judged_term : Scope → Term → Judged
  judged_term s (term f more) =
      judged_factor s f ++ (judged_multipliers s more ++ judged_multiplying s (factor_type s f) more)

  pub judged_multipliers : Scope → Multipliers → Judged
  judged_multipliers s no_multiplier = []
  judged_multipliers s (multiplier m l f more) = judged_factor s f ++ judged_multipliers s more

  pub judged_factor : Scope → Factor → Judged
  judged_factor s (number n) = []
  judged_factor s (character c) = []
  judged_factor s (named x) = judged_name s x false
  judged_factor s (element x i) = judged_index s i ++ judged_element_of s x (index_type s i)
  judged_factor s (called x a) =
      let ps = parameters_of (means_of s x.letters) in
      judged_arguments s a ps ++ judged_called s x (count_arguments a) (arguments_suit s a ps)
  judged_factor s (group o e c) = judged_expr s e
  judged_factor s (negated l f) =
      judged_factor s f ++ breaks 8 (not (is_scalar (factor_type s f) scalar.Boolean)) l ∷ []

  pub judged_index : Scope → Index → Judged
  judged_index s (index o e c) = judged_expr s e

  pub judged_arguments : Scope → Arguments → List Parameter → Judged
  judged_arguments s (arguments o e more c) ps =
      judged_as s (first_parameter ps) (plain_name e) (judged_expr s e) ++ judged_exprs s more (later_parameters ps)

  pub judged_exprs : Scope → Exprs → List Parameter → Judged
  judged_exprs s no_expr ps = []
  judged_exprs s (next_expr l e more) ps =
      judged_as s (first_parameter ps) (plain_name e) (judged_expr s e) ++ judged_exprs s more (later_parameters ps)

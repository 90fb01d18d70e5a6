-- What the static rules say of constants, labels and statements.
use Rattle.std.specs.Prelude.{ℕ, Bool, true, false, not, ◌&&◌, ◌||◌, ◌==◌, List, [], ◌∷◌, ◌++◌, length, Option, Some, None, is_some, ℤ, pos, ◌-ℤ◌, bytes_eq}
use Rattle.std.specs.Ordering.{int_eq}
use Rattle.std.specs.List.{list_any}
use Rattle.pascal_tree.specs.Word.{NameAt}
use Rattle.pascal_tree.specs.Expression.{Index}
use Rattle.pascal_tree.specs.Lines.{first_line_of_constant}
use Rattle.pascal_tree.specs.Statement.{Labels, Statement, empty, assign, call, compound, if_then, if_else, while_do, repeat_until, for_do, case_of, Body, body, Sequence, sequence, Statements, no_statement, next_statement, Branch, branch, Branches, no_branch, next_branch}
use Rattle.pascal_tree.specs.Scopes.{Scope, means_of, same_scalar, is_scalar}
use Rattle.pascal_tree.specs.declared.scalar.Scalar.{Scalar}
use Rattle.pascal_tree.specs.declared.scalar.Scalar.TheVariants as scalar
use Rattle.pascal_tree.specs.declared.scalar.VariableType.TheVariants as variable_type
use Rattle.pascal_tree.specs.declared.means.Means.{Means}
use Rattle.pascal_tree.specs.declared.means.Means.TheVariants as means
use Rattle.pascal_tree.specs.ExpressionRules.{Judged, breaks, agree, element_type, is_array, parameters_of, count_arguments, arguments_suit, expr_type, index_type, judged_expr, judged_index, judged_arguments}
use Rattle.pascal_tree.specs.declared.constant.Constant.{Constant}
use Rattle.pascal_tree.specs.declared.constant.Constant.TheVariants as constants

-- a constant: its type, and its value or code
pub record Valued : Type 0 where
  pub type : Scalar
  pub value : ℤ

abbrev pub valued : Scalar → ℤ → Option Valued
valued t v = Some (record { type = t; value = v })

abbrev pub constant_meant : Option Means → Option Valued
constant_meant (Some (means.Constant t v)) = valued t v
constant_meant other = None

abbrev pub value_of : Scope → Constant → Option Valued
value_of s (constants.Name n) = constant_meant (means_of s n.letters)
value_of s (constants.Number n) = valued scalar.Integer (pos n.value)
value_of s (constants.Negative l n) = valued scalar.Integer (pos 0 -ℤ pos n.value)
value_of s (constants.Character c) = valued scalar.Character (pos c.code)

-- a name as a constant
abbrev pub judged_constant_name : Scope → NameAt → Judged
judged_constant_name s n =
    let m = means_of s n.letters in
    breaks 2 (not (is_some m)) n.line
    ∷ breaks 3 (is_some m && not (is_some (constant_meant m))) n.line
    ∷ []

abbrev pub judged_constant : Scope → Constant → Judged
judged_constant s (constants.Name n) = judged_constant_name s n
judged_constant s (constants.Number n) = []
judged_constant s (constants.Negative l n) = []
judged_constant s (constants.Character c) = []

-- the values of labels, in their order: those before a label, and its own
abbrev pub with_value : Option Valued → List ℤ → List ℤ
with_value None earlier = earlier
with_value (Some v) earlier = earlier ++ v.value ∷ []

abbrev pub more_values : Scope → List ℤ → List (ℕ × Constant) → List ℤ
more_values s earlier [] = earlier
more_values s earlier (l ∷ more) = more_values s (with_value (value_of s l.1) earlier) more

abbrev pub values_of_labels : Scope → List ℤ → Labels → List ℤ
values_of_labels s earlier l = more_values s (with_value (value_of s l.first) earlier) l.rest

abbrev pub values_of_branch : Scope → List ℤ → Branch → List ℤ
values_of_branch s earlier (branch labels c x) = values_of_labels s earlier labels

abbrev pub is_valued_as : Option Valued → Option Scalar → Bool
is_valued_as (Some v) t = is_scalar t v.type
is_valued_as None t = false

-- a value among earlier ones
abbrev pub is_among : Option Valued → List ℤ → Bool
is_among None earlier = false
is_among (Some v) earlier = list_any (int_eq v.value) earlier

-- a label, behind those before it in the CASE
abbrev pub judged_label : Scope → Option Scalar → List ℤ → Constant → Judged
judged_label s t earlier c =
    let v = value_of s c in
    judged_constant s c
    ++ breaks 15 (not (is_valued_as v t) || is_among v earlier) (first_line_of_constant c) ∷ []

abbrev pub judged_more_labels : Scope → Option Scalar → List ℤ → List (ℕ × Constant) → Judged
judged_more_labels s t earlier [] = []
judged_more_labels s t earlier (l ∷ more) =
    judged_label s t earlier l.1 ++ judged_more_labels s t (with_value (value_of s l.1) earlier) more

abbrev pub judged_labels : Scope → Option Scalar → List ℤ → Labels → Judged
judged_labels s t earlier l =
    judged_label s t earlier l.first
    ++ judged_more_labels s t (with_value (value_of s l.first) earlier) l.rest

-- whether a name is that of the function in whose body it stands
abbrev pub is_within : Option (List ℕ) → List ℕ → Bool
is_within None name = false
is_within (Some f) name = bytes_eq f name

abbrev pub is_function : Option Means → Bool
is_function (Some (means.Function ps s)) = true
is_function other = false

abbrev pub is_variable_name : Option Means → Bool
is_variable_name (Some (means.Variable t)) = true
is_variable_name (Some (means.Reference t)) = true
is_variable_name other = false

-- what an assignment may set: a variable, or the function in whose body it stands
abbrev pub may_be_set : Scope → NameAt → Bool
may_be_set s x =
    let m = means_of s x.letters in
    is_variable_name m || (is_function m && is_within s.within x.letters)

-- the type of what is set
abbrev pub set_type : Option Means → Option Scalar
set_type (Some (means.Variable (variable_type.Plain t))) = Some t
set_type (Some (means.Reference t)) = Some t
set_type (Some (means.Function ps t)) = Some t
set_type other = None

-- the target of an assignment without index, and with one
abbrev pub judged_target : Scope → NameAt → Option Scalar → ℕ → Judged
judged_target s x value becomes =
    let m = means_of s x.letters in
    breaks 2 (not (is_some m)) x.line
    ∷ breaks 3 (is_some m && not (may_be_set s x)) x.line
    ∷ breaks 10 (not (agree (set_type m) value)) becomes
    ∷ []

abbrev pub judged_element : Scope → NameAt → Index → Option Scalar → ℕ → Judged
judged_element s x i value becomes =
    let m = means_of s x.letters in
    breaks 2 (not (is_some m)) x.line
    ∷ breaks 3 (is_some m && not (may_be_set s x)) x.line
    ∷ breaks 10 (is_array m && not (agree (element_type m) value)) becomes
    ∷ breaks 11 (not (is_array m) || not (is_scalar (index_type s i) scalar.Integer)) x.line
    ∷ []

abbrev pub is_procedure : Option Means → Bool
is_procedure (Some (means.Procedure ps)) = true
is_procedure other = false

-- a call, with so many arguments, that suit or don't
abbrev pub judged_call : Scope → NameAt → (count : ℕ) → (suit : Bool) → Judged
judged_call s x count suit =
    let m = means_of s x.letters in
    breaks 2 (not (is_some m)) x.line
    ∷ breaks 3 (is_some m && not (is_procedure m)) x.line
    ∷ breaks 12 (not (count == length (parameters_of m))) x.line
    ∷ breaks 13 (not suit) x.line
    ∷ []

-- a scalar variable of type INTEGER
abbrev pub may_control : Option Means → Bool
may_control (Some (means.Variable (variable_type.Plain t))) = same_scalar t scalar.Integer
may_control (Some (means.Reference t)) = same_scalar t scalar.Integer
may_control other = false

abbrev pub judged_control : Scope → NameAt → (bounds : Bool) → (line : ℕ) → Judged
judged_control s x bounds line =
    let m = means_of s x.letters in
    breaks 2 (not (is_some m)) x.line
    ∷ breaks 14 ((is_some m && not (may_control m)) || not bounds) line
    ∷ []

-- The nodes of a statement: what stands inside a node, and then the node.
abbrev mutual
  pub judged_statement : Scope → Statement → Judged
  judged_statement s empty = []
  judged_statement s (assign x None b e) = judged_expr s e ++ judged_target s x (expr_type s e) b
  judged_statement s (assign x (Some i) b e) =
      judged_index s i ++ (judged_expr s e ++ judged_element s x i (expr_type s e) b)
  judged_statement s (call x None) = judged_call s x 0 true
  judged_statement s (call x (Some a)) =
      let ps = parameters_of (means_of s x.letters) in
      judged_arguments s a ps ++ judged_call s x (count_arguments a) (arguments_suit s a ps)
  judged_statement s (compound b) = judged_body s b
  judged_statement s (if_then l e t x) =
      judged_expr s e ++ (judged_statement s x
      ++ breaks 9 (not (is_scalar (expr_type s e) scalar.Boolean)) l ∷ [])
  judged_statement s (if_else l e t x o y) =
      judged_expr s e ++ (judged_statement s x ++ (judged_statement s y
      ++ breaks 9 (not (is_scalar (expr_type s e) scalar.Boolean)) l ∷ []))
  judged_statement s (while_do l e d x) =
      judged_expr s e ++ (judged_statement s x
      ++ breaks 9 (not (is_scalar (expr_type s e) scalar.Boolean)) l ∷ [])
  judged_statement s (repeat_until l x u e) =
      judged_sequence s x ++ (judged_expr s e
      ++ breaks 9 (not (is_scalar (expr_type s e) scalar.Boolean)) u ∷ [])
  judged_statement s (for_do l x b e w t f d y) =
      judged_expr s e ++ (judged_expr s f ++ (judged_statement s y
      ++ judged_control s x
      (is_scalar (expr_type s e) scalar.Integer && is_scalar (expr_type s f) scalar.Integer) l))
  judged_statement s (case_of l e o b more c) =
      judged_expr s e ++ (judged_branch s (expr_type s e) [] b
      ++ judged_branches s (expr_type s e) (values_of_branch s [] b) more)

  pub judged_body : Scope → Body → Judged
  judged_body s (body b x e) = judged_sequence s x

  pub judged_sequence : Scope → Sequence → Judged
  judged_sequence s (sequence x more) = judged_statement s x ++ judged_statements s more

  pub judged_statements : Scope → Statements → Judged
  judged_statements s no_statement = []
  judged_statements s (next_statement l x more) = judged_statement s x ++ judged_statements s more

  -- a branch, behind the values of the labels before it
  pub judged_branch : Scope → Option Scalar → List ℤ → Branch → Judged
  judged_branch s t earlier (branch labels c x) = judged_labels s t earlier labels ++ judged_statement s x

  pub judged_branches : Scope → Option Scalar → List ℤ → Branches → Judged
  judged_branches s t earlier no_branch = []
  judged_branches s t earlier (next_branch l b more) =
      judged_branch s t earlier b ++ judged_branches s t (values_of_branch s earlier b) more

-- What follows where no rule is broken.
use Rattle.std.proofs.Common.{◌≡◌, ℕ, ◌≤◌, Bool, true, false, not, ◌&&◌, ◌||◌, ◌==◌, List, [], ◌∷◌, ◌++◌, length, Option, Some, None, is_some, ℤ, refl, ap, true≢false, arith}
use Rattle.std.specs.Prelude.{IsSome}
use Rattle.pascal_tree.specs.Expression.{Expr, alone, compared, Simple, simple, Addends, no_addend, addend, Term, term, Multipliers, no_multiplier, multiplier, Factor, number, character, named, element, called, group, negated, Arguments, arguments}
use Rattle.pascal_tree.specs.Scopes.{Scope, means_of, is_scalar, same_scalar}
use Rattle.pascal_tree.specs.ExpressionRules.{Judged, breaks, judged_expr, judged_simple, judged_term, judged_factor, judged_addends, judged_multipliers, judged_sign, judged_adding, judged_multiplying, judged_index, judged_arguments, judged_element_of, judged_called, expr_type, simple_type, term_type, factor_type, index_type, addends_type, multipliers_type, adding_type, multiplying_type, signed_type, named_type, element_type, called_type, no_value, is_array, parameters_of, count_arguments, arguments_suit}
use Rattle.pascal_tree.specs.StatementRules.{judged_label, judged_constant, value_of, is_valued_as, is_among, is_procedure, Valued}
use Rattle.pascal_tree.specs.DeclarationRules.{first_broken}
use Rattle.pascal_tree.specs.Lines.{first_line_of_constant}
use Rattle.pascal_tree.specs.declared.constant.Constant.{Constant}
use Rattle.pascal_tree.specs.declared.expression.Sign.{Sign}
use Rattle.pascal_tree.specs.declared.scalar.Scalar.{Scalar}
use Rattle.pascal_tree.specs.declared.scalar.Scalar.TheVariants as scalar
use Rattle.pascal_tree.specs.declared.scalar.VariableType.TheVariants as variable_type
use Rattle.pascal_tree.specs.declared.means.Means.{Means}
use Rattle.pascal_tree.specs.declared.means.Means.TheVariants as means
use Rattle.std.proofs.lemmas.Bool.{eqb-true}
use Rattle.pascal_check.specs.Has.{IsRoutine, IsFunction, IsValue, IsLabel}

-- what can't be
never : {A B : Type 0} {x : A} → Some x ≡ None → B
never h = absurd (true≢false (ap is_some h))

neither_so : {B : Type 0} → true ≡ false → B
neither_so h = absurd (true≢false h)

pub before : (a b : Judged) → first_broken (a ++ b) ≡ None → first_broken a ≡ None
before [] b h = refl
before (None ∷ a) b h = before a b h
before (Some x ∷ a) b h = never h

pub behind : (a b : Judged) → first_broken (a ++ b) ≡ None → first_broken b ≡ None
behind [] b h = h
behind (None ∷ a) b h = behind a b h
behind (Some x ∷ a) b h = never h

-- ---- Types

addends_some : (t : Option Scalar) (more : Addends) → IsSome t → IsSome (addends_type t more)
addends_some t no_addend h = h
addends_some t (addend a l u more) h = addends_some (Some (adding_type a)) more refl

multipliers_some : (t : Option Scalar) (more : Multipliers) → IsSome t → IsSome (multipliers_type t more)
multipliers_some t no_multiplier h = h
multipliers_some t (multiplier m l f more) h = multipliers_some (Some (multiplying_type m)) more refl

signed_some : (sign : Option (Sign × ℕ)) (t : Option Scalar) → IsSome t → IsSome (signed_type sign t)
signed_some None t h = h
signed_some (Some s) t h = refl

name_typed : (m : Option Means) (l : ℕ)
    → first_broken (breaks 2 (not (is_some m)) l ∷ breaks 3 (no_value m) l ∷ breaks 11 (is_array m && not false) l
    ∷ breaks 12 (not (length (parameters_of m) == 0)) l ∷ []) ≡ None
    → IsSome (named_type m)
name_typed None l h = never h
name_typed (Some (means.Constant t v)) l h = refl
name_typed (Some (means.Variable (variable_type.Plain t))) l h = refl
name_typed (Some (means.Variable (variable_type.Array low high t))) l h = never h
name_typed (Some (means.Reference t)) l h = refl
name_typed (Some (means.Procedure ps)) l h = never h
name_typed (Some (means.Function ps t)) l h = refl
name_typed (Some (means.TypeName t)) l h = never h

element_typed : (m : Option Means) (t : Option Scalar) (l : ℕ)
    → first_broken (breaks 2 (not (is_some m)) l ∷ breaks 3 (no_value m) l
    ∷ breaks 11 (not (is_array m) || not (is_scalar t scalar.Integer)) l ∷ []) ≡ None
    → IsSome (element_type m)
element_typed None t l h = never h
element_typed (Some (means.Constant u v)) t l h = never h
element_typed (Some (means.Variable (variable_type.Plain u))) t l h = never h
element_typed (Some (means.Variable (variable_type.Array low high u))) t l h = refl
element_typed (Some (means.Reference u)) t l h = never h
element_typed (Some (means.Procedure ps)) t l h = never h
element_typed (Some (means.Function ps u)) t l h = never h
element_typed (Some (means.TypeName u)) t l h = never h

-- what tests say that broke no rule
pub tested : (r l : ℕ) (b : Bool) (more : Judged) → first_broken (breaks r b l ∷ more) ≡ None → (b ≡ false) × (first_broken more ≡ None)
tested r l true more h = never h
tested r l false more h = (refl, h)

yes_is : (b : Bool) → not b ≡ false → b ≡ true
yes_is true h = refl
yes_is false h = neither_so h

-- a name that is used is declared
pub declared : (m : Option Means) (l : ℕ) (more : Judged) → first_broken (breaks 2 (not (is_some m)) l ∷ more) ≡ None → IsSome m
declared m l more h = yes_is (is_some m) (tested 2 l (not (is_some m)) more h).0

pub type_declared : (t : Option Scalar) (l : ℕ) → breaks 4 (not (is_some t)) l ≡ None → IsSome t
type_declared None l h = never h
type_declared (Some t) l h = refl

equal_is : (m n : ℕ) → (m == n) ≡ true → m ≡ n
equal_is m n h = eqb-true m n h

pub function_called : (m : Option Means) (l count : ℕ) (suit : Bool) → 1 ≤ count
    → first_broken (breaks 2 (not (is_some m)) l ∷ breaks 3 (no_value m) l ∷ breaks 11 (is_array m) l
    ∷ breaks 12 (not (count == length (parameters_of m))) l ∷ breaks 13 (not suit) l ∷ []) ≡ None
    → (suit ≡ true) × IsFunction m count
function_called None l count suit some h = never h
function_called (Some (means.Constant t v)) l count suit some h =
    absurd (omega (arith, some, equal_is count 0 (yes_is (count == 0) (tested 12 l (not (count == 0)) _ h).0)))
function_called (Some (means.Variable (variable_type.Plain t))) l count suit some h =
    absurd (omega (arith, some, equal_is count 0 (yes_is (count == 0) (tested 12 l (not (count == 0)) _ h).0)))
function_called (Some (means.Variable (variable_type.Array low high t))) l count suit some h = never h
function_called (Some (means.Reference t)) l count suit some h =
    absurd (omega (arith, some, equal_is count 0 (yes_is (count == 0) (tested 12 l (not (count == 0)) _ h).0)))
function_called (Some (means.Procedure ps)) l count suit some h = never h
function_called (Some (means.Function ps t)) l count suit some h =
    let a = tested 12 l (not (count == length ps)) _ h in
    let b = tested 13 l (not suit) _ a.1 in
    (yes_is suit b.0, equal_is count (length ps) (yes_is (count == length ps) a.0))
function_called (Some (means.TypeName t)) l count suit some h = never h

pub procedure_called : (m : Option Means) (l count : ℕ) (suit : Bool)
    → first_broken (breaks 2 (not (is_some m)) l ∷ breaks 3 (is_some m && not (is_procedure m)) l
    ∷ breaks 12 (not (count == length (parameters_of m))) l ∷ breaks 13 (not suit) l ∷ []) ≡ None
    → (suit ≡ true) × IsRoutine m count
procedure_called None l count suit h = never h
procedure_called (Some (means.Constant t v)) l count suit h = never h
procedure_called (Some (means.Variable t)) l count suit h = never h
procedure_called (Some (means.Reference t)) l count suit h = never h
procedure_called (Some (means.Procedure ps)) l count suit h =
    let a = tested 12 l (not (count == length ps)) _ h in
    let b = tested 13 l (not suit) _ a.1 in
    (yes_is suit b.0, equal_is count (length ps) (yes_is (count == length ps) a.0))
procedure_called (Some (means.Function ps t)) l count suit h = never h
procedure_called (Some (means.TypeName t)) l count suit h = never h

call_typed : (m : Option Means) (count : ℕ) → IsFunction m count → IsSome (called_type m)
call_typed None count h = absurd h
call_typed (Some (means.Constant t v)) count h = absurd h
call_typed (Some (means.Variable t)) count h = absurd h
call_typed (Some (means.Reference t)) count h = absurd h
call_typed (Some (means.Procedure ps)) count h = absurd h
call_typed (Some (means.Function ps t)) count h = refl
call_typed (Some (means.TypeName t)) count h = absurd h

some_argument : (a : Arguments) → 1 ≤ count_arguments a
some_argument (arguments o e more c) = omega arith

mutual
  pub expr_typed : (s : Scope) (e : Expr) → first_broken (judged_expr s e) ≡ None → IsSome (expr_type s e)
  expr_typed s (alone x) h = simple_typed s x h
  expr_typed s (compared x r l y) h = refl

  simple_typed : (s : Scope) (x : Simple) → first_broken (judged_simple s x) ≡ None → IsSome (simple_type s x)
  simple_typed s (simple sign t more) h =
      addends_some (signed_type sign (term_type s t)) more
      (signed_some sign (term_type s t) (term_typed s t (before (judged_term s t) (judged_addends s more
      ++ (judged_sign sign (term_type s t) ++ judged_adding s (signed_type sign (term_type s t)) more)) h)))

  term_typed : (s : Scope) (t : Term) → first_broken (judged_term s t) ≡ None → IsSome (term_type s t)
  term_typed s (term f more) h =
      multipliers_some (factor_type s f) more
      (factor_typed s f (before (judged_factor s f) (judged_multipliers s more ++ judged_multiplying s (factor_type s f) more) h))

  factor_typed : (s : Scope) (f : Factor) → first_broken (judged_factor s f) ≡ None → IsSome (factor_type s f)
  factor_typed s (number n) h = refl
  factor_typed s (character c) h = refl
  factor_typed s (named x) h = name_typed (means_of s x.letters) x.line h
  factor_typed s (element x i) h =
      element_typed (means_of s x.letters) (index_type s i) x.line (behind (judged_index s i) (judged_element_of s x (index_type s i)) h)
  factor_typed s (called x a) h =
      let ps = parameters_of (means_of s x.letters) in
      call_typed (means_of s x.letters) (count_arguments a)
      (function_called (means_of s x.letters) x.line (count_arguments a) (arguments_suit s a ps) (some_argument a)
      (behind (judged_arguments s a ps) (judged_called s x (count_arguments a) (arguments_suit s a ps)) h)).1
  factor_typed s (group o e c) h = expr_typed s e h
  factor_typed s (negated l f) h = refl

-- ---- Labels

neither : (a b : Bool) → (a || b) ≡ false → (a ≡ false) × (b ≡ false)
neither true b h = neither_so h
neither false b h = (refl, h)

valued : (v : Option Valued) (t : Scalar) (earlier : List ℤ) → (not (is_valued_as v (Some t)) || is_among v earlier) ≡ false → IsValue v t earlier
valued None t earlier h = neither_so h
valued (Some v) t earlier h =
    let n = neither (not (same_scalar t v.type)) (is_among (Some v) earlier) h in
    (yes_is (same_scalar t v.type) n.0, n.1)

pub label_valued : (s : Scope) (t : Scalar) (earlier : List ℤ) (c : Constant)
    → first_broken (judged_label s (Some t) earlier c) ≡ None → IsLabel s t earlier c
label_valued s t earlier c h =
    let test = not (is_valued_as (value_of s c) (Some t)) || is_among (value_of s c) earlier in
    valued (value_of s c) t earlier
    (tested 15 (first_line_of_constant c) test [] (behind (judged_constant s c) (breaks 15 test (first_line_of_constant c) ∷ []) h)).0

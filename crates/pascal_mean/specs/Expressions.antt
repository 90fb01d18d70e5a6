-- What expressions give.
use Rattle.std.specs.Prelude.{ℕ, Bool, not, List, [], ◌∷◌, Option, Some, None, ℤ, pos}
use Rattle.solo_base.specs.Arithmetic.{truth, holds}
use Rattle.pascal_tree.specs.declared.expression.Sign.{Sign}
use Rattle.pascal_tree.specs.Expression.{Expr, alone, compared, Simple, simple, Addends, no_addend, addend, Term, term, Multipliers, no_multiplier, multiplier, Factor, number, character, named, element, called, group, negated, Index, index, Arguments, arguments, Exprs, no_expr, next_expr}
use Rattle.pascal_mean.specs.Means.{Means, Bounds}
use Rattle.pascal_mean.specs.Means as meant
use Rattle.pascal_mean.specs.Scope.{Scope}
use Rattle.pascal_mean.specs.Situation.{Answers, Part, Gives, and_then, number_or_overflow}
use Rattle.pascal_mean.specs.Variables.{place_named, value_at, array_named, element_at}
use Rattle.pascal_mean.specs.Values.{compared_values, added, multiplied, signed, standard_value, within}
use Rattle.pascal_mean.specs.Calls.{Passing, Given, passed, passing_named, values_in, first_value, interface_value}

-- Where statements stand: what answers calls of the interface, the limit of ticks, what names mean there,
-- the number of the activation, and what a call of a routine with these arguments does, whose value is a
-- function's result.
pub record Setting : Type 0 where
  pub answers : Answers
  pub limit : ℕ
  pub scope : Scope
  pub number : ℕ
  pub does : ℕ → List Given → Part ℤ

-- ---- Names

-- a call by a name with these arguments
abbrev pub call_value : Setting → Means → List Given → Part ℤ
call_value c (meant.Routine k signature) given now = c.does k given now
call_value c (meant.Function f) given now = standard_value f (first_value (values_in given)) now
call_value c (meant.Interface p) given now = interface_value c.answers c.limit p given now
call_value c (meant.Constant t v) given now = Gives (pos 0) now
call_value c (meant.Variable owner t) given now = Gives (pos 0) now
call_value c (meant.Array owner t bounds) given now = Gives (pos 0) now
call_value c (meant.Reference t) given now = Gives (pos 0) now
call_value c (meant.TypeName t) given now = Gives (pos 0) now
call_value c meant.Nothing given now = Gives (pos 0) now

-- a name alone: a function's is a call, in its own body too
abbrev pub named_value : Setting → Means → List ℕ → Part ℤ
named_value c (meant.Constant t v) x now = Gives v now
named_value c (meant.Variable owner t) x now =
    Gives (value_at (place_named (meant.Variable owner t) c.number x now) now) now
named_value c (meant.Reference t) x now =
    Gives (value_at (place_named (meant.Reference t) c.number x now) now) now
named_value c (meant.Routine k signature) x now = c.does k [] now
named_value c (meant.Array owner t bounds) x now = Gives (pos 0) now
named_value c (meant.Function f) x now = Gives (pos 0) now
named_value c (meant.Interface p) x now = Gives (pos 0) now
named_value c (meant.TypeName t) x now = Gives (pos 0) now
named_value c meant.Nothing x now = Gives (pos 0) now

-- the name that an argument is, where it is nothing but a name
abbrev pub name_in_factor : Factor → List ℕ
name_in_factor (named x) = x.letters
name_in_factor (number n) = []
name_in_factor (character x) = []
name_in_factor (element x i) = []
name_in_factor (called x a) = []
name_in_factor (group opening e closing) = []
name_in_factor (negated line f) = []

abbrev pub name_in_term : Term → List ℕ
name_in_term (term f more) = name_in_factor f

abbrev pub name_in_simple : Simple → List ℕ
name_in_simple (simple sign t more) = name_in_term t

abbrev pub name_in : Expr → List ℕ
name_in (alone s) = name_in_simple s
name_in (compared s r line t) = []

-- ---- Expressions, from left to right

abbrev pub with_sign : Option (Sign × ℕ) → ℤ → Part ℤ
with_sign None v now = Gives v now
with_sign (Some s) v now = number_or_overflow (signed s.0 v) now

abbrev mutual
  pub expr_value : Setting → Expr → Part ℤ
  expr_value c (alone s) now = simple_value c s now
  expr_value c (compared s r line t) now =
      and_then (simple_value c s now) (λ left mid.
      and_then (simple_value c t mid) (λ right then_is. Gives (compared_values r left right) then_is))

  -- the sign applies to the first term
  pub simple_value : Setting → Simple → Part ℤ
  simple_value c (simple sign t more) now =
      and_then (term_value c t now) (λ v mid.
      and_then (with_sign sign v mid) (λ first then_is. addends_value c more first then_is))

  pub addends_value : Setting → Addends → ℤ → Part ℤ
  addends_value c no_addend left now = Gives left now
  addends_value c (addend a line t more) left now =
      and_then (term_value c t now) (λ right mid.
      and_then (number_or_overflow (added a left right) mid) (λ v then_is. addends_value c more v then_is))

  pub term_value : Setting → Term → Part ℤ
  term_value c (term f more) now =
      and_then (factor_value c f now) (λ v then_is. multipliers_value c more v then_is)

  pub multipliers_value : Setting → Multipliers → ℤ → Part ℤ
  multipliers_value c no_multiplier left now = Gives left now
  multipliers_value c (multiplier m line f more) left now =
      and_then (factor_value c f now) (λ right mid.
      and_then (number_or_overflow (multiplied m left right) mid) (λ v then_is.
      multipliers_value c more v then_is))

  pub factor_value : Setting → Factor → Part ℤ
  factor_value c (number n) now = Gives (pos n.value) now
  factor_value c (character x) now = Gives (pos x.code) now
  factor_value c (named x) now = named_value c (c.scope x.letters) x.letters now
  factor_value c (element x i) now =
      let a = array_named (c.scope x.letters) c.number x.letters in
      and_then (index_value c a.bounds i now) (λ at then_is. Gives (element_at a at then_is) then_is)
  factor_value c (called x a) now =
      let means = c.scope x.letters in
      and_then (arguments_given c (passing_named means) a now) (λ given then_is.
      call_value c means given then_is)
  factor_value c (group opening e closing) now = expr_value c e now
  factor_value c (negated line f) now =
      and_then (factor_value c f now) (λ v then_is. Gives (truth (not (holds v))) then_is)

  -- an index within these bounds
  pub index_value : Setting → Bounds → Index → Part ℤ
  index_value c bounds (index opening e closing) now =
      and_then (expr_value c e now) (λ v then_is. within bounds v then_is)

  pub arguments_given : Setting → List Passing → Arguments → Part (List Given)
  arguments_given c [] (arguments opening e more closing) now = Gives [] now
  arguments_given c (p ∷ others) (arguments opening e more closing) now =
      and_then (passed p (c.scope (name_in e)) c.number (name_in e) (expr_value c e) now) (λ first mid.
      and_then (exprs_given c others more mid) (λ given then_is. Gives (first ∷ given) then_is))

  pub exprs_given : Setting → List Passing → Exprs → Part (List Given)
  exprs_given c passing no_expr now = Gives [] now
  exprs_given c [] (next_expr comma e more) now = Gives [] now
  exprs_given c (p ∷ others) (next_expr comma e more) now =
      and_then (passed p (c.scope (name_in e)) c.number (name_in e) (expr_value c e) now) (λ first mid.
      and_then (exprs_given c others more mid) (λ given then_is. Gives (first ∷ given) then_is))

-- a test: whether an expression is true, and whether it is false
abbrev pub is_true : Setting → Expr → Part Bool
is_true c e now = and_then (expr_value c e now) (λ v then_is. Gives (holds v) then_is)

abbrev pub is_false : Setting → Expr → Part Bool
is_false c e now = and_then (expr_value c e now) (λ v then_is. Gives (not (holds v)) then_is)

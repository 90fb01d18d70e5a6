-- A plain name as an argument.
use Rattle.std.proofs.Common.{◌≡◌, ℕ, Option, Some, None, refl, sym, ap, subst, is_some, true≢false}
use Rattle.pascal_tree.specs.Word.{NameAt}
use Rattle.pascal_tree.specs.Expression.{Expr, alone, simple, Addends, no_addend, addend, Term, term, Multipliers, no_multiplier, multiplier, Factor, number, character, named, element, called, group, negated}
use Rattle.pascal_tree.specs.declared.expression.Adding.{Adding}
use Rattle.pascal_tree.specs.declared.expression.Multiplying.{Multiplying}
use Rattle.pascal_tree.specs.Scopes.{Scope, is_scalar}
use Rattle.pascal_tree.specs.declared.scalar.Scalar.{Scalar}
use Rattle.pascal_tree.specs.declared.parameter.Parameter.{Parameter}
use Rattle.pascal_tree.specs.declared.parameter.Parameter.TheVariants as parameter
use Rattle.pascal_tree.specs.ExpressionRules.{plain_name, plain_means, is_variable, is_characters, suits_first, expr_type, judged_name, is_for_array}
use Rattle.pascal_check.specs.Parts.{name_suits, value_suits, judged_argument}

-- the expression that a name is
abbrev pub just : NameAt → Expr
just x = alone (simple None (term (named x) no_multiplier) no_addend)

pub plain_is : (e : Expr) (x : NameAt) → plain_name e ≡ Some x → e ≡ just x
plain_is (alone (simple None (term (named y) no_multiplier) no_addend)) x is = ap just (some_is is) where
  some_is : {y x : NameAt} → Some y ≡ Some x → y ≡ x
  some_is {y} is = ap (λ o. or_this o) is where
    or_this : Option NameAt → NameAt
    or_this None = y
    or_this (Some z) = z
plain_is e x is = absurd (true≢false (sym (ap is_some is)))

pub name_is_judged : (s : Scope) (e : Expr) (x : NameAt) (p : Option Parameter) → plain_name e ≡ Some x
    → judged_argument s e p ≡ judged_name s x (is_for_array p)
name_is_judged s e x p is = subst (λ y. judged_argument s y p ≡ judged_name s x (is_for_array p)) (sym (plain_is e x is)) refl

suits_just : (s : Scope) (x : NameAt) (p : Option Parameter) → suits_first s (just x) p ≡ name_suits s x p
suits_just s x None = refl
suits_just s x (Some (parameter.Value t)) = refl
suits_just s x (Some (parameter.VariableOf t)) = refl
suits_just s x (Some (parameter.Characters n)) = refl

pub name_suits_as : (s : Scope) (e : Expr) (x : NameAt) (p : Option Parameter) → plain_name e ≡ Some x
    → suits_first s e p ≡ name_suits s x p
name_suits_as s e x p is = subst (λ y. suits_first s y p ≡ name_suits s x p) (sym (plain_is e x is)) (suits_just s x p)

-- what is no plain name
pub value_suits_as : (s : Scope) (e : Expr) (t : Scalar) (p : Option Parameter) → plain_name e ≡ None → expr_type s e ≡ Some t
    → suits_first s e p ≡ value_suits t p
value_suits_as s e t None none typed = refl
value_suits_as s e t (Some (parameter.Value u)) none typed = ap (λ o. is_scalar o u) typed
value_suits_as s e t (Some (parameter.VariableOf u)) none typed = ap (λ o. is_variable (plain_means s o) u) none
value_suits_as s e t (Some (parameter.Characters n)) none typed = ap (λ o. is_characters (plain_means s o) n) none

-- with a later term or a later factor an expression is no plain name
pub more_terms : (t : Term) (a : Adding) (l : ℕ) (u : Term) (m : Addends) → plain_name (alone (simple None t (addend a l u m))) ≡ None
more_terms (term (number n) ms) a l u m = refl
more_terms (term (character c) ms) a l u m = refl
more_terms (term (named x) no_multiplier) a l u m = refl
more_terms (term (named x) (multiplier o k f more)) a l u m = refl
more_terms (term (element x i) ms) a l u m = refl
more_terms (term (called x b) ms) a l u m = refl
more_terms (term (group o e c) ms) a l u m = refl
more_terms (term (negated k f) ms) a l u m = refl

pub more_factors : (f : Factor) (o : Multiplying) (l : ℕ) (g : Factor) (m : Multipliers)
    → plain_name (alone (simple None (term f (multiplier o l g m)) no_addend)) ≡ None
more_factors (number n) o l g m = refl
more_factors (character c) o l g m = refl
more_factors (named x) o l g m = refl
more_factors (element x i) o l g m = refl
more_factors (called x b) o l g m = refl
more_factors (group p e c) o l g m = refl
more_factors (negated k f) o l g m = refl

pub ruleset as_argument = (name_is_judged, name_suits_as, value_suits_as)

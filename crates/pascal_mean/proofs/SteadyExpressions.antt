-- Expressions, however calls are answered.
use Rattle.std.proofs.Common.{ℕ, Option, Some, None, List, [], ◌∷◌, ℤ, refl}
use Rattle.std.specs.Prelude.{not}
use Rattle.solo_base.specs.Arithmetic.{truth, holds}
use Rattle.pascal_tree.specs.declared.expression.Sign.{Sign}
use Rattle.pascal_tree.specs.Expression.{Expr, alone, compared, Simple, simple, Addends, no_addend, addend, Term, term, Multipliers, no_multiplier, multiplier, Factor, number, character, named, element, called, group, negated, Index, index, Arguments, arguments, Exprs, no_expr, next_expr}
use Rattle.pascal_mean.specs.Means.{Means, Bounds}
use Rattle.pascal_mean.specs.Means as meant
use Rattle.pascal_mean.specs.Scope.{Scope}
use Rattle.pascal_mean.specs.Situation.{Answers, Part, Gives, and_then, number_or_overflow}
use Rattle.pascal_mean.specs.Variables.{place_named, value_at, array_named, element_at}
use Rattle.pascal_mean.specs.Values.{compared_values, added, multiplied, within}
use Rattle.pascal_mean.specs.Calls.{Passing, Given, passing_named}
use Rattle.pascal_mean.specs.Expressions.{Setting, call_value, named_value, name_in, with_sign, expr_value, simple_value, addends_value, term_value, multipliers_value, factor_value, index_value, arguments_given, exprs_given, is_true, is_false}
use Rattle.pascal_mean.proofs.Steady.{IsSteady, then_steady, gives_steady, value_steady, number_steady}
use Rattle.pascal_mean.proofs.SteadyCalls.{standard_steady, within_steady, passed_steady, interface_steady}

pub with_sign_steady : {a b : Answers} (sign : Option (Sign × ℕ)) (v : ℤ) → IsSteady a b (with_sign sign v) (with_sign sign v)
with_sign_steady None v = value_steady v
with_sign_steady (Some s) v = number_steady _

-- the setting of the same statements, with calls of the interface and of routines that are answered so
abbrev pub setting : ℕ → Scope → ℕ → Answers → (ℕ → List Given → Part ℤ) → Setting
setting limit scope at answers does = record { answers = answers; limit = limit; scope = scope; number = at; does = does }

module _ (a b : Answers) (limit : ℕ) (scope : Scope) (at : ℕ) (one other : ℕ → List Given → Part ℤ)
    (does : (k : ℕ) (given : List Given) → IsSteady a b (one k given) (other k given)) where
  abbrev c : Setting
  c = setting limit scope at a one

  abbrev d : Setting
  d = setting limit scope at b other

  -- the same part in the two settings
  abbrev pub Alike : {A : Type 0} → (Setting → Part A) → Type 0
  Alike part = IsSteady a b (part c) (part d)

  pub then_alike : {A B : Type 0} {first other : Part A} (go : Setting → A → Part B) → IsSteady a b first other → ((v : A) → IsSteady a b (go c v) (go d v))
      → IsSteady a b (λ now. and_then (first now) (go c)) (λ now. and_then (other now) (go d))
  then_alike go steady others = then_steady (go c) (go d) steady others

  pub call_value_steady : (means : Means) (given : List Given) → Alike (λ s. call_value s means given)
  call_value_steady (meant.Routine k signature) given = does k given
  call_value_steady (meant.Function f) given = standard_steady f _
  call_value_steady (meant.Interface p) given = interface_steady limit p given
  call_value_steady (meant.Constant t v) given = value_steady _
  call_value_steady (meant.Variable owner t) given = value_steady _
  call_value_steady (meant.Array owner t bounds) given = value_steady _
  call_value_steady (meant.Reference t) given = value_steady _
  call_value_steady (meant.TypeName t) given = value_steady _
  call_value_steady meant.Nothing given = value_steady _

  named_steady : (means : Means) (x : List ℕ) → Alike (λ s. named_value s means x)
  named_steady (meant.Constant t v) x = value_steady v
  named_steady (meant.Variable owner t) x = gives_steady (λ now. value_at (place_named (meant.Variable owner t) at x now) now) (λ now. now) (λ now. refl)
  named_steady (meant.Reference t) x = gives_steady (λ now. value_at (place_named (meant.Reference t) at x now) now) (λ now. now) (λ now. refl)
  named_steady (meant.Routine k signature) x = does k []
  named_steady (meant.Array owner t bounds) x = value_steady _
  named_steady (meant.Function f) x = value_steady _
  named_steady (meant.Interface p) x = value_steady _
  named_steady (meant.TypeName t) x = value_steady _
  named_steady meant.Nothing x = value_steady _

  mutual
    pub expr_steady : (e : Expr) → Alike (λ s. expr_value s e)
    expr_steady (alone s) = simple_steady s
    expr_steady (compared l r line t) =
        let right : ℤ → ℤ → Part ℤ = λ left v. Gives (compared_values r left v) in
        then_alike (λ s left mid. and_then (simple_value s t mid) (right left)) (simple_steady l) (λ left.
        then_alike (λ s. right left) (simple_steady t) (λ v. value_steady _))

    pub simple_steady : (e : Simple) → Alike (λ s. simple_value s e)
    simple_steady (simple sign t more) =
        then_alike (λ s v mid. and_then (with_sign sign v mid) (addends_value s more)) (term_steady t) (λ v.
        then_alike (λ s. addends_value s more) (with_sign_steady sign v) (λ first. addends_steady more first))

    pub addends_steady : (e : Addends) (left : ℤ) → Alike (λ s. addends_value s e left)
    addends_steady no_addend left = value_steady left
    addends_steady (addend op line t more) left =
        then_alike (λ s right mid. and_then (number_or_overflow (added op left right) mid) (addends_value s more)) (term_steady t) (λ right.
        then_alike (λ s. addends_value s more) (number_steady (added op left right)) (λ v. addends_steady more v))

    pub term_steady : (t : Term) → Alike (λ s. term_value s t)
    term_steady (term f more) = then_alike (λ s. multipliers_value s more) (factor_steady f) (λ v. multipliers_steady more v)

    pub multipliers_steady : (m : Multipliers) (left : ℤ) → Alike (λ s. multipliers_value s m left)
    multipliers_steady no_multiplier left = value_steady left
    multipliers_steady (multiplier op line f more) left =
        then_alike (λ s right mid. and_then (number_or_overflow (multiplied op left right) mid) (multipliers_value s more)) (factor_steady f) (λ right.
        then_alike (λ s. multipliers_value s more) (number_steady (multiplied op left right)) (λ v. multipliers_steady more v))

    pub factor_steady : (f : Factor) → Alike (λ s. factor_value s f)
    factor_steady (number n) = value_steady _
    factor_steady (character x) = value_steady _
    factor_steady (named x) = named_steady (scope x.letters) x.letters
    factor_steady (element x i) =
        let array = array_named (scope x.letters) at x.letters in
        then_alike (λ s v then_is. Gives (element_at array v then_is) then_is) (index_steady array.bounds i)
        (λ v. gives_steady (element_at array v) (λ now. now) (λ now. refl))
    factor_steady (called x args) =
        let means = scope x.letters in
        then_alike (λ s. call_value s means) (arguments_steady (passing_named means) args) (λ given. call_value_steady means given)
    factor_steady (group opening e closing) = expr_steady e
    factor_steady (negated line f) = then_alike (λ s v. Gives (truth (not (holds v)))) (factor_steady f) (λ v. value_steady _)

    pub index_steady : (bounds : Bounds) (i : Index) → Alike (λ s. index_value s bounds i)
    index_steady bounds (index opening e closing) = then_alike (λ s. within bounds) (expr_steady e) (λ v. within_steady bounds v)

    pub arguments_steady : (passing : List Passing) (args : Arguments) → Alike (λ s. arguments_given s passing args)
    arguments_steady [] (arguments opening e more closing) = value_steady []
    arguments_steady (p ∷ others) (arguments opening e more closing) =
        let behind : Given → List Given → Part (List Given) = λ first given. Gives (first ∷ given) in
        then_alike (λ s first mid. and_then (exprs_given s others more mid) (behind first))
        (passed_steady p (scope (name_in e)) at (name_in e) (expr_steady e)) (λ first.
        then_alike (λ s. behind first) (exprs_steady others more) (λ given. value_steady (first ∷ given)))

    pub exprs_steady : (passing : List Passing) (es : Exprs) → Alike (λ s. exprs_given s passing es)
    exprs_steady [] no_expr = value_steady []
    exprs_steady (p ∷ others) no_expr = value_steady []
    exprs_steady [] (next_expr comma e more) = value_steady []
    exprs_steady (p ∷ others) (next_expr comma e more) =
        let behind : Given → List Given → Part (List Given) = λ first given. Gives (first ∷ given) in
        then_alike (λ s first mid. and_then (exprs_given s others more mid) (behind first))
        (passed_steady p (scope (name_in e)) at (name_in e) (expr_steady e)) (λ first.
        then_alike (λ s. behind first) (exprs_steady others more) (λ given. value_steady (first ∷ given)))

  pub true_steady : (e : Expr) → Alike (λ s. is_true s e)
  true_steady e = then_alike (λ s v. Gives (holds v)) (expr_steady e) (λ v. value_steady _)

  pub false_steady : (e : Expr) → Alike (λ s. is_false s e)
  false_steady e = then_alike (λ s v. Gives (not (holds v))) (expr_steady e) (λ v. value_steady _)

-- How many instructions expressions have.
use Rattle.std.proofs.Common.{◌≡◌, ℕ, ◌+◌, List, [], ◌∷◌, ◌++◌, length, arith, refl, ap, ◌∙◌, length-append, Option, Some, None}
use Rattle.stack_code.specs.declared.table.Op.TheVariants as op
use Rattle.pascal_tree.specs.declared.expression.Sign.{Sign}
use Rattle.pascal_tree.specs.declared.expression.Sign.TheVariants as sign
use Rattle.pascal_tree.specs.Expression.{Expr, alone, compared, Simple, simple, Addends, no_addend, addend, Term, term, Multipliers, no_multiplier, multiplier, Factor, number, character, named, element, called, group, negated, Index, index, Arguments, arguments, Exprs, no_expr, next_expr}
use Rattle.pascal_mean.specs.Means.{Means}
use Rattle.pascal_mean.specs.Calls.{Passing, passing_named}
use Rattle.pascal_mean.specs.Expressions.{name_in}
use Rattle.pascal_code.specs.Instructions.{bare}
use Rattle.pascal_mean.specs.Scope.{Scope}
use Rattle.pascal_code.specs.Senses.{Sense, AreSenses, sense, Site}
use Rattle.pascal_code.specs.Names.{name_code, test_code, element_code}
use Rattle.pascal_code.specs.Calls.{passing_of, passed_code, given_arguments, call_code}
use Rattle.pascal_code.specs.Expressions.{relation_op, adding_op, multiplying_op, sign_code, expr_code, simple_code, addends_code, term_code, multipliers_code, factor_code, index_code, arguments_code, exprs_code}
use Rattle.pascal_code.specs.Size.{passed_size, sign_size, expr_size, simple_size, addends_size, term_size, multipliers_size, factor_size, index_size, arguments_size, exprs_size}
use Rattle.pascal_code.proofs.SensesAgree.{passing_alike}
use Rattle.pascal_code.proofs.SizesOfNames.{name_sized, test_sized, element_sized, passed_sized, call_sized}

sign_sized : (s : Option (Sign × ℕ)) → length (sign_code s) ≡ sign_size s
sign_sized None = refl
sign_sized (Some (sign.Plus, line)) = refl
sign_sized (Some (sign.Minus, line)) = refl

-- the parts of lists that stand behind each other
pub two : {A : Type 0} (a b : List A) (m n : ℕ) → length a ≡ m → length b ≡ n → length (a ++ b) ≡ m + n
two a b m n h i = omega (arith, length-append a b, h, i)

module _ (site : Site) (scope : Scope) (are : AreSenses scope site.names) where
  argument_sized : (m : Means) (s : Sense) → ((a : ℕ) × (s ≡ sense m a)) → (p : Passing) (e : Expr)
      → length (expr_code site e) ≡ expr_size scope e
      → length (passed_code s p (site.names (name_in e)) (expr_code site e))
      ≡ passed_size m p (scope (name_in e)) (expr_size scope e)
  argument_sized m s is p e sized =
      let x = name_in e in
      ap (λ c. length (passed_code c p (site.names x) (expr_code site e))) is.1
      ∙ ap (λ g. length (passed_code (sense m is.0) p g (expr_code site e))) (are x).1
      ∙ passed_sized m is.0 p (scope x) (are x).0 (expr_code site e)
      ∙ ap (passed_size m p (scope x)) sized

  mutual
    pub expr_sized : (e : Expr) → length (expr_code site e) ≡ expr_size scope e
    expr_sized (alone s) = simple_sized s
    expr_sized (compared s r line t) =
        omega (
          arith,
          length-append (simple_code site s) (simple_code site t ++ bare (relation_op r) ∷ []),
          length-append (simple_code site t) (bare (relation_op r) ∷ []),
          simple_sized s,
          simple_sized t,
        )

    simple_sized : (s : Simple) → length (simple_code site s) ≡ simple_size scope s
    simple_sized (simple sign t more) =
        omega (
          arith,
          length-append (term_code site t) (sign_code sign ++ addends_code site more),
          length-append (sign_code sign) (addends_code site more),
          term_sized t,
          sign_sized sign,
          addends_sized more,
        )

    addends_sized : (a : Addends) → length (addends_code site a) ≡ addends_size scope a
    addends_sized no_addend = refl
    addends_sized (addend a line t more) =
        omega (
          arith,
          length-append (term_code site t) (bare (adding_op a) ∷ addends_code site more),
          term_sized t,
          addends_sized more,
        )

    term_sized : (t : Term) → length (term_code site t) ≡ term_size scope t
    term_sized (term f more) = two (factor_code site f) (multipliers_code site more) _ _ (factor_sized f) (multipliers_sized more)

    multipliers_sized : (m : Multipliers) → length (multipliers_code site m) ≡ multipliers_size scope m
    multipliers_sized no_multiplier = refl
    multipliers_sized (multiplier m line f more) =
        omega (
          arith,
          length-append (factor_code site f) (bare (multiplying_op m) ∷ multipliers_code site more),
          factor_sized f,
          multipliers_sized more,
        )

    factor_sized : (f : Factor) → length (factor_code site f) ≡ factor_size scope f
    factor_sized (number n) = refl
    factor_sized (character x) = refl
    factor_sized (named x) =
        ap (λ s. length (name_code s)) (are x.letters).1 ∙ name_sized (scope x.letters) (are x.letters).0
    factor_sized (element x i) =
        two (index_code site (site.names x.letters) i) (element_code (site.names x.letters)) _ _
        (index_sized (scope x.letters) (site.names x.letters) (are x.letters) i)
        (ap (λ s. length (element_code s)) (are x.letters).1 ∙ element_sized (scope x.letters) (are x.letters).0)
    factor_sized (called x a) =
        let m = scope x.letters in let s = site.names x.letters in let n = (are x.letters).0 in
        let is : s ≡ sense m n = (are x.letters).1 in
        two (arguments_code site s (passing_of s) a) (call_code site.result s (given_arguments site a)) _ _
        (ap (λ p. length (arguments_code site s p a)) (ap passing_of is ∙ passing_alike m n)
        ∙ arguments_sized m s (n, is) (passing_named m) a)
        (ap (λ c. length (call_code site.result c (given_arguments site a))) is ∙ call_sized site scope are m n a)
    factor_sized (group opening e closing) = expr_sized e
    factor_sized (negated line f) = omega (arith, length-append (factor_code site f) (bare op.Not ∷ []), factor_sized f)

    pub index_sized : (m : Means) (s : Sense) → ((a : ℕ) × (s ≡ sense m a)) → (i : Index)
        → length (index_code site s i) ≡ index_size scope m i
    index_sized m s is (index opening e closing) =
        two (expr_code site e) (test_code s) _ _ (expr_sized e)
        (ap (λ t. length (test_code t)) is.1 ∙ test_sized m is.0)

    pub arguments_sized : (m : Means) (s : Sense) → ((a : ℕ) × (s ≡ sense m a)) → (passing : List Passing) (a : Arguments)
        → length (arguments_code site s passing a) ≡ arguments_size scope m passing a
    arguments_sized m s is [] (arguments opening e more closing) = refl
    arguments_sized m s is (p ∷ others) (arguments opening e more closing) =
        two (passed_code s p (site.names (name_in e)) (expr_code site e)) (exprs_code site s others more) _ _
        (argument_sized m s is p e (expr_sized e)) (exprs_sized m s is others more)

    exprs_sized : (m : Means) (s : Sense) → ((a : ℕ) × (s ≡ sense m a)) → (passing : List Passing) (e : Exprs)
        → length (exprs_code site s passing e) ≡ exprs_size scope m passing e
    exprs_sized m s is [] no_expr = refl
    exprs_sized m s is (p ∷ others) no_expr = refl
    exprs_sized m s is [] (next_expr comma e more) = refl
    exprs_sized m s is (p ∷ others) (next_expr comma e more) =
        two (passed_code s p (site.names (name_in e)) (expr_code site e)) (exprs_code site s others more) _ _
        (argument_sized m s is p e (expr_sized e)) (exprs_sized m s is others more)

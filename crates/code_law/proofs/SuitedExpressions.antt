-- An expression that breaks no rule suits its names.
use Rattle.std.proofs.Common.{◌≡◌, ℕ, ◌≤◌, true, false, not, ◌&&◌, ◌||◌, ◌==◌, List, [], ◌∷◌, ◌++◌, length, Option, Some, None, is_some, refl, sym, ap, subst, ◌∙◌, arith}
use Rattle.std.proofs.lemmas.Bool.{eqb-true}
use Rattle.solo_base.specs.declared.interface.Procedure.{Procedure}
use Rattle.solo_base.specs.declared.interface.Procedure.TheVariants as row
use Rattle.pascal_tree.specs.Word.{NameAt, AreWords}
use Rattle.pascal_tree.specs.Expression.{Expr, alone, compared, Simple, simple, Addends, no_addend, addend, Term, term, Multipliers, no_multiplier, multiplier, Factor, number, character, named, element, called, group, negated, Index, index, Arguments, arguments, Exprs, no_expr, next_expr}
use Rattle.pascal_tree.specs.SpellExpression.{symbol_at, relation_symbol, spelled_sign, spelled_expr, spelled_simple, spelled_addends, spelled_term, spelled_multipliers, spelled_factor, spelled_index, spelled_arguments, spelled_exprs}
use Rattle.pascal_tree.specs.Scopes as rules
use Rattle.pascal_tree.specs.Scopes.{means_of, is_scalar, elements}
use Rattle.pascal_tree.specs.ExpressionRules.{Judged, breaks, judged_expr, judged_simple, judged_term, judged_factor, judged_addends, judged_multipliers, judged_sign, judged_adding, judged_multiplying, judged_index, judged_arguments, judged_exprs, judged_name, judged_element_of, judged_called, judged_as, simple_type, term_type, factor_type, index_type, signed_type, no_value, is_array, is_variable, is_characters, parameters_of, count_arguments, count_exprs, arguments_suit, all_suit, suits, plain_name, plain_means, agree}
use Rattle.pascal_tree.specs.DeclarationRules.{first_broken}
use Rattle.pascal_tree.specs.declared.scalar.Scalar.{Scalar}
use Rattle.pascal_tree.specs.declared.scalar.Scalar.TheVariants as scalar
use Rattle.pascal_tree.specs.declared.scalar.VariableType.TheVariants as variable_type
use Rattle.pascal_tree.specs.declared.parameter.Parameter.{Parameter}
use Rattle.pascal_tree.specs.declared.parameter.Parameter.TheVariants as parameter
use Rattle.pascal_tree.specs.declared.means.Means.{Means}
use Rattle.pascal_tree.specs.declared.means.Means.TheVariants as means
use Rattle.pascal_check.specs.Has.{IsFunction}
use Rattle.pascal_check.proofs.Unbroken.{before, behind, tested, function_called}
use Rattle.pascal_mean.specs.Calls.{Passing, ByValue, ByVariable, ByArray, row_passing}
use Rattle.pascal_mean.specs.Expressions.{name_in}
use Rattle.pascal_code.specs.Senses.{Sense, Constant, Variable, Array, Reference, Routine, Function, Interface, Nothing}
use Rattle.pascal_code.specs.Calls.{passing_of}
use Rattle.code_law.specs.Suits.{Routines, CanLoad, CanIndex, IsScalar, IsArrayOf, CanCall, CanPass, SuitsExpr, SuitsSimple, SuitsAddends, SuitsTerm, SuitsMultipliers, SuitsFactor, SuitsIndex, SuitsArguments, SuitsExprs}
use Rattle.code_law.proofs.Numbers.{words_before, words_behind}
use Rattle.code_law.proofs.Tests.{never, not_so, is_so, both_so}
use Rattle.code_law.proofs.Senses.{Wants, AreWanted, IsNamed}

-- a row takes some argument
some_argument : (callee : Sense) (p : Procedure) → AreWanted callee [] (row_passing p) → ⊥
some_argument callee row.Read h = h
some_argument callee row.Write h = h
some_argument callee row.WriteInt h = h
some_argument callee row.Accept h = h
some_argument callee row.Display h = h
some_argument callee row.Open h = h
some_argument callee row.Close h = h
some_argument callee row.Get h = h
some_argument callee row.Put h = h
some_argument callee row.Length h = h
some_argument callee row.Lookup h = h
some_argument callee row.ReadArg h = h
some_argument callee row.WriteArg h = h
some_argument callee row.Run h = h

pub none_passed : (callee : Sense) (bs : List Passing) → AreWanted callee [] bs → bs ≡ []
none_passed callee [] h = refl
none_passed callee (b ∷ bs) h = absurd h

-- the name that an expression is, and that it is judged as one
abbrev IsPlain : rules.Scope → Expr → Option NameAt → Type 0
IsPlain s e None = Unit {0}
IsPlain s e (Some x) = (name_in e ≡ x.letters) × (judged_expr s e ≡ judged_name s x false)

plain : (s : rules.Scope) (e : Expr) → IsPlain s e (plain_name e)
plain s (compared a r l b) = tt
plain s (alone (simple (Some sign) t more)) = tt
plain s (alone (simple None (term (number n) more) others)) = tt
plain s (alone (simple None (term (character n) more) others)) = tt
plain s (alone (simple None (term (element x i) more) others)) = tt
plain s (alone (simple None (term (called x a) more) others)) = tt
plain s (alone (simple None (term (group o e c) more) others)) = tt
plain s (alone (simple None (term (negated l f) more) others)) = tt
plain s (alone (simple None (term (named x) (multiplier m l f more)) others)) = tt
plain s (alone (simple None (term (named x) no_multiplier) (addend a l t more))) = tt
plain s (alone (simple None (term (named x) no_multiplier) no_addend)) = (refl, refl)

some_given : (a : Arguments) → 1 ≤ count_arguments a
some_given (arguments o e more c) = omega arith

module _ (rs : Routines) where
  scalar_loads : (n : Sense) → IsScalar n → CanLoad rs n
  scalar_loads (Variable o a) h = tt
  scalar_loads (Reference a) h = tt
  scalar_loads (Constant v) h = absurd h
  scalar_loads (Array o a b) h = absurd h
  scalar_loads (Routine k passing) h = absurd h
  scalar_loads (Function f) h = absurd h
  scalar_loads (Interface p) h = absurd h
  scalar_loads Nothing h = absurd h

  function_loads : (n : Sense) → CanCall rs true n → AreWanted n [] (passing_of n) → CanLoad rs n
  function_loads (Routine k passing) h wanted = (h, none_passed (Routine k passing) passing wanted)
  function_loads (Function f) h wanted = absurd wanted
  function_loads (Interface p) h wanted = absurd (some_argument (Interface p) p wanted)
  function_loads (Variable o a) h wanted = absurd h
  function_loads (Reference a) h wanted = absurd h
  function_loads (Constant v) h wanted = absurd h
  function_loads (Array o a b) h wanted = absurd h
  function_loads Nothing h wanted = absurd h

  name_loads : (m : Option Means) (n : Sense) (l : ℕ) → IsNamed rs m n
      → first_broken (breaks 2 (not (is_some m)) l ∷ breaks 3 (no_value m) l ∷ breaks 11 (is_array m && not false) l
      ∷ breaks 12 (not (length (parameters_of m) == 0)) l ∷ []) ≡ None
      → CanLoad rs n
  name_loads None n l is h = never h
  name_loads (Some (means.Constant t v)) n l is h = is.1.1
  name_loads (Some (means.Variable (variable_type.Plain t))) n l is h = scalar_loads n is
  name_loads (Some (means.Variable (variable_type.Array low high t))) n l is h = never h
  name_loads (Some (means.Reference t)) n l is h = scalar_loads n is
  name_loads (Some (means.Procedure ps)) n l is h = never h
  name_loads (Some (means.Function [] t)) n l is h = function_loads n is.0 is.1
  name_loads (Some (means.Function (p ∷ ps) t)) n l is h =
      absurd (omega (arith, eqb-true (length (p ∷ ps)) 0 (is_so (length (p ∷ ps) == 0) (tested 12 l (not (length (p ∷ ps) == 0)) [] h).0)))
  name_loads (Some (means.TypeName t)) n l is h = never h

  name_indexes : (m : Option Means) (n : Sense) (t : Option Scalar) (l : ℕ) → IsNamed rs m n
      → first_broken (breaks 2 (not (is_some m)) l ∷ breaks 3 (no_value m) l
      ∷ breaks 11 (not (is_array m) || not (is_scalar t scalar.Integer)) l ∷ []) ≡ None
      → CanIndex n
  name_indexes None n t l is h = never h
  name_indexes (Some (means.Constant u v)) n t l is h = never h
  name_indexes (Some (means.Variable (variable_type.Plain u))) n t l is h = never h
  name_indexes (Some (means.Variable (variable_type.Array low high u))) n t l is h = is.0
  name_indexes (Some (means.Reference u)) n t l is h = never h
  name_indexes (Some (means.Procedure ps)) n t l is h = never h
  name_indexes (Some (means.Function ps u)) n t l is h = never h
  name_indexes (Some (means.TypeName u)) n t l is h = never h

  name_calls : (m : Option Means) (n : Sense) (count : ℕ) → IsNamed rs m n → IsFunction m count
      → CanCall rs true n × (AreWanted n (parameters_of m) (passing_of n) × (count ≡ length (parameters_of m)))
  name_calls None n count is h = absurd h
  name_calls (Some (means.Constant t v)) n count is h = absurd h
  name_calls (Some (means.Variable t)) n count is h = absurd h
  name_calls (Some (means.Reference t)) n count is h = absurd h
  name_calls (Some (means.Procedure ps)) n count is h = absurd h
  name_calls (Some (means.Function ps t)) n count is h = (is.0, (is.1, h))
  name_calls (Some (means.TypeName t)) n count is h = absurd h

  scalar_named : (m : Option Means) (n : Sense) (t : Scalar) → IsNamed rs m n → is_variable m t ≡ true → IsScalar n
  scalar_named None n t is h = not_so h
  scalar_named (Some (means.Constant u v)) n t is h = not_so h
  scalar_named (Some (means.Variable (variable_type.Plain u))) n t is h = is
  scalar_named (Some (means.Variable (variable_type.Array low high u))) n t is h = not_so h
  scalar_named (Some (means.Reference u)) n t is h = is
  scalar_named (Some (means.Procedure ps)) n t is h = not_so h
  scalar_named (Some (means.Function ps u)) n t is h = not_so h
  scalar_named (Some (means.TypeName u)) n t is h = not_so h

  array_named : (m : Option Means) (n : Sense) (size : ℕ) → IsNamed rs m n → is_characters m size ≡ true → IsArrayOf size n
  array_named None n size is h = not_so h
  array_named (Some (means.Constant u v)) n size is h = not_so h
  array_named (Some (means.Variable (variable_type.Plain u))) n size is h = not_so h
  array_named (Some (means.Variable (variable_type.Array low high scalar.Integer))) n size is h = not_so h
  array_named (Some (means.Variable (variable_type.Array low high scalar.Boolean))) n size is h = not_so h
  array_named (Some (means.Variable (variable_type.Array low high scalar.Character))) n size is h =
      subst (λ (k : ℕ). IsArrayOf k n) (eqb-true (elements low high) size h) is.1
  array_named (Some (means.Reference u)) n size is h = not_so h
  array_named (Some (means.Procedure ps)) n size is h = not_so h
  array_named (Some (means.Function ps u)) n size is h = not_so h
  array_named (Some (means.TypeName u)) n size is h = not_so h

  -- ---- Nodes
  module _ (s : rules.Scope) (names : List ℕ → Sense) (are : (x : List ℕ) → IsNamed rs (means_of s x) (names x)) where
    -- an argument that is judged as a value is judged as an expression
    value_judged : (e : Expr) (t : Scalar) → first_broken (judged_as s (Some (parameter.Value t)) (plain_name e) (judged_expr s e)) ≡ None
        → first_broken (judged_expr s e) ≡ None
    value_judged e t h = by (plain_name e) (plain s e) h
      where
        by : (o : Option NameAt) → IsPlain s e o → first_broken (judged_as s (Some (parameter.Value t)) o (judged_expr s e)) ≡ None
            → first_broken (judged_expr s e) ≡ None
        by None p g = g
        by (Some x) p g = ap first_broken p.1 ∙ g

    scalar_given : (e : Expr) (t : Scalar) → is_variable (plain_means s (plain_name e)) t ≡ true → IsScalar (names (name_in e))
    scalar_given e t h = by (plain_name e) (plain s e) h
      where
        by : (o : Option NameAt) → IsPlain s e o → is_variable (plain_means s o) t ≡ true → IsScalar (names (name_in e))
        by None p g = not_so g
        by (Some x) p g = subst (λ (y : List ℕ). IsScalar (names y)) (sym p.0) (scalar_named (means_of s x.letters) (names x.letters) t (are x.letters) g)

    array_given : (e : Expr) (n : ℕ) → is_characters (plain_means s (plain_name e)) n ≡ true → IsArrayOf n (names (name_in e))
    array_given e n h = by (plain_name e) (plain s e) h
      where
        by : (o : Option NameAt) → IsPlain s e o → is_characters (plain_means s o) n ≡ true → IsArrayOf n (names (name_in e))
        by None p g = not_so g
        by (Some x) p g = subst (λ (y : List ℕ). IsArrayOf n (names y)) (sym p.0) (array_named (means_of s x.letters) (names x.letters) n (are x.letters) g)

    can_pass : (callee : Sense) (p : Parameter) (b : Passing) (e : Expr) → Wants callee p b → suits s e p ≡ true
        → first_broken (judged_as s (Some p) (plain_name e) (judged_expr s e)) ≡ None
        → (first_broken (judged_expr s e) ≡ None → SuitsExpr rs names e)
        → CanPass callee b (names (name_in e)) (SuitsExpr rs names e)
    can_pass callee (parameter.Value t) ByValue e wants suit none inner = inner (value_judged e t none)
    can_pass callee (parameter.VariableOf t) ByVariable e wants suit none inner = (wants, scalar_given e t suit)
    can_pass callee (parameter.Characters n) ByArray e wants suit none inner =
        (wants.0, subst (λ (k : ℕ). IsArrayOf k (names (name_in e))) (sym wants.1) (array_given e n suit))
    can_pass callee (parameter.Value t) ByVariable e wants suit none inner = absurd wants
    can_pass callee (parameter.Value t) ByArray e wants suit none inner = absurd wants
    can_pass callee (parameter.VariableOf t) ByValue e wants suit none inner = absurd wants
    can_pass callee (parameter.VariableOf t) ByArray e wants suit none inner = absurd wants
    can_pass callee (parameter.Characters n) ByValue e wants suit none inner = absurd wants
    can_pass callee (parameter.Characters n) ByVariable e wants suit none inner = absurd wants

    mutual
      pub expr_suits : (e : Expr) → AreWords (spelled_expr e) → first_broken (judged_expr s e) ≡ None → SuitsExpr rs names e
      expr_suits (alone x) words none = simple_suits x words none
      expr_suits (compared x r l y) words none =
          let rest : Judged = breaks 8 (not (agree (simple_type s x) (simple_type s y))) l ∷ [] in (
            simple_suits x (words_before (spelled_simple x) _ words) (before (judged_simple s x) (judged_simple s y ++ rest) none),
            simple_suits y (words_behind (spelled_simple x) (symbol_at (relation_symbol r) l ∷ spelled_simple y) words).1
                (before (judged_simple s y) rest (behind (judged_simple s x) (judged_simple s y ++ rest) none)),
          )

      simple_suits : (x : Simple) → AreWords (spelled_simple x) → first_broken (judged_simple s x) ≡ None → SuitsSimple rs names x
      simple_suits (simple sign t more) words none =
          let rest = judged_sign sign (term_type s t) ++ judged_adding s (signed_type sign (term_type s t)) more in
          let inner = words_behind (spelled_sign sign) (spelled_term t ++ spelled_addends more) words in (
            term_suits t (words_before (spelled_term t) (spelled_addends more) inner) (before (judged_term s t) (judged_addends s more ++ rest) none),
            addends_suit more (words_behind (spelled_term t) (spelled_addends more) inner)
                (before (judged_addends s more) rest (behind (judged_term s t) (judged_addends s more ++ rest) none)),
          )

      addends_suit : (more : Addends) → AreWords (spelled_addends more) → first_broken (judged_addends s more) ≡ None → SuitsAddends rs names more
      addends_suit no_addend words none = tt
      addends_suit (addend a l t more) words none = (
        term_suits t (words_before (spelled_term t) (spelled_addends more) words.1) (before (judged_term s t) (judged_addends s more) none),
        addends_suit more (words_behind (spelled_term t) (spelled_addends more) words.1) (behind (judged_term s t) (judged_addends s more) none),
      )

      term_suits : (t : Term) → AreWords (spelled_term t) → first_broken (judged_term s t) ≡ None → SuitsTerm rs names t
      term_suits (term f more) words none =
          let rest = judged_multiplying s (factor_type s f) more in (
            factor_suits f (words_before (spelled_factor f) (spelled_multipliers more) words)
                (before (judged_factor s f) (judged_multipliers s more ++ rest) none),
            multipliers_suit more (words_behind (spelled_factor f) (spelled_multipliers more) words)
                (before (judged_multipliers s more) rest (behind (judged_factor s f) (judged_multipliers s more ++ rest) none)),
          )

      multipliers_suit : (more : Multipliers) → AreWords (spelled_multipliers more) → first_broken (judged_multipliers s more) ≡ None
          → SuitsMultipliers rs names more
      multipliers_suit no_multiplier words none = tt
      multipliers_suit (multiplier m l f more) words none = (
        factor_suits f (words_before (spelled_factor f) (spelled_multipliers more) words.1) (before (judged_factor s f) (judged_multipliers s more) none),
        multipliers_suit more (words_behind (spelled_factor f) (spelled_multipliers more) words.1)
            (behind (judged_factor s f) (judged_multipliers s more) none),
      )

      factor_suits : (f : Factor) → AreWords (spelled_factor f) → first_broken (judged_factor s f) ≡ None → SuitsFactor rs names f
      factor_suits (number n) words none = words.0
      factor_suits (character c) words none = omega (arith, words.0)
      factor_suits (named x) words none = name_loads (means_of s x.letters) (names x.letters) x.line (are x.letters) none
      factor_suits (element x i) words none = (
        name_indexes (means_of s x.letters) (names x.letters) (index_type s i) x.line (are x.letters)
            (behind (judged_index s i) (judged_element_of s x (index_type s i)) none),
        index_suits i words.1 (before (judged_index s i) (judged_element_of s x (index_type s i)) none),
      )
      factor_suits (called x a) words none =
          let m = means_of s x.letters in
          let ps = parameters_of m in
          let call = judged_called s x (count_arguments a) (arguments_suit s a ps) in
          let h = function_called m x.line (count_arguments a) (arguments_suit s a ps) (some_given a) (behind (judged_arguments s a ps) call none) in
          let c = name_calls m (names x.letters) (count_arguments a) (are x.letters) h.1 in
          (c.0, arguments_suits (names x.letters) a ps (passing_of (names x.letters)) c.1.0 words.1 (before (judged_arguments s a ps) call none) h.0 c.1.1)
      factor_suits (group o e c) words none = expr_suits e (words_before (spelled_expr e) _ words.1) none
      factor_suits (negated l f) words none =
          factor_suits f words.1 (before (judged_factor s f) (breaks 8 (not (is_scalar (factor_type s f) scalar.Boolean)) l ∷ []) none)

      pub index_suits : (i : Index) → AreWords (spelled_index i) → first_broken (judged_index s i) ≡ None → SuitsIndex rs names i
      index_suits (index o e c) words none = expr_suits e (words_before (spelled_expr e) _ words.1) none

      pub arguments_suits : (callee : Sense) (a : Arguments) (ps : List Parameter) (bs : List Passing) → AreWanted callee ps bs → AreWords (spelled_arguments a)
          → first_broken (judged_arguments s a ps) ≡ None → arguments_suit s a ps ≡ true → count_arguments a ≡ length ps → SuitsArguments rs names callee bs a
      arguments_suits callee (arguments o e more c) [] bs wanted words none suit count = absurd (omega (arith, count))
      arguments_suits callee (arguments o e more c) (p ∷ ps) [] wanted words none suit count = absurd wanted
      arguments_suits callee (arguments o e more c) (p ∷ ps) (b ∷ bs) wanted words none suit count =
          let first = judged_as s (Some p) (plain_name e) (judged_expr s e) in
          let both = both_so (suits s e p) (all_suit s more ps) suit in
          let inner = words.1 in (
            can_pass callee p b e wanted.0 both.0 (before first (judged_exprs s more ps) none) (expr_suits e (words_before (spelled_expr e) _ inner)),
            exprs_suit callee more ps bs wanted.1 (words_before (spelled_exprs more) _ (words_behind (spelled_expr e) _ inner))
                (behind first (judged_exprs s more ps) none) both.1 (omega (arith, count)),
          )

      exprs_suit : (callee : Sense) (more : Exprs) (ps : List Parameter) (bs : List Passing) → AreWanted callee ps bs → AreWords (spelled_exprs more)
          → first_broken (judged_exprs s more ps) ≡ None → all_suit s more ps ≡ true → count_exprs more ≡ length ps → SuitsExprs rs names callee bs more
      exprs_suit callee no_expr [] [] wanted words none suit count = tt
      exprs_suit callee no_expr [] (b ∷ bs) wanted words none suit count = absurd wanted
      exprs_suit callee no_expr (p ∷ ps) bs wanted words none suit count = absurd (omega (arith, count))
      exprs_suit callee (next_expr l e more) [] bs wanted words none suit count = absurd (omega (arith, count))
      exprs_suit callee (next_expr l e more) (p ∷ ps) [] wanted words none suit count = absurd wanted
      exprs_suit callee (next_expr l e more) (p ∷ ps) (b ∷ bs) wanted words none suit count =
          let first = judged_as s (Some p) (plain_name e) (judged_expr s e) in
          let both = both_so (suits s e p) (all_suit s more ps) suit in (
            can_pass callee p b e wanted.0 both.0 (before first (judged_exprs s more ps) none)
                (expr_suits e (words_before (spelled_expr e) (spelled_exprs more) words.1)),
            exprs_suit callee more ps bs wanted.1 (words_behind (spelled_expr e) (spelled_exprs more) words.1)
                (behind first (judged_exprs s more ps) none) both.1 (omega (arith, count)),
          )

-- How high the operand stack stands along the code of expressions, calls and assignments.
use Rattle.std.proofs.Common.{◌≡◌, ℕ, ◌+◌, ◌-◌, ◌*◌, ◌≤◌, Bool, true, false, Some, None, Option, List, [], ◌∷◌, ◌++◌, pos, refl, sym, ◌∙◌, ap, arith}
use Rattle.std.proofs.lemmas.Bool.{true≢false}
use Rattle.stack_code.specs.declared.table.Op.TheVariants as op
use Rattle.stack_code.specs.CodeLists.{CodeLists, routine_at}
use Rattle.stack_code.specs.CodeFile.{mark}
use Rattle.pascal_tree.specs.Word.{NameAt}
use Rattle.pascal_tree.specs.Expression.{Expr, alone, compared, Simple, simple, Addends, no_addend, addend, Term, term, Multipliers, no_multiplier, multiplier, Factor, number, character, named, element, called, group, negated, Index, index, Arguments, arguments, Exprs, no_expr, next_expr}
use Rattle.pascal_tree.specs.Limits.{most_levels, ExprFits, SimpleFits, AddendsFit, TermFits, MultipliersFit, FactorFits, IndexFits, ArgumentsFit, ExprsFit, CallFits}
use Rattle.pascal_mean.specs.Calls.{Passing, ByValue, ByVariable, ByArray}
use Rattle.pascal_mean.specs.Expressions.{name_in}
use Rattle.pascal_code.specs.Instructions.{bare, with_a, operand}
use Rattle.pascal_code.specs.Senses.{Sense, Constant, Variable, Array, Reference, Routine, Function, Interface, Nothing, Site}
use Rattle.pascal_code.specs.Names.{name_code, store_code, test_code, element_code, store_element_code}
use Rattle.pascal_code.specs.Calls.{passing_of, variable_code, given_arguments, call_code}
use Rattle.pascal_code.specs.Expressions.{relation_op, adding_op, multiplying_op, sign_code, expr_code, simple_code, addends_code, term_code, multipliers_code, factor_code, index_code, arguments_code, exprs_code}
use Rattle.pascal_code.specs.Statements.{call_statement_code}
use Rattle.code_law.specs.Heights.{Lift, passed_words, HasRoom}
use Rattle.code_law.specs.Suits.{Routines, IsRoutineOf, CanLoad, CanIndex, CanStore, CanCall, SuitsExpr, SuitsSimple, SuitsAddends, SuitsTerm, SuitsMultipliers, SuitsFactor, SuitsIndex, SuitsArguments, SuitsExprs, SuitsCall}
use Rattle.code_law.proofs.LiftedParts.{lifts, lift_wider, lift_moved, lift_step, relation_is, adding_is, multiplying_is, binary_lifts, unary_lifts, sign_lifts, push_lifts, load_lifts, store_lifts, test_lifts, element_lifts, store_element_lifts, variable_words, words_passed, routine_passes, variable_lifts, AreVariables, arguments_among, none_among, row_few, row_lifts, standard_lifts}

module _ {c : CodeLists} {k : ℕ} {rs : Routines} {site : Site} {in_function : Bool} (room : HasRoom c k rs site in_function) (most : ℕ) where
  -- a routine takes what is passed to it, and leaves its result
  routine_lifts : (x : List ℕ) (j : ℕ) (passing : List Passing) (gives : Bool) (h : ℕ) → site.names x ≡ Routine j passing
      → IsRoutineOf rs j passing gives → h + mark gives ≤ most
      → Lift c (h + mark gives) most (with_a op.Call j ∷ []) (h + passed_words passing) (h + mark gives)
  routine_lifts x j passing gives h is of low =
      let has = room.routine x j passing is in
      let pushed : mark (routine_at c j).function ≡ mark gives = ap mark (has.3 ∙ of.gives_is) in
      lift_step c (h + mark gives) most (with_a op.Call j) [] (h + passed_words passing) (h + mark gives) (h + mark gives) (omega (arith, has.2))
      (omega (arith, has.2, pushed)) (omega arith) low refl refl

  -- what is called takes at most 16 words
  pub passed_few : (x : List ℕ) (gives : Bool) (m : Sense) → site.names x ≡ m → CanCall rs gives m → words_passed m (passing_of m) ≤ 16
  passed_few x gives (Routine j passing) is can = omega (arith, routine_passes j passing passing, (room.routine x j passing is).4)
  passed_few x gives (Function f) is can = omega arith
  passed_few x gives (Interface p) is can = omega (arith, (row_few p).0)
  passed_few x gives (Constant v) is can = absurd can
  passed_few x gives (Variable o a) is can = absurd can
  passed_few x gives (Array o a b) is can = absurd can
  passed_few x gives (Reference a) is can = absurd can
  passed_few x gives Nothing is can = absurd can

  -- the call, behind its arguments
  pub call_lifts : (x : List ℕ) (gives : Bool) (m : Sense) (given : List Sense) (h : ℕ) → site.names x ≡ m → CanCall rs gives m
      → AreVariables (passing_of m) given → h + 2 ≤ most
      → Lift c (h + mark gives) most (call_code site.result m given) (h + words_passed m (passing_of m)) (h + mark gives)
  call_lifts x true (Routine j passing) given h is can are low =
      lift_moved c (h + 1) most (with_a op.Call j ∷ []) (h + passed_words passing) (h + 1) (h + words_passed (Routine j passing) passing) (h + 1)
      (ap (λ n. h + n) (sym (routine_passes j passing passing))) refl (routine_lifts x j passing true h is can (omega (arith, low)))
  call_lifts x false (Routine j passing) given h is can are low =
      lift_moved c (h + 0) most (with_a op.Call j ∷ []) (h + passed_words passing) (h + 0) (h + words_passed (Routine j passing) passing) (h + 0)
      (ap (λ n. h + n) (sym (routine_passes j passing passing))) refl (routine_lifts x j passing false h is can (omega (arith, low)))
  call_lifts x true (Function f) given h is can are low = standard_lifts c most f h (omega (arith, low))
  call_lifts x false (Function f) given h is can are low = absurd (true≢false (sym can))
  call_lifts x gives (Interface p) given h is can are low = row_lifts c most rs site.result p given gives h can are low
  call_lifts x gives (Constant v) given h is can are low = absurd can
  call_lifts x gives (Variable o a) given h is can are low = absurd can
  call_lifts x gives (Array o a b) given h is can are low = absurd can
  call_lifts x gives (Reference a) given h is can are low = absurd can
  call_lifts x gives Nothing given h is can are low = absurd can

  -- ---- Expressions

  name_lifts : (x : List ℕ) (m : Sense) (h : ℕ) → site.names x ≡ m → CanLoad rs m → h + 1 ≤ most → Lift c (h + 1) most (name_code m) h (h + 1)
  name_lifts x (Constant v) h is can low = push_lifts c most (operand v) h low
  name_lifts x (Variable o a) h is can low = load_lifts c (h + 1) most o a [] h (h + 1) (omega arith) low refl
  name_lifts x (Reference a) h is can low =
      lift_step c (h + 1) most (with_a op.LoadR a) [] h (h + 1) (h + 1) (omega arith) (omega arith) (omega arith) low refl refl
  name_lifts x (Routine j passing) h is can low =
      lift_moved c (h + 1) most (with_a op.Call j ∷ []) (h + passed_words passing) (h + 1) h (h + 1)
      (omega (arith, ap passed_words can.1)) refl (routine_lifts x j passing true h is can.0 low)
  name_lifts x (Array o a b) h is can low = absurd can
  name_lifts x (Function f) h is can low = absurd can
  name_lifts x (Interface p) h is can low = absurd can
  name_lifts x Nothing h is can low = absurd can

  mutual
    pub expr_lifts : (e : Expr) (h n : ℕ) → SuitsExpr rs site.names e → ExprFits e n → h + (19 * n + 3) ≤ most
        → Lift c (h + 1) most (expr_code site e) h (h + 1)
    expr_lifts (alone s) h n suits fits low = simple_lifts s h n suits fits (omega (arith, low))
    expr_lifts (compared s r line t) h n suits fits low =
        lifts c (h + 1) most (simple_code site s) (simple_code site t ++ bare (relation_op r) ∷ []) h (h + 1) (h + 1)
        (simple_lifts s h n suits.0 fits.0 (omega (arith, low)))
        (lifts c (h + 1) most (simple_code site t) (bare (relation_op r) ∷ []) (h + 1) (h + 1 + 1) (h + 1)
        (lift_wider c (h + 1 + 1) most (h + 1) most (simple_code site t) (h + 1) (h + 1 + 1) (omega arith) (omega arith)
        (simple_lifts t (h + 1) n suits.1 fits.1 (omega (arith, low))))
        (binary_lifts c most (relation_op r) [] h (h + 1) (relation_is c r) (omega (arith, low)) refl))

    pub simple_lifts : (s : Simple) (h n : ℕ) → SuitsSimple rs site.names s → SimpleFits s n → h + (19 * n + 2) ≤ most
        → Lift c (h + 1) most (simple_code site s) h (h + 1)
    simple_lifts (simple sign t more) h n suits fits low =
        lifts c (h + 1) most (term_code site t) (sign_code sign ++ addends_code site more) h (h + 1) (h + 1)
        (term_lifts t h n suits.0 fits.0 (omega (arith, low)))
        (lifts c (h + 1) most (sign_code sign) (addends_code site more) (h + 1) (h + 1) (h + 1) (sign_lifts c most sign h (omega (arith, low)))
        (addends_lift more h n suits.1 fits.1 low))

    pub addends_lift : (more : Addends) (h n : ℕ) → SuitsAddends rs site.names more → AddendsFit more n → h + (19 * n + 2) ≤ most
        → Lift c (h + 1) most (addends_code site more) (h + 1) (h + 1)
    addends_lift no_addend h n suits fits low = refl
    addends_lift (addend a line t more) h n suits fits low =
        lifts c (h + 1) most (term_code site t) (bare (adding_op a) ∷ addends_code site more) (h + 1) (h + 1 + 1) (h + 1)
        (lift_wider c (h + 1 + 1) most (h + 1) most (term_code site t) (h + 1) (h + 1 + 1) (omega arith) (omega arith)
        (term_lifts t (h + 1) n suits.0 fits.0 (omega (arith, low))))
        (binary_lifts c most (adding_op a) (addends_code site more) h (h + 1) (adding_is c a) (omega (arith, low))
        (addends_lift more h n suits.1 fits.1 low))

    pub term_lifts : (t : Term) (h n : ℕ) → SuitsTerm rs site.names t → TermFits t n → h + (19 * n + 1) ≤ most
        → Lift c (h + 1) most (term_code site t) h (h + 1)
    term_lifts (term f more) h n suits fits low =
        lifts c (h + 1) most (factor_code site f) (multipliers_code site more) h (h + 1) (h + 1) (factor_lifts f h n suits.0 fits.0 (omega (arith, low)))
        (multipliers_lift more h n suits.1 fits.1 low)

    pub multipliers_lift : (more : Multipliers) (h n : ℕ) → SuitsMultipliers rs site.names more → MultipliersFit more n → h + (19 * n + 1) ≤ most
        → Lift c (h + 1) most (multipliers_code site more) (h + 1) (h + 1)
    multipliers_lift no_multiplier h n suits fits low = refl
    multipliers_lift (multiplier m line f more) h n suits fits low =
        lifts c (h + 1) most (factor_code site f) (bare (multiplying_op m) ∷ multipliers_code site more) (h + 1) (h + 1 + 1) (h + 1)
        (lift_wider c (h + 1 + 1) most (h + 1) most (factor_code site f) (h + 1) (h + 1 + 1) (omega arith) (omega arith)
        (factor_lifts f (h + 1) n suits.0 fits.0 (omega (arith, low))))
        (binary_lifts c most (multiplying_op m) (multipliers_code site more) h (h + 1) (multiplying_is c m) (omega (arith, low))
        (multipliers_lift more h n suits.1 fits.1 low))

    pub factor_lifts : (f : Factor) (h n : ℕ) → SuitsFactor rs site.names f → FactorFits f n → h + 19 * n ≤ most
        → Lift c (h + 1) most (factor_code site f) h (h + 1)
    factor_lifts (number x) h n suits fits low = push_lifts c most (operand (pos x.value)) h (omega (arith, fits, low))
    factor_lifts (character x) h n suits fits low = push_lifts c most (operand (pos x.code)) h (omega (arith, fits, low))
    factor_lifts (named x) h n suits fits low = name_lifts x.letters (site.names x.letters) h refl suits (omega (arith, fits, low))
    factor_lifts (group opening e closing) h n suits fits low = expr_lifts e h (n - 1) suits fits.1 (omega (arith, fits.0, low))
    factor_lifts (negated line f) h n suits fits low =
        lifts c (h + 1) most (factor_code site f) (bare op.Not ∷ []) h (h + 1) (h + 1)
        (factor_lifts f h (n - 1) suits fits.1 (omega (arith, fits.0, low)))
        (unary_lifts c most op.Not [] h (h + 1) (record { pops_so = refl; pushes_so = refl; stays = refl }) (omega (arith, fits.0, low)) refl)
    factor_lifts (element x i) h n suits fits low =
        lifts c (h + 1) most (index_code site (site.names x.letters) i) (element_code (site.names x.letters)) h (h + 1) (h + 1)
        (index_lifts (site.names x.letters) i h (n - 1) suits.0 suits.1 fits.1 (omega (arith, fits.0, low)))
        (element_lifts c most (site.names x.letters) h suits.0 (omega (arith, fits.0, low)))
    factor_lifts (called x a) h n suits fits low =
        let callee = site.names x.letters in
        let few : words_passed callee (passing_of callee) ≤ 16 = passed_few x.letters true callee refl suits.0 in
        lifts c (h + 1) most (arguments_code site callee (passing_of callee) a) (call_code site.result callee (given_arguments site a)) h
        (h + words_passed callee (passing_of callee)) (h + 1)
        (arguments_lift callee (passing_of callee) a h (n - 1) suits.1 fits.1 (omega (arith, fits.0, few, low)))
        (call_lifts x.letters true callee (given_arguments site a) h refl suits.0
        (arguments_among rs site callee (passing_of callee) a suits.1) (omega (arith, fits.0, low)))

    pub index_lifts : (array : Sense) (i : Index) (h n : ℕ) → CanIndex array → SuitsIndex rs site.names i → IndexFits i n → h + (19 * n + 3) ≤ most
        → Lift c (h + 1) most (index_code site array i) h (h + 1)
    index_lifts array (index opening e closing) h n can suits fits low =
        lifts c (h + 1) most (expr_code site e) (test_code array) h (h + 1) (h + 1) (expr_lifts e h n suits fits low)
        (test_lifts c most array h can (omega (arith, low)))

    -- behind each instruction of arguments there is one operand more at least than before them
    pub arguments_lift : (callee : Sense) (passing : List Passing) (a : Arguments) (h n : ℕ) → SuitsArguments rs site.names callee passing a
        → ArgumentsFit a n → h + words_passed callee passing + (19 * n + 2) ≤ most
        → Lift c (h + 1) most (arguments_code site callee passing a) h (h + words_passed callee passing)
    arguments_lift callee [] (arguments opening e more closing) h n suits fits low = absurd suits
    arguments_lift callee (ByValue ∷ others) (arguments opening e more closing) h n suits fits low =
        lifts c (h + 1) most (expr_code site e) (exprs_code site callee others more) h (h + 1) (h + words_passed callee (ByValue ∷ others))
        (expr_lifts e h n suits.0 fits.0 (omega (arith, low)))
        (exprs_behind callee others more h (h + 1) (h + words_passed callee (ByValue ∷ others)) n suits.1 fits.1 (omega arith) (omega arith)
        (omega (arith, low)))
    arguments_lift callee (ByVariable ∷ others) (arguments opening e more closing) h n suits fits low =
        lifts c (h + 1) most (variable_code callee (site.names (name_in e))) (exprs_code site callee others more) h (h + variable_words callee)
        (h + words_passed callee (ByVariable ∷ others))
        (variable_lifts c most callee (site.names (name_in e)) h (suits.0).1 (omega (arith, low)))
        (exprs_behind callee others more h (h + variable_words callee) (h + words_passed callee (ByVariable ∷ others)) n suits.1 fits.1 (omega arith)
        (omega arith) (omega (arith, low)))
    arguments_lift callee (ByArray ∷ others) (arguments opening e more closing) h n suits fits low =
        exprs_behind callee others more h h (h + words_passed callee (ByArray ∷ others)) n suits.1 fits.1 (omega arith) (omega arith) (omega (arith, low))

    -- later arguments, from a height on that is no lower
    pub exprs_behind : (callee : Sense) (passing : List Passing) (e : Exprs) (h g m n : ℕ) → SuitsExprs rs site.names callee passing e
        → ExprsFit e n → h ≤ g → g + words_passed callee passing ≡ m → m + (19 * n + 2) ≤ most
        → Lift c (h + 1) most (exprs_code site callee passing e) g m
    exprs_behind callee [] no_expr h g m n suits fits high is low = omega (arith, is)
    exprs_behind callee (p ∷ others) no_expr h g m n suits fits high is low = absurd suits
    exprs_behind callee [] (next_expr comma e more) h g m n suits fits high is low = absurd suits
    exprs_behind callee (ByValue ∷ others) (next_expr comma e more) h g m n suits fits high is low =
        lifts c (h + 1) most (expr_code site e) (exprs_code site callee others more) g (g + 1) m
        (lift_wider c (g + 1) most (h + 1) most (expr_code site e) g (g + 1) (omega (arith, high)) (omega arith)
        (expr_lifts e g n suits.0 fits.0 (omega (arith, is, low))))
        (exprs_behind callee others more h (g + 1) m n suits.1 fits.1 (omega (arith, high)) (omega (arith, is)) low)
    exprs_behind callee (ByVariable ∷ others) (next_expr comma e more) h g m n suits fits high is low =
        lifts c (h + 1) most (variable_code callee (site.names (name_in e))) (exprs_code site callee others more) g (g + variable_words callee) m
        (lift_wider c (g + 1) most (h + 1) most (variable_code callee (site.names (name_in e))) g (g + variable_words callee) (omega (arith, high))
        (omega arith) (variable_lifts c most callee (site.names (name_in e)) g (suits.0).1 (omega (arith, is, low))))
        (exprs_behind callee others more h (g + variable_words callee) m n suits.1 fits.1 (omega (arith, high)) (omega (arith, is)) low)
    exprs_behind callee (ByArray ∷ others) (next_expr comma e more) h g m n suits fits high is low =
        exprs_behind callee others more h g m n suits.1 fits.1 high (omega (arith, is)) low

  -- ---- Call statements

  -- behind each instruction of the arguments there is an operand
  pub call_arguments_lift : (x : NameAt) (a : Arguments) → SuitsCall rs site.names x (Some a) → CallFits (Some a) → 1500 ≤ most
      → Lift c 1 most (arguments_code site (site.names x.letters) (passing_of (site.names x.letters)) a) 0
      (words_passed (site.names x.letters) (passing_of (site.names x.letters)))
  call_arguments_lift x a suits fits high =
      let callee = site.names x.letters in
      let words = words_passed callee (passing_of callee) in
      lift_moved c 1 most (arguments_code site callee (passing_of callee) a) 0 (0 + words) 0 words refl (omega arith)
      (arguments_lift callee (passing_of callee) a 0 most_levels suits.1 fits (omega (arith, passed_few x.letters false callee refl suits.0, high)))

  pub call_statement_lifts : (x : NameAt) (a : Option Arguments) → SuitsCall rs site.names x a → CallFits a → 1500 ≤ most
      → Lift c 0 most (call_statement_code site x a) 0 0
  call_statement_lifts x None suits fits high =
      let callee = site.names x.letters in
      let words = words_passed callee (passing_of callee) in
      lift_moved c 0 most (call_code site.result callee []) (0 + words) 0 0 0 (omega (arith, ap (words_passed callee) suits.1)) refl
      (call_lifts x.letters false callee [] 0 refl suits.0 (none_among (passing_of callee) suits.1) (omega (arith, high)))
  call_statement_lifts x (Some a) suits fits high =
      let callee = site.names x.letters in
      let words = words_passed callee (passing_of callee) in
      lifts c 0 most (arguments_code site callee (passing_of callee) a) (call_code site.result callee (given_arguments site a)) 0 words 0
      (lift_wider c 1 most 0 most (arguments_code site callee (passing_of callee) a) 0 words (omega arith) (omega arith)
      (call_arguments_lift x a suits fits high))
      (lift_moved c 0 most (call_code site.result callee (given_arguments site a)) (0 + words) 0 words 0 (omega arith) refl
      (call_lifts x.letters false callee (given_arguments site a) 0 refl suits.0
      (arguments_among rs site callee (passing_of callee) a suits.1) (omega (arith, high))))

-- ---- Assignments

module _ {c : CodeLists} {k : ℕ} {rs : Routines} {site : Site} {in_function : Bool} (room : HasRoom c k rs site in_function) where
  pub assign_name_lifts : (x : List ℕ) (inside : Bool) (e : Expr) → CanStore inside (site.names x) → SuitsExpr rs site.names e → ExprFits e most_levels
      → Lift c 0 1500 (expr_code site e ++ store_code site.result (site.names x)) 0 0
  assign_name_lifts x inside e can suits fits =
      lifts c 0 1500 (expr_code site e) (store_code site.result (site.names x)) 0 1 0
      (lift_wider c 1 1500 0 1500 (expr_code site e) 0 1 (omega arith) (omega arith) (expr_lifts room 1500 e 0 most_levels suits fits (omega arith)))
      (store_lifts c 0 1500 site.result inside (site.names x) 0 can (omega arith) (omega arith))

  pub assign_element_lifts : (array : Sense) (i : Index) (e : Expr) → CanIndex array → SuitsIndex rs site.names i → SuitsExpr rs site.names e
      → IndexFits i most_levels → ExprFits e most_levels
      → Lift c 0 1500 (index_code site array i ++ (expr_code site e ++ store_element_code array)) 0 0
  assign_element_lifts array i e can index_suits suits index_fits fits =
      lifts c 0 1500 (index_code site array i) (expr_code site e ++ store_element_code array) 0 1 0
      (lift_wider c 1 1500 0 1500 (index_code site array i) 0 1 (omega arith) (omega arith)
      (index_lifts room 1500 array i 0 most_levels can index_suits index_fits (omega arith)))
      (lifts c 0 1500 (expr_code site e) (store_element_code array) 1 2 0
      (lift_wider c 2 1500 0 1500 (expr_code site e) 1 2 (omega arith) (omega arith) (expr_lifts room 1500 e 1 most_levels suits fits (omega arith)))
      (store_element_lifts c 0 1500 array 0 can (omega arith) (omega arith)))

-- The code of an expression gives its value.
use Rattle.std.proofs.Common.{◌≡◌, ℕ, ◌+◌, Bool, true, not, Some, None, Option, List, [], ◌∷◌, ◌++◌, length, map, ℤ, pos, refl, sym, ◌∙◌, ap, subst}
use Rattle.std.specs.Prelude.{slice_get, unsigned_abs}
use Rattle.solo_base.specs.declared.system_call.SysReply.{SysReply}
use Rattle.solo_base.specs.Arithmetic.{fit, truth, holds}
use Rattle.stack_code.specs.declared.table.Op.TheVariants as op
use Rattle.stack_code.specs.CodeLists.{CodeLists}
use Rattle.stack_machine.specs.States.{Activation}
use Rattle.stack_machine.specs.Activations.{words_from}
use Rattle.stack_machine.specs.Effects.{replace}
use Rattle.stack_machine.specs.Machine.{effect}
use Rattle.pascal_tree.specs.declared.expression.Relation.{Relation}
use Rattle.pascal_tree.specs.declared.expression.Relation.TheVariants as relation
use Rattle.pascal_tree.specs.declared.expression.Sign.{Sign}
use Rattle.pascal_tree.specs.declared.expression.Sign.TheVariants as sign
use Rattle.pascal_tree.specs.declared.expression.Adding.{Adding}
use Rattle.pascal_tree.specs.declared.expression.Adding.TheVariants as adding
use Rattle.pascal_tree.specs.declared.expression.Multiplying.{Multiplying}
use Rattle.pascal_tree.specs.declared.expression.Multiplying.TheVariants as multiplying
use Rattle.pascal_tree.specs.Expression.{Expr, alone, compared, Simple, simple, Addends, no_addend, addend, Term, term, Multipliers, no_multiplier, multiplier, Factor, number, character, named, element, called, group, negated, Index, index, Arguments, arguments, Exprs, no_expr, next_expr}
use Rattle.pascal_mean.specs.Means.{Means, Owner, Bounds, Signature, Standard, Abs, Succ, Pred, Ord, Chr}
use Rattle.pascal_mean.specs.Means as meant
use Rattle.pascal_mean.specs.Scope.{Scope}
use Rattle.pascal_mean.specs.Situation.{Situation, Course, Part, Gives, and_then, number_or_overflow}
use Rattle.pascal_mean.specs.Variables.{map_at, owner_number, array_named, element_at, size_of}
use Rattle.pascal_mean.specs.Values.{compared_values, added, multiplied, signed, standard_value, within}
use Rattle.pascal_mean.specs.Calls.{Passing, ByValue, passing_named, passed, Given, Value, Alias, Elements, values_in, first_value}
use Rattle.pascal_mean.specs.Expressions.{Setting, call_value, named_value, name_in, with_sign, expr_value, simple_value, addends_value, term_value, multipliers_value, factor_value, index_value, arguments_given, exprs_given}
use Rattle.pascal_mean.specs.Meaning as meaning
use Rattle.pascal_code.specs.Instructions.{bare, with_a}
use Rattle.pascal_code.specs.Instructions as code
use Rattle.pascal_code.specs.Senses.{Sense, sense, Function, Site}
use Rattle.pascal_code.specs.Names.{name_code, test_code, element_code}
use Rattle.pascal_code.specs.Calls.{passing_of, passed_code, given_exprs, given_arguments, call_code, standard_code}
use Rattle.pascal_code.specs.Expressions.{relation_op, adding_op, multiplying_op, sign_code, expr_code, simple_code, addends_code, term_code, multipliers_code, factor_code, index_code, arguments_code, exprs_code}
use Rattle.pascal_code.proofs.SensesAgree.{passing_alike}
use Rattle.code_law.specs.Arguments.{AreWords, Suit}
use Rattle.code_law.specs.Named.{Named}
use Rattle.code_law.specs.Suits.{Routines, IsRoutineOf, CanLoad, CanIndex, CanCall, SuitsExpr, SuitsSimple, SuitsAddends, SuitsTerm, SuitsMultipliers, SuitsFactor, SuitsIndex, SuitsArguments, SuitsExprs}
use Rattle.code_law.proofs.Standing.{Stand, parted}
use Rattle.code_law.proofs.Here.{Fixed, own_number, state_at, Here, After, after}
use Rattle.code_law.proofs.Steps.{number_pushed, operated, code_tested}
use Rattle.code_law.proofs.Numbers.{held}
use Rattle.code_law.proofs.Elements.{Indexed, indexed, element_loaded}
use Rattle.code_law.proofs.Opening.{on_top}
use Rattle.code_law.proofs.Variables.{variable_loaded, parameter_loaded}
use Rattle.code_law.proofs.Given.{one_given, AreGiven, joined, top_of_both, routine_words, routine_suits, row_given}
use Rattle.code_law.proofs.Rows.{result_on, row_runs}

-- what calls of routines do, in the activation that is fixed so
abbrev pub CallsRun : CodeLists → ℕ → List SysReply → Fixed → Routines → (ℕ → List Given → Part ℤ) → Type 0
CallsRun c limit all f rs does =
    (k : ℕ) (passing : List Passing) (gives : Bool) → IsRoutineOf rs k passing gives → (given : List Given) (words rest : List ℤ) (p : ℕ) (now : Situation)
    → Here c limit all f p (on_top words rest) now
    → slice_get c.instrs p ≡ Some (with_a op.Call k) → Suit (rs.parameters k) given → AreWords f.frames (length f.frames) given words
    → After c limit all (λ v n. Here c limit all f (p + 1) (result_on gives v rest) n) (does k given now)

-- ---- Operators

compared_by : (c : CodeLists) (limit : ℕ) (r : Relation) (routine : ℕ) (below : List Activation) (p line : ℕ) (words : List ℤ) (left right : ℤ) (rest : List ℤ)
    (ticks : ℕ)
    → effect c limit (state_at routine below p line words (right ∷ left ∷ rest) ticks) (relation_op r) 0 0 ≡ replace
    (state_at routine below p line words (right ∷ left ∷ rest) ticks) rest (Some (compared_values r left right))
unfolding effect
compared_by c limit relation.Equal routine below p line words left right rest ticks = refl
compared_by c limit relation.NotEqual routine below p line words left right rest ticks = refl
compared_by c limit relation.Less routine below p line words left right rest ticks = refl
compared_by c limit relation.Greater routine below p line words left right rest ticks = refl
compared_by c limit relation.LessOrEqual routine below p line words left right rest ticks = refl
compared_by c limit relation.GreaterOrEqual routine below p line words left right rest ticks = refl

added_by : (c : CodeLists) (limit : ℕ) (a : Adding) (routine : ℕ) (below : List Activation) (p line : ℕ) (words : List ℤ) (left right : ℤ) (rest : List ℤ)
    (ticks : ℕ)
    → effect c limit (state_at routine below p line words (right ∷ left ∷ rest) ticks) (adding_op a) 0 0 ≡ replace
    (state_at routine below p line words (right ∷ left ∷ rest) ticks) rest (added a left right)
unfolding effect
added_by c limit adding.Plus routine below p line words left right rest ticks = refl
added_by c limit adding.Minus routine below p line words left right rest ticks = refl
added_by c limit adding.Or routine below p line words left right rest ticks = refl

multiplied_by : (c : CodeLists) (limit : ℕ) (m : Multiplying) (routine : ℕ) (below : List Activation) (p line : ℕ) (words : List ℤ) (left right : ℤ)
    (rest : List ℤ) (ticks : ℕ)
    → effect c limit (state_at routine below p line words (right ∷ left ∷ rest) ticks) (multiplying_op m) 0 0 ≡ replace
    (state_at routine below p line words (right ∷ left ∷ rest) ticks) rest (multiplied m left right)
unfolding effect
multiplied_by c limit multiplying.Times routine below p line words left right rest ticks = refl
multiplied_by c limit multiplying.Div routine below p line words left right rest ticks = refl
multiplied_by c limit multiplying.Mod routine below p line words left right rest ticks = refl
multiplied_by c limit multiplying.And routine below p line words left right rest ticks = refl

negated_by : (c : CodeLists) (limit routine : ℕ) (below : List Activation) (p line : ℕ) (words : List ℤ) (v : ℤ) (rest : List ℤ) (ticks : ℕ)
    → effect c limit (state_at routine below p line words (v ∷ rest) ticks) op.Not 0 0 ≡ replace (state_at routine below p line words (v ∷ rest) ticks) rest
    (Some (truth (not (holds v))))
unfolding effect
negated_by c limit routine below p line words v rest ticks = refl

-- the names of arguments
abbrev pub exprs_names : Exprs → List (List ℕ)
exprs_names no_expr = []
exprs_names (next_expr comma e more) = name_in e ∷ exprs_names more

abbrev pub arguments_names : Arguments → List (List ℕ)
arguments_names (arguments opening e more closing) = name_in e ∷ exprs_names more

exprs_are : (site : Site) (e : Exprs) → given_exprs site e ≡ map site.names (exprs_names e)
exprs_are site no_expr = refl
exprs_are site (next_expr comma e more) = ap (λ (l : List Sense). site.names (name_in e) ∷ l) (exprs_are site more)

pub arguments_are : (site : Site) (a : Arguments) → given_arguments site a ≡ map site.names (arguments_names a)
arguments_are site (arguments opening e more closing) = ap (λ (l : List Sense). site.names (name_in e) ∷ l) (exprs_are site more)

-- all arguments are given, and their words stand on top
pub record AllGiven (c : CodeLists) (limit : ℕ) (all : List SysReply) (f : Fixed) (site : Site) (callee : Sense) (by : List Passing) (xs : List (List ℕ))
    (q : ℕ) (rest : List ℤ) (given : List Given) (now : Situation) : Type 0 where
  pub words : List (List ℤ)
  pub are : AreGiven f site callee by xs given words
  pub here : Here c limit all f q (on_top (joined words) rest) now

-- what statements of the activation stand in
abbrev pub setting_in : ℕ → List SysReply → Fixed → Scope → (ℕ → List Given → Part ℤ) → Setting
setting_in limit all f scope does = record { answers = meaning.in_order all; limit = limit; scope = scope; number = own_number f; does = does }

module _ {c : CodeLists} {limit : ℕ} {all : List SysReply} {f : Fixed} {site : Site} {scope : Scope} (names : Named f.frames (own_number f) site scope)
    (rs : Routines) (does : ℕ → List Given → Part ℤ) (calls : CallsRun c limit all f rs does) where
  -- at the place behind the last instruction
  arrives : (p q : ℕ) (rest : List ℤ) (part : Course ℤ) → p ≡ q → After c limit all (λ v n. Here c limit all f p (v ∷ rest) n) part
      → After c limit all (λ v n. Here c limit all f q (v ∷ rest) n) part
  arrives p q rest part same there = subst (λ m. After c limit all (λ v n. Here c limit all f m (v ∷ rest) n) part) same there

  value_at_end : (p q : ℕ) (v : ℤ) (rest : List ℤ) (now : Situation) → p ≡ q → Here c limit all f p (v ∷ rest) now
      → After c limit all (λ u n. Here c limit all f q (u ∷ rest) n) (Gives v now)
  value_at_end p q v rest now same here = record { comes = subst (λ m. Here c limit all f m (v ∷ rest) now) same here }

  -- ---- A name alone
  loaded : (m : Means) (a p q : ℕ) (operands : List ℤ) (now : Situation) (x : List ℕ) → site.names x ≡ sense m a → CanLoad rs (sense m a)
      → Stand c p (name_code (sense m a)) q → Here c limit all f p operands now
      → After c limit all (λ v n. Here c limit all f q (v ∷ operands) n) (named_value (setting_in limit all f scope does) m x now)
  loaded (meant.Constant t v) a p q operands now x is can stand h = value_at_end (p + 1) q v operands now stand.1
      (number_pushed p operands now (code.operand v) v h stand.0 can)
  loaded (meant.Variable o t) a p q operands now x is can stand h = value_at_end (p + 1) q _ operands now stand.1
      (variable_loaded names x o t a p operands now is stand.0 h)
  loaded (meant.Reference t) a p q operands now x is can stand h = value_at_end (p + 1) q _ operands now stand.1
      (parameter_loaded names x t a p operands now is stand.0 h)
  loaded (meant.Routine k s) a p q operands now x is can stand h =
      let passing = passing_named (meant.Routine k s) in
      arrives (p + 1) q operands _ stand.1 (calls k passing true can.0 [] [] operands p now h stand.0
      (routine_suits f site k passing (rs.parameters k) [] [] [] [] (sym can.1 ∙ (can.0).passing_is) tt) tt)
  loaded (meant.Array o t b) a p q operands now x is can stand h = absurd can
  loaded (meant.Function g) a p q operands now x is can stand h = absurd can
  loaded (meant.Interface g) a p q operands now x is can stand h = absurd can
  loaded (meant.TypeName t) a p q operands now x is can stand h = absurd can
  loaded meant.Nothing a p q operands now x is can stand h = absurd can

  -- ---- A call, behind its arguments
  standard_runs : (g : Standard) (v : ℤ) (p q : ℕ) (rest : List ℤ) (now : Situation) → Stand c p (standard_code g) q → Here c limit all f p (v ∷ rest) now
      → After c limit all (λ u n. Here c limit all f q (u ∷ rest) n) (standard_value g v now)
  unfolding effect
  standard_runs Abs v p q rest now stand h = arrives (p + 1) q rest _ stand.1
      (operated p (v ∷ rest) rest now (bare op.Abs) (fit (pos (unsigned_abs v))) h stand.0 refl)
  standard_runs Succ v p q rest now stand h = arrives (p + 1) q rest _ stand.1 (operated p (v ∷ rest) rest now (bare op.Succ) _ h stand.0 refl)
  standard_runs Pred v p q rest now stand h = arrives (p + 1) q rest _ stand.1 (operated p (v ∷ rest) rest now (bare op.Pred) _ h stand.0 refl)
  standard_runs Ord v p q rest now stand h = value_at_end p q v rest now stand h
  standard_runs Chr v p q rest now stand h = arrives (p + 1) q rest _ stand.1 (code_tested p v rest now h stand.0)

  function_runs : (g : Standard) (gives : Bool) (xs : List (List ℕ)) (given : List Given) (words : List (List ℤ)) (rest : List ℤ) (p q : ℕ) (now : Situation)
      → gives ≡ true → AreGiven f site (Function g) (ByValue ∷ []) xs given words → Stand c p (standard_code g) q
      → Here c limit all f p (on_top (joined words) rest) now → After c limit all (λ v n. Here c limit all f q (result_on gives v rest) n)
      (standard_value g (first_value (values_in given)) now)
  function_runs g gives (x ∷ []) (Value v ∷ []) (ws ∷ []) rest p q now is are stand h =
      let one : joined (ws ∷ []) ≡ v ∷ [] = ap (λ (l : List ℤ). l ++ []) are.0 in
      subst (λ b. After c limit all (λ u n. Here c limit all f q (result_on b u rest) n) (standard_value g v now)) (sym is)
      (standard_runs g v p q rest now stand (subst (λ (l : List ℤ). Here c limit all f p (on_top l rest) now) one h))
  function_runs g gives [] given words rest p q now is are stand h = absurd are
  function_runs g gives (x ∷ xs) [] words rest p q now is are stand h = absurd are
  function_runs g gives (x ∷ xs) (d ∷ given) [] rest p q now is are stand h = absurd are
  function_runs g gives (x ∷ xs) (Alias at ∷ given) (ws ∷ words) rest p q now is are stand h = absurd are.0
  function_runs g gives (x ∷ xs) (Elements e ∷ given) (ws ∷ words) rest p q now is are stand h = absurd are.0
  function_runs g gives (x ∷ y ∷ xs) (Value v ∷ given) (ws ∷ words) rest p q now is are stand h = absurd are.1
  function_runs g gives (x ∷ []) (Value v ∷ d ∷ given) (ws ∷ words) rest p q now is are stand h = absurd are.1
  function_runs g gives (x ∷ []) (Value v ∷ []) (ws ∷ us ∷ words) rest p q now is are stand h = absurd are.1

  pub called_by : (m : Means) (a : ℕ) (gives : Bool) (xs : List (List ℕ)) (given : List Given) (words : List (List ℤ)) (rest : List ℤ) (p q : ℕ)
      (now : Situation) → CanCall rs gives (sense m a) → AreGiven f site (sense m a) (passing_of (sense m a)) xs given words
      → Stand c p (call_code site.result (sense m a) (map site.names xs)) q → Here c limit all f p (on_top (joined words) rest) now
      → After c limit all (λ v n. Here c limit all f q (result_on gives v rest) n) (call_value (setting_in limit all f scope does) m given now)
  called_by (meant.Routine k s) a gives xs given words rest p q now can are stand h =
      let passing = passing_named (meant.Routine k s) in
      subst (λ n. After c limit all (λ v k'. Here c limit all f n (result_on gives v rest) k') (does k given now)) stand.1
      (calls k passing gives can given (joined words) rest p now h stand.0
      (routine_suits f site k passing (rs.parameters k) passing xs given words can.passing_is are)
      (routine_words f site k passing passing xs given words are))
  called_by (meant.Function g) a gives xs given words rest p q now can are stand h = function_runs g gives xs given words rest p q now can are stand h
  called_by (meant.Interface r) a gives xs given words rest p q now can are stand h =
      row_runs names r xs given words (row_given f site r _ xs given words are) gives can rest p q now stand h
  called_by (meant.Constant t v) a gives xs given words rest p q now can are stand h = absurd can
  called_by (meant.Variable o t) a gives xs given words rest p q now can are stand h = absurd can
  called_by (meant.Array o t b) a gives xs given words rest p q now can are stand h = absurd can
  called_by (meant.Reference t) a gives xs given words rest p q now can are stand h = absurd can
  called_by (meant.TypeName t) a gives xs given words rest p q now can are stand h = absurd can
  called_by meant.Nothing a gives xs given words rest p q now can are stand h = absurd can

  -- ---- An element
  element_runs : (m : Means) (a p q : ℕ) (rest : List ℤ) (v : ℤ) (now : Situation) (x : List ℕ) → site.names x ≡ sense m a → CanIndex (sense m a)
      → Stand c p (element_code (sense m a)) q → Indexed c limit all f p rest (array_named m (own_number f) x).bounds v now
      → Here c limit all f q (element_at (array_named m (own_number f) x) v now ∷ rest) now
  element_runs (meant.Array o t b) a p q rest v now x is can stand i =
      let has = names.arrays x o a b is in
      let d = owner_number o (own_number f) in
      let place = (i.inside).place in
      let there : slice_get (words_from (i.here).below (i.here).words d) (a + place) ≡ Some ((map_at now.maps d).elements x v) =
      ((i.here).agree.tied d has.frame has.frame_is).arrays x has.owner a b place has.is (i.inside).low
      ∙ ap (λ z. Some ((map_at now.maps d).elements x z)) (sym (i.inside).is) in
      subst (λ n. Here c limit all f n ((map_at now.maps d).elements x v ∷ rest) now) stand.1
      (element_loaded o p place rest now a (size_of b) ((map_at now.maps d).elements x v) i.here stand.0 (i.inside).low there)
  element_runs (meant.Constant t w) a p q rest v now x is can stand i = absurd can
  element_runs (meant.Variable o t) a p q rest v now x is can stand i = absurd can
  element_runs (meant.Reference t) a p q rest v now x is can stand i = absurd can
  element_runs (meant.Routine k s) a p q rest v now x is can stand i = absurd can
  element_runs (meant.Function g) a p q rest v now x is can stand i = absurd can
  element_runs (meant.Interface g) a p q rest v now x is can stand i = absurd can
  element_runs (meant.TypeName t) a p q rest v now x is can stand i = absurd can
  element_runs meant.Nothing a p q rest v now x is can stand i = absurd can

  -- the test of an index
  test_runs : (m : Means) (a p q : ℕ) (v : ℤ) (rest : List ℤ) (now : Situation) (x : List ℕ) → CanIndex (sense m a) → Stand c p (test_code (sense m a)) q
      → Here c limit all f p (v ∷ rest) now
      → After c limit all (λ u n. Indexed c limit all f q rest (array_named m (own_number f) x).bounds u n)
      (within (array_named m (own_number f) x).bounds v now)
  test_runs (meant.Array o t b) a p q v rest now x can stand h =
      subst (λ k. After c limit all (λ u n. Indexed c limit all f k rest b u n) (within b v now)) stand.1
      (indexed p v rest now b (record { low = can.0; high = can.1 }) h stand.0)
  test_runs (meant.Constant t w) a p q v rest now x can stand h = absurd can
  test_runs (meant.Variable o t) a p q v rest now x can stand h = absurd can
  test_runs (meant.Reference t) a p q v rest now x can stand h = absurd can
  test_runs (meant.Routine k s) a p q v rest now x can stand h = absurd can
  test_runs (meant.Function g) a p q v rest now x can stand h = absurd can
  test_runs (meant.Interface g) a p q v rest now x can stand h = absurd can
  test_runs (meant.TypeName t) a p q v rest now x can stand h = absurd can
  test_runs meant.Nothing a p q v rest now x can stand h = absurd can

  sign_runs : (s : Option (Sign × ℕ)) (p q : ℕ) (v : ℤ) (rest : List ℤ) (now : Situation) → Stand c p (sign_code s) q → Here c limit all f p (v ∷ rest) now
      → After c limit all (λ u n. Here c limit all f q (u ∷ rest) n) (with_sign s v now)
  unfolding effect
  sign_runs None p q v rest now stand here = value_at_end p q v rest now stand here
  sign_runs (Some (sign.Plus, line)) p q v rest now stand here = value_at_end p q v rest now stand here
  sign_runs (Some (sign.Minus, line)) p q v rest now stand here =
      arrives (p + 1) q rest _ stand.1 (operated p (v ∷ rest) rest now (bare op.Neg) (signed sign.Minus v) here stand.0 refl)

  mutual
    pub expr_runs : (e : Expr) (p q : ℕ) (operands : List ℤ) (now : Situation) → SuitsExpr rs site.names e → Stand c p (expr_code site e) q
        → Here c limit all f p operands now
        → After c limit all (λ v n. Here c limit all f q (v ∷ operands) n) (expr_value (setting_in limit all f scope does) e now)
    expr_runs (alone s) p q operands now suits stand here = simple_runs s p q operands now suits stand here
    expr_runs (compared s r line t) p q operands now suits stand here =
        let one = parted c p (simple_code site s) (simple_code site t ++ bare (relation_op r) ∷ []) q stand in
        let two = parted c one.0 (simple_code site t) (bare (relation_op r) ∷ []) q one.1.1 in
        after (simple_value (setting_in limit all f scope does) s now) _ (simple_runs s p one.0 operands now suits.0 one.1.0 here) (λ left mid at.
        after (simple_value (setting_in limit all f scope does) t mid) _ (simple_runs t one.0 two.0 (left ∷ operands) mid suits.1 two.1.0 at)
        (λ right then_is there.
        arrives (two.0 + 1) q operands _ two.1.1.1 (operated two.0 (right ∷ left ∷ operands) operands then_is (bare (relation_op r))
        (Some (compared_values r left right)) there two.1.1.0
        (compared_by c limit r f.routine there.below two.0 then_is.line there.words left right operands then_is.ticks))))

    simple_runs : (s : Simple) (p q : ℕ) (operands : List ℤ) (now : Situation) → SuitsSimple rs site.names s → Stand c p (simple_code site s) q
        → Here c limit all f p operands now
        → After c limit all (λ v n. Here c limit all f q (v ∷ operands) n) (simple_value (setting_in limit all f scope does) s now)
    simple_runs (simple sign t rest) p q operands now suits stand here =
        let one = parted c p (term_code site t) (sign_code sign ++ addends_code site rest) q stand in
        let two = parted c one.0 (sign_code sign) (addends_code site rest) q one.1.1 in
        after (term_value (setting_in limit all f scope does) t now) _ (term_runs t p one.0 operands now suits.0 one.1.0 here) (λ v mid at.
        after (with_sign sign v mid) _ (sign_runs sign one.0 two.0 v operands mid two.1.0 at) (λ first then_is there.
        addends_run rest two.0 q first operands then_is suits.1 two.1.1 there))

    addends_run : (rest : Addends) (p q : ℕ) (left : ℤ) (operands : List ℤ) (now : Situation) → SuitsAddends rs site.names rest
        → Stand c p (addends_code site rest) q → Here c limit all f p (left ∷ operands) now
        → After c limit all (λ v n. Here c limit all f q (v ∷ operands) n) (addends_value (setting_in limit all f scope does) rest left now)
    addends_run no_addend p q left operands now suits stand here = value_at_end p q left operands now stand here
    addends_run (addend a line t rest) p q left operands now suits stand here =
        let one = parted c p (term_code site t) (bare (adding_op a) ∷ addends_code site rest) q stand in
        after (term_value (setting_in limit all f scope does) t now) _ (term_runs t p one.0 (left ∷ operands) now suits.0 one.1.0 here) (λ right mid at.
        after (number_or_overflow (added a left right) mid) _
        (operated one.0 (right ∷ left ∷ operands) operands mid (bare (adding_op a)) (added a left right) at one.1.1.0
        (added_by c limit a f.routine at.below one.0 mid.line at.words left right operands mid.ticks)) (λ v then_is there.
        addends_run rest (one.0 + 1) q v operands then_is suits.1 one.1.1.1 there))

    term_runs : (t : Term) (p q : ℕ) (operands : List ℤ) (now : Situation) → SuitsTerm rs site.names t → Stand c p (term_code site t) q
        → Here c limit all f p operands now
        → After c limit all (λ v n. Here c limit all f q (v ∷ operands) n) (term_value (setting_in limit all f scope does) t now)
    term_runs (term g rest) p q operands now suits stand here =
        let one = parted c p (factor_code site g) (multipliers_code site rest) q stand in
        after (factor_value (setting_in limit all f scope does) g now) _ (factor_runs g p one.0 operands now suits.0 one.1.0 here) (λ v mid at.
        multipliers_run rest one.0 q v operands mid suits.1 one.1.1 at)

    multipliers_run : (rest : Multipliers) (p q : ℕ) (left : ℤ) (operands : List ℤ) (now : Situation) → SuitsMultipliers rs site.names rest
        → Stand c p (multipliers_code site rest) q → Here c limit all f p (left ∷ operands) now
        → After c limit all (λ v n. Here c limit all f q (v ∷ operands) n) (multipliers_value (setting_in limit all f scope does) rest left now)
    multipliers_run no_multiplier p q left operands now suits stand here = value_at_end p q left operands now stand here
    multipliers_run (multiplier m line g rest) p q left operands now suits stand here =
        let one = parted c p (factor_code site g) (bare (multiplying_op m) ∷ multipliers_code site rest) q stand in
        after (factor_value (setting_in limit all f scope does) g now) _ (factor_runs g p one.0 (left ∷ operands) now suits.0 one.1.0 here) (λ right mid at.
        after (number_or_overflow (multiplied m left right) mid) _
        (operated one.0 (right ∷ left ∷ operands) operands mid (bare (multiplying_op m)) (multiplied m left right) at one.1.1.0
        (multiplied_by c limit m f.routine at.below one.0 mid.line at.words left right operands mid.ticks)) (λ v then_is there.
        multipliers_run rest (one.0 + 1) q v operands then_is suits.1 one.1.1.1 there))

    factor_runs : (g : Factor) (p q : ℕ) (operands : List ℤ) (now : Situation) → SuitsFactor rs site.names g → Stand c p (factor_code site g) q
        → Here c limit all f p operands now
        → After c limit all (λ v n. Here c limit all f q (v ∷ operands) n) (factor_value (setting_in limit all f scope does) g now)
    factor_runs (number n) p q operands now suits stand here = value_at_end (p + 1) q (pos n.value) operands now stand.1
        (number_pushed p operands now _ (pos n.value) here stand.0 (held n.value suits))
    factor_runs (character x) p q operands now suits stand here = value_at_end (p + 1) q (pos x.code) operands now stand.1
        (number_pushed p operands now _ (pos x.code) here stand.0 (held x.code suits))
    factor_runs (named x) p q operands now suits stand here =
        let there = names.senses x.letters in
        loaded (scope x.letters) there.0 p q operands now x.letters there.1 (subst (CanLoad rs) there.1 suits)
        (subst (λ s. Stand c p (name_code s) q) there.1 stand) here
    factor_runs (group opening e closing) p q operands now suits stand here = expr_runs e p q operands now suits stand here
    factor_runs (negated line g) p q operands now suits stand here =
        let one = parted c p (factor_code site g) (bare op.Not ∷ []) q stand in
        after (factor_value (setting_in limit all f scope does) g now) _ (factor_runs g p one.0 operands now suits one.1.0 here) (λ v mid at.
        arrives (one.0 + 1) q operands (Gives (truth (not (holds v))) mid) one.1.1.1
        (operated one.0 (v ∷ operands) operands mid (bare op.Not) (Some (truth (not (holds v)))) at one.1.1.0
        (negated_by c limit f.routine at.below one.0 mid.line at.words v operands mid.ticks)))
    factor_runs (element x i) p q operands now suits stand here =
        let there = names.senses x.letters in
        let one = parted c p (index_code site (site.names x.letters) i) (element_code (site.names x.letters)) q stand in
        after (index_value (setting_in limit all f scope does) (array_named (scope x.letters) (own_number f) x.letters).bounds i now) _
        (index_runs x.letters i p one.0 operands now suits.0 suits.1 one.1.0 here) (λ v mid at.
        record {
          comes = element_runs (scope x.letters) there.0 one.0 q operands v mid x.letters there.1 (subst CanIndex there.1 suits.0)
              (subst (λ s. Stand c one.0 (element_code s) q) there.1 one.1.1) at;
        })
    factor_runs (called x a) p q operands now suits stand here =
        let there = names.senses x.letters in
        let one = parted c p (arguments_code site (site.names x.letters) (passing_of (site.names x.letters)) a)
        (call_code site.result (site.names x.letters) (given_arguments site a)) q stand in
        let passing : passing_of (site.names x.letters) ≡ passing_named (scope x.letters) = ap passing_of there.1 ∙ passing_alike (scope x.letters) there.0 in
        subst (λ by. After c limit all (λ v n. Here c limit all f q (v ∷ operands) n)
        (and_then (arguments_given (setting_in limit all f scope does) by a now)
        (λ given then_is. call_value (setting_in limit all f scope does) (scope x.letters) given then_is))) passing
        (after (arguments_given (setting_in limit all f scope does) (passing_of (site.names x.letters)) a now) _
        (arguments_run (site.names x.letters) (passing_of (site.names x.letters)) a p one.0 operands now suits.1 one.1.0 here) (λ given mid at.
        called_by (scope x.letters) there.0 true (arguments_names a) given at.words operands one.0 q mid (subst (CanCall rs true) there.1 suits.0)
        (subst (λ s. AreGiven f site s (passing_of s) (arguments_names a) given at.words) there.1 at.are)
        (subst (λ s. Stand c one.0 (call_code site.result s (map site.names (arguments_names a))) q) there.1
        (subst (λ (l : List Sense). Stand c one.0 (call_code site.result (site.names x.letters) l) q) (arguments_are site a) one.1.1)) at.here))

    pub index_runs : (x : List ℕ) (i : Index) (p q : ℕ) (rest : List ℤ) (now : Situation) → CanIndex (site.names x) → SuitsIndex rs site.names i
        → Stand c p (index_code site (site.names x) i) q → Here c limit all f p rest now
        → After c limit all (λ v n. Indexed c limit all f q rest (array_named (scope x) (own_number f) x).bounds v n)
        (index_value (setting_in limit all f scope does) (array_named (scope x) (own_number f) x).bounds i now)
    index_runs x (index opening e closing) p q rest now can suits stand here =
        let there = names.senses x in
        let one = parted c p (expr_code site e) (test_code (site.names x)) q stand in
        after (expr_value (setting_in limit all f scope does) e now) _ (expr_runs e p one.0 rest now suits one.1.0 here) (λ v mid at.
        test_runs (scope x) there.0 one.0 q v rest mid x (subst CanIndex there.1 can) (subst (λ s. Stand c one.0 (test_code s) q) there.1 one.1.1) at)

    pub arguments_run : (callee : Sense) (by : List Passing) (a : Arguments) (p q : ℕ) (rest : List ℤ) (now : Situation)
        → SuitsArguments rs site.names callee by a → Stand c p (arguments_code site callee by a) q → Here c limit all f p rest now
        → After c limit all (λ given n. AllGiven c limit all f site callee by (arguments_names a) q rest given n)
        (arguments_given (setting_in limit all f scope does) by a now)
    arguments_run callee [] (arguments opening e more closing) p q rest now suits stand here = absurd suits
    arguments_run callee (by ∷ others) (arguments opening e more closing) p q rest now suits stand here =
        let one = parted c p (passed_code callee by (site.names (name_in e)) (expr_code site e)) (exprs_code site callee others more) q stand in
        after (passed by (scope (name_in e)) (own_number f) (name_in e) (expr_value (setting_in limit all f scope does) e) now) _
        (one_given names callee by (name_in e) p one.0 rest now (expr_value (setting_in limit all f scope does) e) (expr_code site e)
        (SuitsExpr rs site.names e) (λ m suit there h. expr_runs e p m rest now suit there h) suits.0 one.1.0 here) (λ g mid at.
        after (exprs_given (setting_in limit all f scope does) others more mid) _
        (exprs_run callee others more one.0 q (on_top at.words rest) mid suits.1 one.1.1 at.here) (λ given then_is later.
        record {
          comes = record {
            words = at.words ∷ later.words;
            are = (at.is, later.are);
            here =
                subst (λ (l : List ℤ). Here c limit all f q l then_is) (sym (top_of_both at.words (joined later.words) rest)) later.here;
          };
        }))

    exprs_run : (callee : Sense) (by : List Passing) (e : Exprs) (p q : ℕ) (rest : List ℤ) (now : Situation) → SuitsExprs rs site.names callee by e
        → Stand c p (exprs_code site callee by e) q → Here c limit all f p rest now
        → After c limit all (λ given n. AllGiven c limit all f site callee by (exprs_names e) q rest given n)
        (exprs_given (setting_in limit all f scope does) by e now)
    exprs_run callee [] no_expr p q rest now suits stand here = record
        { comes = record { words = []; are = tt; here = subst (λ m. Here c limit all f m rest now) stand here } }
    exprs_run callee (by ∷ others) no_expr p q rest now suits stand here = absurd suits
    exprs_run callee [] (next_expr comma e more) p q rest now suits stand here = absurd suits
    exprs_run callee (by ∷ others) (next_expr comma e more) p q rest now suits stand here =
        let one = parted c p (passed_code callee by (site.names (name_in e)) (expr_code site e)) (exprs_code site callee others more) q stand in
        after (passed by (scope (name_in e)) (own_number f) (name_in e) (expr_value (setting_in limit all f scope does) e) now) _
        (one_given names callee by (name_in e) p one.0 rest now (expr_value (setting_in limit all f scope does) e) (expr_code site e)
        (SuitsExpr rs site.names e) (λ m suit there h. expr_runs e p m rest now suit there h) suits.0 one.1.0 here) (λ g mid at.
        after (exprs_given (setting_in limit all f scope does) others more mid) _
        (exprs_run callee others more one.0 q (on_top at.words rest) mid suits.1 one.1.1 at.here) (λ given then_is later.
        record {
          comes = record {
            words = at.words ∷ later.words;
            are = (at.is, later.are);
            here =
                subst (λ (l : List ℤ). Here c limit all f q l then_is) (sym (top_of_both at.words (joined later.words) rest)) later.here;
          };
        }))

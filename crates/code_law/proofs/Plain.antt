-- What the instructions of expressions, of calls and of stores ask where they stand: no jump, no tick and no end, and their operands fit.
use Rattle.std.proofs.Common.{◌≡◌, ℕ, ◌+◌, ◌≤◌, ◌<◌, Bool, true, false, Option, Some, None, List, [], ◌∷◌, ◌++◌, length, pos, ℤ, refl, sym, ◌∙◌, ap, subst, arith, inl, inr}
use Rattle.std.specs.Prelude.{nat_le, nat_lt, ◌&&◌, ◌==◌, ◌⊎◌}
use Rattle.std.specs.List.{AllByRecursion}
use Rattle.std.specs.Option.{option_map, option_map_or}
use Rattle.std.proofs.lemmas.Bool.{lt-ltb, le-leb, and_from, cases_order}
use Rattle.std.proofs.lemmas.Option.{get_or_from_slice_get}
use Rattle.solo_base.specs.declared.interface.Procedure.{Procedure}
use Rattle.solo_base.specs.declared.interface.Procedure.TheVariants as row
use Rattle.solo_base.specs.declared.interface.CallRow.{CallRow}
use Rattle.solo_base.specs.Interface.{call_row, call_row_of}
use Rattle.stack_code.specs.declared.table.Op.TheVariants as op
use Rattle.stack_code.specs.declared.instr.Instr.{Instr}
use Rattle.stack_code.specs.CodeLists.{CodeLists, routine_at, instr_at, no_instr}
use Rattle.stack_code.specs.Rules.{routine_of, own_words, array_fits, call_array_fits, bounds_fit}
use Rattle.pascal_tree.specs.declared.expression.Relation.{Relation}
use Rattle.pascal_tree.specs.declared.expression.Relation.TheVariants as relation
use Rattle.pascal_tree.specs.declared.expression.Sign.{Sign}
use Rattle.pascal_tree.specs.declared.expression.Sign.TheVariants as sign
use Rattle.pascal_tree.specs.declared.expression.Adding.{Adding}
use Rattle.pascal_tree.specs.declared.expression.Adding.TheVariants as adding
use Rattle.pascal_tree.specs.declared.expression.Multiplying.{Multiplying}
use Rattle.pascal_tree.specs.declared.expression.Multiplying.TheVariants as multiplying
use Rattle.pascal_tree.specs.declared.statement.Direction.{Direction}
use Rattle.pascal_tree.specs.declared.statement.Direction.TheVariants as direction
use Rattle.pascal_tree.specs.Word.{NameAt}
use Rattle.pascal_tree.specs.Expression.{Expr, alone, compared, Simple, simple, Addends, no_addend, addend, Term, term, Multipliers, no_multiplier, multiplier, Factor, number, character, named, element, called, group, negated, Index, index, Arguments, arguments, Exprs, no_expr, next_expr}
use Rattle.pascal_mean.specs.Means.{Owner, OfProgram, OfRoutine, Bounds, Standard, Abs, Succ, Pred, Ord, Chr}
use Rattle.pascal_mean.specs.Variables.{size_of}
use Rattle.pascal_mean.specs.Calls.{Passing, ByValue, ByVariable, ByArray, row_passing}
use Rattle.pascal_mean.specs.Expressions.{name_in}
use Rattle.pascal_code.specs.Instructions.{bare, with_a, push, operand, test_index, load_word, store_word, load_element, store_element, refer, call_with_array}
use Rattle.pascal_code.specs.Senses.{Sense, Constant, Variable, Array, Reference, Routine, Function, Interface, Nothing, Site}
use Rattle.pascal_code.specs.Names.{name_code, store_code, reference_code, test_code, element_code, store_element_code}
use Rattle.pascal_code.specs.Calls.{row_number, standard_code, passing_of, variable_code, passed_code, given_exprs, given_arguments, variables_among, arrays_among, array_call, row_call, stores_code, call_code}
use Rattle.pascal_code.specs.Expressions.{relation_op, adding_op, multiplying_op, sign_code, expr_code, simple_code, addends_code, term_code, multipliers_code, factor_code, index_code, arguments_code, exprs_code}
use Rattle.pascal_code.specs.Statements.{load_own, store_own, reach_op, before_op, step_op, call_statement_code}
use Rattle.code_law.specs.Suits.{Routines, CanLoad, CanStore, IsScalar, IsArrayOf, CanPass, array_size, SuitsExpr, SuitsSimple, SuitsAddends, SuitsTerm, SuitsMultipliers, SuitsFactor, SuitsIndex, SuitsArguments, SuitsExprs, SuitsCall}
use Rattle.code_law.specs.Heights.{IsPlain, HasRoom, words_for}
use Rattle.code_law.proofs.Standing.{Stand}
use Rattle.code_law.proofs.Requests.{row_is}
use Rattle.code_law.proofs.Given.{array_count}

pub plain_more : (c : CodeLists) (k : ℕ) (first rest : List Instr) → AllByRecursion (IsPlain c k) first → AllByRecursion (IsPlain c k) rest
    → AllByRecursion (IsPlain c k) (first ++ rest)
plain_more c k [] rest one two = two
plain_more c k (i ∷ first) rest one two = (one.0, plain_more c k first rest one.1 two)

-- each stands in the code
pub plain_at : (c : CodeLists) (k p : ℕ) (code : List Instr) (q : ℕ) → Stand c p code q → AllByRecursion (IsPlain c k) code
    → (x : ℕ) → p ≤ x → x < q → IsPlain c k (instr_at c x)
plain_at c k p [] q stand all x low high = absurd (omega (arith, stand, low, high))
plain_at c k p (i ∷ code) q stand all x low high =
    by_place (cases_order p x) (λ behind. plain_at c k (p + 1) code q stand.1 all.1 x (omega (arith, behind)) high)
  where
    here : p ≡ x → IsPlain c k (instr_at c x)
    here same = subst (λ n. IsPlain c k (instr_at c n)) same (subst (IsPlain c k) (sym (get_or_from_slice_get c.instrs p i no_instr stand.0)) all.0)

    by_place : (p ≡ x) ⊎ ((p < x) ⊎ (x < p)) → (p < x → IsPlain c k (instr_at c x)) → IsPlain c k (instr_at c x)
    by_place (inl same) later = here same
    by_place (inr (inl behind)) later = later behind
    by_place (inr (inr before)) later = absurd (omega (arith, before, low))

-- ---- Arguments

-- what stands for an argument, with its name
abbrev pub IsPassed : Site → Sense → Passing → Sense → Type 0
IsPassed site callee by s = (x : List ℕ) × ((site.names x ≡ s) × CanPass callee by s (Unit {0}))

abbrev pub ArePassed : Site → Sense → List Passing → List Sense → Type 0
ArePassed site callee [] [] = Unit {0}
ArePassed site callee [] (s ∷ given) = ⊥
ArePassed site callee (by ∷ others) [] = ⊥
ArePassed site callee (by ∷ others) (s ∷ given) = IsPassed site callee by s × ArePassed site callee others given

-- an array of so many elements, with its name
abbrev pub IsArrayHere : Site → ℕ → Sense → Type 0
IsArrayHere site size s = (x : List ℕ) × ((site.names x ≡ s) × IsArrayOf size s)

any_value : (callee : Sense) (by : Passing) (s : Sense) (value : Type 0) → CanPass callee by s value → CanPass callee by s (Unit {0})
any_value callee ByValue s value can = tt
any_value callee ByVariable s value can = can
any_value callee ByArray s value can = can

exprs_passed : (rs : Routines) (site : Site) (callee : Sense) (by : List Passing) (e : Exprs) → SuitsExprs rs site.names callee by e
    → ArePassed site callee by (given_exprs site e)
exprs_passed rs site callee [] no_expr suits = tt
exprs_passed rs site callee (by ∷ others) no_expr suits = absurd suits
exprs_passed rs site callee [] (next_expr comma e more) suits = absurd suits
exprs_passed rs site callee (by ∷ others) (next_expr comma e more) suits =
    ((name_in e, (refl, any_value callee by (site.names (name_in e)) _ suits.0)), exprs_passed rs site callee others more suits.1)

pub arguments_passed : (rs : Routines) (site : Site) (callee : Sense) (by : List Passing) (a : Arguments) → SuitsArguments rs site.names callee by a
    → ArePassed site callee by (given_arguments site a)
arguments_passed rs site callee [] (arguments opening e more closing) suits = absurd suits
arguments_passed rs site callee (by ∷ others) (arguments opening e more closing) suits =
    ((name_in e, (refl, any_value callee by (site.names (name_in e)) _ suits.0)), exprs_passed rs site callee others more suits.1)

-- the arrays among them
arrays_passed : (site : Site) (callee : Sense) (by : List Passing) (given : List Sense) → ArePassed site callee by given
    → AllByRecursion (IsArrayHere site (array_size callee)) (arrays_among by given) × (length (arrays_among by given) ≡ array_count by)
arrays_passed site callee [] [] are = (tt, refl)
arrays_passed site callee [] (s ∷ given) are = absurd are
arrays_passed site callee (by ∷ others) [] are = absurd are
arrays_passed site callee (ByValue ∷ others) (s ∷ given) are = arrays_passed site callee others given are.1
arrays_passed site callee (ByVariable ∷ others) (s ∷ given) are = arrays_passed site callee others given are.1
arrays_passed site callee (ByArray ∷ others) (s ∷ given) are =
    let later = arrays_passed site callee others given are.1 in
    (((are.0.0, (are.0.1.0, are.0.1.1.1)), later.0), omega (arith, later.1))

-- a row without an array among its arguments
no_array : (p : Procedure) → array_count (row_passing p) ≡ 0 → ((call_row_of p).array == 0) ≡ true
no_array row.Read none = refl
no_array row.Write none = refl
no_array row.WriteInt none = refl
no_array row.Accept none = refl
no_array row.Display none = refl
no_array row.Open none = absurd (omega (arith, none))
no_array row.Close none = refl
no_array row.Get none = absurd (omega (arith, none))
no_array row.Put none = absurd (omega (arith, none))
no_array row.Length none = refl
no_array row.Lookup none = absurd (omega (arith, none))
no_array row.ReadArg none = absurd (omega (arith, none))
no_array row.WriteArg none = absurd (omega (arith, none))
no_array row.Run none = absurd (omega (arith, none))

-- ---- Single instructions

array_there : (words a n : ℕ) → 1 ≤ n → n ≤ 4096 → a + n ≤ words → array_fits words a n ≡ true
array_there words a n some few low =
    and_from (nat_le 1 n && nat_le n 4096) (nat_le (a + n) words)
    (and_from (nat_le 1 n) (nat_le n 4096) (le-leb 1 n some) (le-leb n 4096 few)) (le-leb (a + n) words low)

its_row : (p : Procedure) → call_row (row_number p) ≡ Some (call_row_of p)
its_row p = ap (λ o. option_map call_row_of o) (row_is p)

array_of_row : (p : Procedure) (words a : ℕ) → 1 ≤ (call_row_of p).array → a + (call_row_of p).array ≤ words
    → call_array_fits words (row_number p) a ≡ true
array_of_row p words a some low =
    ap (λ o. option_map_or (λ (r : CallRow). nat_le 1 r.array && nat_le (a + r.array) words) o false) (its_row p)
    ∙ and_from (nat_le 1 (call_row_of p).array) (nat_le (a + (call_row_of p).array) words) (le-leb 1 (call_row_of p).array some)
    (le-leb (a + (call_row_of p).array) words low)

module _ (c : CodeLists) (k : ℕ) where
  -- a word of the frame, where one of an owner's is known to be there
  own_here : (P : ℕ → Type 0) → P (routine_at c k).words → (x : ℕ) → routine_of c x ≡ k → P (own_words c x)
  own_here P there x at = subst (λ n. P (routine_at c n).words) (sym at) there

  pub push_plain : (v : ℤ) → IsPlain c k (push v)
  push_plain v = record { no_jump = refl; no_tick = refl; goes_on = refl; fits = λ x at. refl }

  pub relation_plain : (r : Relation) → IsPlain c k (bare (relation_op r))
  relation_plain relation.Equal = record { no_jump = refl; no_tick = refl; goes_on = refl; fits = λ x at. refl }
  relation_plain relation.NotEqual = record { no_jump = refl; no_tick = refl; goes_on = refl; fits = λ x at. refl }
  relation_plain relation.Less = record { no_jump = refl; no_tick = refl; goes_on = refl; fits = λ x at. refl }
  relation_plain relation.Greater = record { no_jump = refl; no_tick = refl; goes_on = refl; fits = λ x at. refl }
  relation_plain relation.LessOrEqual = record { no_jump = refl; no_tick = refl; goes_on = refl; fits = λ x at. refl }
  relation_plain relation.GreaterOrEqual = record { no_jump = refl; no_tick = refl; goes_on = refl; fits = λ x at. refl }

  pub adding_plain : (a : Adding) → IsPlain c k (bare (adding_op a))
  adding_plain adding.Plus = record { no_jump = refl; no_tick = refl; goes_on = refl; fits = λ x at. refl }
  adding_plain adding.Minus = record { no_jump = refl; no_tick = refl; goes_on = refl; fits = λ x at. refl }
  adding_plain adding.Or = record { no_jump = refl; no_tick = refl; goes_on = refl; fits = λ x at. refl }

  pub multiplying_plain : (m : Multiplying) → IsPlain c k (bare (multiplying_op m))
  multiplying_plain multiplying.Times = record { no_jump = refl; no_tick = refl; goes_on = refl; fits = λ x at. refl }
  multiplying_plain multiplying.Div = record { no_jump = refl; no_tick = refl; goes_on = refl; fits = λ x at. refl }
  multiplying_plain multiplying.Mod = record { no_jump = refl; no_tick = refl; goes_on = refl; fits = λ x at. refl }
  multiplying_plain multiplying.And = record { no_jump = refl; no_tick = refl; goes_on = refl; fits = λ x at. refl }

  pub not_plain : IsPlain c k (bare op.Not)
  not_plain = record { no_jump = refl; no_tick = refl; goes_on = refl; fits = λ x at. refl }

  pub sign_plain : (s : Option (Sign × ℕ)) → AllByRecursion (IsPlain c k) (sign_code s)
  sign_plain None = tt
  sign_plain (Some (sign.Plus, line)) = tt
  sign_plain (Some (sign.Minus, line)) = (record { no_jump = refl; no_tick = refl; goes_on = refl; fits = λ x at. refl }, tt)

  pub standard_plain : (f : Standard) → AllByRecursion (IsPlain c k) (standard_code f)
  standard_plain Abs = (record { no_jump = refl; no_tick = refl; goes_on = refl; fits = λ x at. refl }, tt)
  standard_plain Succ = (record { no_jump = refl; no_tick = refl; goes_on = refl; fits = λ x at. refl }, tt)
  standard_plain Pred = (record { no_jump = refl; no_tick = refl; goes_on = refl; fits = λ x at. refl }, tt)
  standard_plain Ord = tt
  standard_plain Chr = (record { no_jump = refl; no_tick = refl; goes_on = refl; fits = λ x at. refl }, tt)

  pub load_word_plain : (o : Owner) (a : ℕ) → a < words_for c k o → IsPlain c k (load_word o a)
  load_word_plain OfProgram a low = record { no_jump = refl; no_tick = refl; goes_on = refl; fits = λ x at. lt-ltb a (routine_at c 0).words low }
  load_word_plain OfRoutine a low = record {
    no_jump = refl;
    no_tick = refl;
    goes_on = refl;
    fits = own_here (λ n. nat_lt a n ≡ true) (lt-ltb a (routine_at c k).words low);
  }

  pub store_word_plain : (o : Owner) (a : ℕ) → a < words_for c k o → IsPlain c k (store_word o a)
  store_word_plain OfProgram a low = record { no_jump = refl; no_tick = refl; goes_on = refl; fits = λ x at. lt-ltb a (routine_at c 0).words low }
  store_word_plain OfRoutine a low = record {
    no_jump = refl;
    no_tick = refl;
    goes_on = refl;
    fits = own_here (λ n. nat_lt a n ≡ true) (lt-ltb a (routine_at c k).words low);
  }

  pub refer_plain : (o : Owner) (a : ℕ) → a < words_for c k o → IsPlain c k (refer o a)
  refer_plain OfProgram a low = record { no_jump = refl; no_tick = refl; goes_on = refl; fits = λ x at. lt-ltb a (routine_at c 0).words low }
  refer_plain OfRoutine a low = record {
    no_jump = refl;
    no_tick = refl;
    goes_on = refl;
    fits = own_here (λ n. nat_lt a n ≡ true) (lt-ltb a (routine_at c k).words low);
  }

  pub load_through_plain : (a : ℕ) → a + 1 < (routine_at c k).words → IsPlain c k (with_a op.LoadR a)
  load_through_plain a low = record {
    no_jump = refl;
    no_tick = refl;
    goes_on = refl;
    fits = own_here (λ n. nat_lt (a + 1) n ≡ true) (lt-ltb (a + 1) (routine_at c k).words low);
  }

  pub store_through_plain : (a : ℕ) → a + 1 < (routine_at c k).words → IsPlain c k (with_a op.StoreR a)
  store_through_plain a low = record {
    no_jump = refl;
    no_tick = refl;
    goes_on = refl;
    fits = own_here (λ n. nat_lt (a + 1) n ≡ true) (lt-ltb (a + 1) (routine_at c k).words low);
  }

  pub element_load_plain : (o : Owner) (a n : ℕ) → 1 ≤ n → n ≤ 4096 → a + n ≤ words_for c k o → IsPlain c k (load_element o a n)
  element_load_plain OfProgram a n some few low = record {
    no_jump = refl;
    no_tick = refl;
    goes_on = refl;
    fits = λ x at. array_there (routine_at c 0).words a n some few low;
  }
  element_load_plain OfRoutine a n some few low = record {
    no_jump = refl;
    no_tick = refl;
    goes_on = refl;
    fits = own_here (λ w. array_fits w a n ≡ true) (array_there (routine_at c k).words a n some few low);
  }

  pub element_store_plain : (o : Owner) (a n : ℕ) → 1 ≤ n → n ≤ 4096 → a + n ≤ words_for c k o → IsPlain c k (store_element o a n)
  element_store_plain OfProgram a n some few low = record {
    no_jump = refl;
    no_tick = refl;
    goes_on = refl;
    fits = λ x at. array_there (routine_at c 0).words a n some few low;
  }
  element_store_plain OfRoutine a n some few low = record {
    no_jump = refl;
    no_tick = refl;
    goes_on = refl;
    fits = own_here (λ w. array_fits w a n ≡ true) (array_there (routine_at c k).words a n some few low);
  }

  pub test_plain : (b : Bounds) → bounds_fit (operand b.low) (operand b.high) ≡ true → IsPlain c k (test_index b)
  test_plain b fit = record { no_jump = refl; no_tick = refl; goes_on = refl; fits = λ x at. fit }

  pub call_instr_plain : (j : ℕ) → 1 ≤ j → j < length c.routines → IsPlain c k (with_a op.Call j)
  call_instr_plain j some low = record {
    no_jump = refl;
    no_tick = refl;
    goes_on = refl;
    fits = λ x at. and_from (nat_le 1 j) (nat_lt j (length c.routines)) (le-leb 1 j some) (lt-ltb j (length c.routines) low);
  }

  -- ---- Rows
  -- a row without an array
  pub sys_plain : (p : Procedure) → ((call_row_of p).array == 0) ≡ true → IsPlain c k (with_a op.Sys (row_number p))
  sys_plain p none = record {
    no_jump = refl;
    no_tick = refl;
    goes_on = refl;
    fits = λ x at. ap (λ o. option_map_or (λ (r : CallRow). r.array == 0) o false) (its_row p) ∙ none;
  }

  pub sys_array_plain : (o : Owner) (p : Procedure) (a : ℕ) → 1 ≤ (call_row_of p).array → a + (call_row_of p).array ≤ words_for c k o
      → IsPlain c k (call_with_array o (row_number p) a)
  sys_array_plain OfProgram p a some low = record {
    no_jump = refl;
    no_tick = refl;
    goes_on = refl;
    fits = λ x at. array_of_row p (routine_at c 0).words a some low;
  }
  sys_array_plain OfRoutine p a some low = record {
    no_jump = refl;
    no_tick = refl;
    goes_on = refl;
    fits = own_here (λ w. call_array_fits w (row_number p) a ≡ true) (array_of_row p (routine_at c k).words a some low);
  }

  -- the words of FOR and of CASE
  pub load_own_plain : (site : Site) (a : ℕ) → a < words_for c k site.owner → IsPlain c k (load_own site a)
  load_own_plain site a low = load_word_plain site.owner a low

  pub store_own_plain : (site : Site) (a : ℕ) → a < words_for c k site.owner → IsPlain c k (store_own site a)
  store_own_plain site a low = store_word_plain site.owner a low

  -- the tests and the step of a FOR
  pub reach_plain : (way : Direction) → IsPlain c k (bare (reach_op way))
  reach_plain direction.To = record { no_jump = refl; no_tick = refl; goes_on = refl; fits = λ x at. refl }
  reach_plain direction.Downto = record { no_jump = refl; no_tick = refl; goes_on = refl; fits = λ x at. refl }

  pub before_plain : (way : Direction) → IsPlain c k (bare (before_op way))
  before_plain direction.To = record { no_jump = refl; no_tick = refl; goes_on = refl; fits = λ x at. refl }
  before_plain direction.Downto = record { no_jump = refl; no_tick = refl; goes_on = refl; fits = λ x at. refl }

  pub step_plain : (way : Direction) → IsPlain c k (bare (step_op way))
  step_plain direction.To = record { no_jump = refl; no_tick = refl; goes_on = refl; fits = λ x at. refl }
  step_plain direction.Downto = record { no_jump = refl; no_tick = refl; goes_on = refl; fits = λ x at. refl }

  -- the test that fails at the end of a CASE
  pub no_branch_plain : IsPlain c k (test_index (record { low = pos 0; high = pos 0 }))
  no_branch_plain = test_plain (record { low = pos 0; high = pos 0 }) refl

  -- ---- Names

  module _ {rs : Routines} {site : Site} {in_function : Bool} (room : HasRoom c k rs site in_function) where
    pub name_plain : (x : List ℕ) (m : Sense) → site.names x ≡ m → CanLoad rs m → AllByRecursion (IsPlain c k) (name_code m)
    name_plain x (Constant v) is can = (push_plain v, tt)
    name_plain x (Variable o a) is can = (load_word_plain o a (room.variable x o a is), tt)
    name_plain x (Reference a) is can = (load_through_plain a (room.reference x a is), tt)
    name_plain x (Routine j passing) is can = let has = room.routine x j passing is in (call_instr_plain j has.0 has.1, tt)
    name_plain x (Array o a b) is can = absurd can
    name_plain x (Function f) is can = absurd can
    name_plain x (Interface p) is can = absurd can
    name_plain x Nothing is can = absurd can

    pub store_plain : (x : List ℕ) (m : Sense) → site.names x ≡ m → CanStore in_function m → AllByRecursion (IsPlain c k) (store_code site.result m)
    store_plain x (Variable o a) is can = (store_word_plain o a (room.variable x o a is), tt)
    store_plain x (Reference a) is can = (store_through_plain a (room.reference x a is), tt)
    store_plain x (Routine j passing) is can = (store_word_plain OfRoutine site.result (room.result can), tt)
    store_plain x (Constant v) is can = absurd can
    store_plain x (Array o a b) is can = absurd can
    store_plain x (Function f) is can = absurd can
    store_plain x (Interface p) is can = absurd can
    store_plain x Nothing is can = absurd can

    -- the counter of a FOR, and a variable that a row sets
    pub scalar_store_plain : (x : List ℕ) (m : Sense) → site.names x ≡ m → IsScalar m → AllByRecursion (IsPlain c k) (store_code site.result m)
    scalar_store_plain x (Variable o a) is can = (store_word_plain o a (room.variable x o a is), tt)
    scalar_store_plain x (Reference a) is can = (store_through_plain a (room.reference x a is), tt)
    scalar_store_plain x (Routine j passing) is can = absurd can
    scalar_store_plain x (Constant v) is can = absurd can
    scalar_store_plain x (Array o a b) is can = absurd can
    scalar_store_plain x (Function f) is can = absurd can
    scalar_store_plain x (Interface p) is can = absurd can
    scalar_store_plain x Nothing is can = absurd can

    pub reference_plain : (x : List ℕ) (m : Sense) → site.names x ≡ m → AllByRecursion (IsPlain c k) (reference_code m)
    reference_plain x (Variable o a) is = (refer_plain o a (room.variable x o a is), tt)
    reference_plain x (Reference a) is =
        let low = room.reference x a is in
        (load_word_plain OfRoutine a (omega (arith, low)), (load_word_plain OfRoutine (a + 1) low, tt))
    reference_plain x (Routine j passing) is = tt
    reference_plain x (Constant v) is = tt
    reference_plain x (Array o a b) is = tt
    reference_plain x (Function f) is = tt
    reference_plain x (Interface p) is = tt
    reference_plain x Nothing is = tt

    pub test_code_plain : (x : List ℕ) (m : Sense) → site.names x ≡ m → AllByRecursion (IsPlain c k) (test_code m)
    test_code_plain x (Array o a b) is = (test_plain b (room.array x o a b is).3, tt)
    test_code_plain x (Variable o a) is = tt
    test_code_plain x (Reference a) is = tt
    test_code_plain x (Routine j passing) is = tt
    test_code_plain x (Constant v) is = tt
    test_code_plain x (Function f) is = tt
    test_code_plain x (Interface p) is = tt
    test_code_plain x Nothing is = tt

    pub element_plain : (x : List ℕ) (m : Sense) → site.names x ≡ m → AllByRecursion (IsPlain c k) (element_code m)
    element_plain x (Array o a b) is = let has = room.array x o a b is in (element_load_plain o a (size_of b) has.0 has.1 has.2, tt)
    element_plain x (Variable o a) is = tt
    element_plain x (Reference a) is = tt
    element_plain x (Routine j passing) is = tt
    element_plain x (Constant v) is = tt
    element_plain x (Function f) is = tt
    element_plain x (Interface p) is = tt
    element_plain x Nothing is = tt

    pub store_element_plain : (x : List ℕ) (m : Sense) → site.names x ≡ m → AllByRecursion (IsPlain c k) (store_element_code m)
    store_element_plain x (Array o a b) is = let has = room.array x o a b is in (element_store_plain o a (size_of b) has.0 has.1 has.2, tt)
    store_element_plain x (Variable o a) is = tt
    store_element_plain x (Reference a) is = tt
    store_element_plain x (Routine j passing) is = tt
    store_element_plain x (Constant v) is = tt
    store_element_plain x (Function f) is = tt
    store_element_plain x (Interface p) is = tt
    store_element_plain x Nothing is = tt

    -- ---- Calls

    array_call_plain : (p : Procedure) (x : List ℕ) (m : Sense) → site.names x ≡ m → IsArrayOf (call_row_of p).array m → IsPlain c k (array_call p m)
    array_call_plain p x (Array o a b) is can =
        let has = room.array x o a b is in
        sys_array_plain o p a (subst (λ n. 1 ≤ n) can has.0) (subst (λ n. a + n ≤ words_for c k o) can has.2)
    array_call_plain p x (Variable o a) is can = absurd can
    array_call_plain p x (Reference a) is can = absurd can
    array_call_plain p x (Routine j passing) is can = absurd can
    array_call_plain p x (Constant v) is can = absurd can
    array_call_plain p x (Function f) is can = absurd can
    array_call_plain p x (Interface q) is can = absurd can
    array_call_plain p x Nothing is can = absurd can

    row_call_plain : (p : Procedure) (arrays : List Sense) → AllByRecursion (IsArrayHere site (call_row_of p).array) arrays
        → length arrays ≡ array_count (row_passing p) → IsPlain c k (row_call p arrays)
    row_call_plain p [] all count = sys_plain p (no_array p (sym count))
    row_call_plain p (s ∷ more) all count = array_call_plain p all.0.0 s all.0.1.0 all.0.1.1

    stores_plain : (callee : Sense) (by : List Passing) (given : List Sense) → ArePassed site callee by given
        → AllByRecursion (IsPlain c k) (stores_code site.result (variables_among by given))
    stores_plain callee [] [] are = tt
    stores_plain callee [] (s ∷ given) are = absurd are
    stores_plain callee (by ∷ others) [] are = absurd are
    stores_plain callee (ByValue ∷ others) (s ∷ given) are = stores_plain callee others given are.1
    stores_plain callee (ByArray ∷ others) (s ∷ given) are = stores_plain callee others given are.1
    stores_plain callee (ByVariable ∷ others) (s ∷ given) are =
        plain_more c k (stores_code site.result (variables_among others given)) (store_code site.result s)
        (stores_plain callee others given are.1) (scalar_store_plain are.0.0 s are.0.1.0 are.0.1.1.1)

    -- a call behind its arguments
    pub call_plain : (x : List ℕ) (m : Sense) → site.names x ≡ m → (given : List Sense) → ArePassed site m (passing_of m) given
        → AllByRecursion (IsPlain c k) (call_code site.result m given)
    call_plain x (Routine j passing) is given are = let has = room.routine x j passing is in (call_instr_plain j has.0 has.1, tt)
    call_plain x (Function f) is given are = standard_plain f
    call_plain x (Interface p) is given are =
        let arrays = arrays_passed site (Interface p) (row_passing p) given are in
        (row_call_plain p (arrays_among (row_passing p) given) arrays.0 arrays.1, stores_plain (Interface p) (row_passing p) given are)
    call_plain x (Constant v) is given are = tt
    call_plain x (Variable o a) is given are = tt
    call_plain x (Array o a b) is given are = tt
    call_plain x (Reference a) is given are = tt
    call_plain x Nothing is given are = tt

    variable_plain : (callee : Sense) (x : List ℕ) → AllByRecursion (IsPlain c k) (variable_code callee (site.names x))
    variable_plain (Routine j passing) x = reference_plain x (site.names x) refl
    variable_plain (Interface p) x = tt
    variable_plain (Constant v) x = tt
    variable_plain (Variable o a) x = tt
    variable_plain (Array o a b) x = tt
    variable_plain (Reference a) x = tt
    variable_plain (Function f) x = tt
    variable_plain Nothing x = tt

    -- an argument whose code is plain where it is a value
    passed_plain : (callee : Sense) (by : Passing) (x : List ℕ) (code : List Instr) (SuitsIt : Type 0) → (SuitsIt → AllByRecursion (IsPlain c k) code)
        → CanPass callee by (site.names x) SuitsIt → AllByRecursion (IsPlain c k) (passed_code callee by (site.names x) code)
    passed_plain callee ByValue x code SuitsIt plain can = plain can
    passed_plain callee ByVariable x code SuitsIt plain can = variable_plain callee x
    passed_plain callee ByArray x code SuitsIt plain can = tt

    -- ---- Expressions

    mutual
      pub expr_plain : (e : Expr) → SuitsExpr rs site.names e → AllByRecursion (IsPlain c k) (expr_code site e)
      expr_plain (alone s) suits = simple_plain s suits
      expr_plain (compared s r line t) suits =
          plain_more c k (simple_code site s) (simple_code site t ++ bare (relation_op r) ∷ []) (simple_plain s suits.0)
          (plain_more c k (simple_code site t) (bare (relation_op r) ∷ []) (simple_plain t suits.1) (relation_plain r, tt))

      pub simple_plain : (s : Simple) → SuitsSimple rs site.names s → AllByRecursion (IsPlain c k) (simple_code site s)
      simple_plain (simple sign t more) suits =
          plain_more c k (term_code site t) (sign_code sign ++ addends_code site more) (term_plain t suits.0)
          (plain_more c k (sign_code sign) (addends_code site more) (sign_plain sign) (addends_plain more suits.1))

      pub addends_plain : (a : Addends) → SuitsAddends rs site.names a → AllByRecursion (IsPlain c k) (addends_code site a)
      addends_plain no_addend suits = tt
      addends_plain (addend a line t more) suits =
          plain_more c k (term_code site t) (bare (adding_op a) ∷ addends_code site more) (term_plain t suits.0) (adding_plain a, addends_plain more suits.1)

      pub term_plain : (t : Term) → SuitsTerm rs site.names t → AllByRecursion (IsPlain c k) (term_code site t)
      term_plain (term f more) suits =
          plain_more c k (factor_code site f) (multipliers_code site more) (factor_plain f suits.0) (multipliers_plain more suits.1)

      pub multipliers_plain : (m : Multipliers) → SuitsMultipliers rs site.names m → AllByRecursion (IsPlain c k) (multipliers_code site m)
      multipliers_plain no_multiplier suits = tt
      multipliers_plain (multiplier m line f more) suits =
          plain_more c k (factor_code site f) (bare (multiplying_op m) ∷ multipliers_code site more) (factor_plain f suits.0)
          (multiplying_plain m, multipliers_plain more suits.1)

      pub factor_plain : (f : Factor) → SuitsFactor rs site.names f → AllByRecursion (IsPlain c k) (factor_code site f)
      factor_plain (number n) suits = (push_plain (pos n.value), tt)
      factor_plain (character x) suits = (push_plain (pos x.code), tt)
      factor_plain (named x) suits = name_plain x.letters (site.names x.letters) refl suits
      factor_plain (element x i) suits =
          plain_more c k (index_code site (site.names x.letters) i) (element_code (site.names x.letters)) (index_plain x.letters i suits.1)
          (element_plain x.letters (site.names x.letters) refl)
      factor_plain (called x a) suits =
          let callee = site.names x.letters in
          plain_more c k (arguments_code site callee (passing_of callee) a) (call_code site.result callee (given_arguments site a))
          (arguments_plain callee (passing_of callee) a suits.1)
          (call_plain x.letters callee refl (given_arguments site a) (arguments_passed rs site callee (passing_of callee) a suits.1))
      factor_plain (group opening e closing) suits = expr_plain e suits
      factor_plain (negated line f) suits = plain_more c k (factor_code site f) (bare op.Not ∷ []) (factor_plain f suits) (not_plain, tt)

      pub index_plain : (x : List ℕ) (i : Index) → SuitsIndex rs site.names i → AllByRecursion (IsPlain c k) (index_code site (site.names x) i)
      index_plain x (index opening e closing) suits =
          plain_more c k (expr_code site e) (test_code (site.names x)) (expr_plain e suits) (test_code_plain x (site.names x) refl)

      pub arguments_plain : (callee : Sense) (by : List Passing) (a : Arguments) → SuitsArguments rs site.names callee by a
          → AllByRecursion (IsPlain c k) (arguments_code site callee by a)
      arguments_plain callee [] (arguments opening e more closing) suits = absurd suits
      arguments_plain callee (by ∷ others) (arguments opening e more closing) suits =
          plain_more c k (passed_code callee by (site.names (name_in e)) (expr_code site e)) (exprs_code site callee others more)
          (passed_plain callee by (name_in e) (expr_code site e) (SuitsExpr rs site.names e) (λ it. expr_plain e it) suits.0)
          (exprs_plain callee others more suits.1)

      pub exprs_plain : (callee : Sense) (by : List Passing) (e : Exprs) → SuitsExprs rs site.names callee by e
          → AllByRecursion (IsPlain c k) (exprs_code site callee by e)
      exprs_plain callee [] no_expr suits = tt
      exprs_plain callee (by ∷ others) no_expr suits = absurd suits
      exprs_plain callee [] (next_expr comma e more) suits = absurd suits
      exprs_plain callee (by ∷ others) (next_expr comma e more) suits =
          plain_more c k (passed_code callee by (site.names (name_in e)) (expr_code site e)) (exprs_code site callee others more)
          (passed_plain callee by (name_in e) (expr_code site e) (SuitsExpr rs site.names e) (λ it. expr_plain e it) suits.0)
          (exprs_plain callee others more suits.1)

    -- ---- Statements

    pub call_statement_plain : (x : NameAt) (a : Option Arguments) → SuitsCall rs site.names x a
        → AllByRecursion (IsPlain c k) (call_statement_code site x a)
    call_statement_plain x None suits =
        let callee = site.names x.letters in
        call_plain x.letters callee refl [] (subst (λ (by : List Passing). ArePassed site callee by []) (sym suits.1) tt)
    call_statement_plain x (Some a) suits =
        let callee = site.names x.letters in
        plain_more c k (arguments_code site callee (passing_of callee) a) (call_code site.result callee (given_arguments site a))
        (arguments_plain callee (passing_of callee) a suits.1)
        (call_plain x.letters callee refl (given_arguments site a) (arguments_passed rs site callee (passing_of callee) a suits.1))

-- A TICK leads straight to each place of an expression's code behind it.
use Rattle.std.proofs.Common.{◌≡◌, ℕ, ◌+◌, ◌<◌, ◌≤◌, Bool, true, false, Some, List, [], ◌∷◌, ◌++◌, length, ◌⊎◌, inl, inr, refl, sym, ◌∙◌, ap, subst, arith, pos}
use Rattle.std.specs.Prelude.{slice_get, ◌==◌, ◌&&◌, ◌||◌, not}
use Rattle.std.specs.List.{AllByRecursion}
use Rattle.std.proofs.lemmas.Bool.{false≢true, cases_Bool, cases_order, eq-eqb, and_from, or_left, or_right}
use Rattle.solo_base.specs.declared.interface.Procedure.{Procedure}
use Rattle.stack_code.specs.declared.table.Op.{Op}
use Rattle.stack_code.specs.declared.table.Op.TheVariants as op
use Rattle.stack_code.specs.declared.instr.Instr.{Instr}
use Rattle.stack_code.specs.CodeLists.{CodeLists, instr_at}
use Rattle.stack_code.specs.Rules.{routine_of, height_at, is_jump, is_tick, is_target, is_behind_tick, leaves_nothing}
use Rattle.stack_code.proofs.BehindTick.{is_behind_tick_next}
use Rattle.pascal_tree.specs.Expression.{Expr, alone, compared, Simple, simple, Term, term, Factor, number, character, named, element, called, group, negated, Index, index, Arguments, arguments, Exprs, no_expr, next_expr}
use Rattle.pascal_mean.specs.Means.{Owner, OfProgram, OfRoutine}
use Rattle.pascal_mean.specs.Calls.{Passing, ByValue, ByVariable, ByArray, row_passing}
use Rattle.pascal_mean.specs.Expressions.{name_in}
use Rattle.pascal_code.specs.Instructions.{bare, with_a, push, tick, load_word, refer}
use Rattle.pascal_code.specs.Senses.{Sense, Constant, Variable, Array, Reference, Routine, Function, Interface, Nothing, Site}
use Rattle.pascal_code.specs.Names.{name_code, reference_code, test_code, element_code}
use Rattle.pascal_code.specs.Calls.{passing_of, variable_code, passed_code, given_arguments, variables_among, arrays_among, row_call, stores_code, call_code}
use Rattle.pascal_code.specs.Expressions.{relation_op, sign_code, expr_code, simple_code, addends_code, term_code, multipliers_code, factor_code, index_code, arguments_code, exprs_code}
use Rattle.pascal_code.specs.Statements.{load_own}
use Rattle.code_law.specs.Suits.{Routines, CanLoad, CanCall, CanPass, SuitsExpr, SuitsSimple, SuitsTerm, SuitsFactor, SuitsIndex, SuitsArguments, SuitsExprs}
use Rattle.code_law.specs.Heights.{behind, Lift, IsPlain}
use Rattle.code_law.proofs.Standing.{Stand, stands_to}
use Rattle.code_law.proofs.Fine.{Opens, ATick, AnEnd, AKeptWord, IsBehindJump, Lands, found_at, height_step}

-- ---- What is no load of a word that a FOR or a CASE keeps

abbrev pub NotKept : Site → ℕ → Instr → Type 0
NotKept site base i = (w : ℕ) → base ≤ w → i ≡ load_own site w → ⊥

abbrev pub is_load : Op → Bool
is_load op.LoadG = true
is_load op.LoadL = true
is_load other = false

abbrev is_own_load : Op → Bool
is_own_load op.LoadL = true
is_own_load other = false

word_is_load : (o : Owner) (a : ℕ) → is_load (load_word o a).op ≡ true
word_is_load OfProgram a = refl
word_is_load OfRoutine a = refl

pub not_load : (site : Site) (base : ℕ) (i : Instr) → is_load i.op ≡ false → NotKept site base i
not_load site base i none w low same = absurd (false≢true (sym none ∙ ap (λ (j : Instr). is_load j.op) same ∙ word_is_load site.owner w))

lower_word : (base : ℕ) (o own : Owner) (a w : ℕ) → (o ≡ own → a < base) → base ≤ w → load_word o a ≡ load_word own w → ⊥
lower_word base OfProgram OfProgram a w less low same = omega (arith, less refl, low, ap (λ (j : Instr). j.a) same)
lower_word base OfRoutine OfRoutine a w less low same = omega (arith, less refl, low, ap (λ (j : Instr). j.a) same)
lower_word base OfProgram OfRoutine a w less low same = absurd (false≢true (ap (λ (j : Instr). is_own_load j.op) same))
lower_word base OfRoutine OfProgram a w less low same = absurd (false≢true (sym (ap (λ (j : Instr). is_own_load j.op) same)))

-- there is a first instruction, and it is none
abbrev pub Begins : Site → ℕ → List Instr → Type 0
Begins site base code = (i : Instr) × (more : List Instr) × (code ≡ i ∷ more) × NotKept site base i

-- if there is a first instruction, it is none
abbrev pub MayBegin : Site → ℕ → List Instr → Type 0
MayBegin site base [] = Unit {0}
MayBegin site base (i ∷ more) = NotKept site base i

pub begins_in_front : (site : Site) (base : ℕ) (front rest : List Instr) → Begins site base front → Begins site base (front ++ rest)
begins_in_front site base front rest has = (has.0, has.1 ++ rest, ap (λ (l : List Instr). l ++ rest) has.2, has.3)

pub begins_behind : (site : Site) (base : ℕ) (front rest : List Instr) → MayBegin site base front → Begins site base rest → Begins site base (front ++ rest)
begins_behind site base [] rest may has = has
begins_behind site base (i ∷ front) rest may has = (i, front ++ rest, refl, may)

pub may_begin : (site : Site) (base : ℕ) (code : List Instr) → Begins site base code → MayBegin site base code
may_begin site base code has = subst (MayBegin site base) (sym has.2) has.3

may_begin_behind : (site : Site) (base : ℕ) (front rest : List Instr) → MayBegin site base front → MayBegin site base rest → MayBegin site base (front ++ rest)
may_begin_behind site base [] rest may has = has
may_begin_behind site base (i ∷ front) rest may has = may

pub row_is_no_load : (p : Procedure) (l : List Sense) → is_load (row_call p l).op ≡ false
row_is_no_load p [] = refl
row_is_no_load p (Array OfProgram a b ∷ l) = refl
row_is_no_load p (Array OfRoutine a b ∷ l) = refl
row_is_no_load p (Constant v ∷ l) = refl
row_is_no_load p (Variable o a ∷ l) = refl
row_is_no_load p (Reference a ∷ l) = refl
row_is_no_load p (Routine j passing ∷ l) = refl
row_is_no_load p (Function f ∷ l) = refl
row_is_no_load p (Interface q ∷ l) = refl
row_is_no_load p (Nothing ∷ l) = refl

module _ (rs : Routines) (site : Site) (base : ℕ) (low : (x : List ℕ) (a : ℕ) → site.names x ≡ Variable site.owner a → a < base)
    (low_reference : (x : List ℕ) (a : ℕ) → site.names x ≡ Reference a → a + 1 < base) where
  other : (i : Instr) → is_load i.op ≡ false → NotKept site base i
  other i none = not_load site base i none

  variable_lower : (x : List ℕ) (o : Owner) (a : ℕ) → site.names x ≡ Variable o a → NotKept site base (load_word o a)
  variable_lower x o a is w high same =
      lower_word base o site.owner a w (λ own. low x a (subst (λ (p : Owner). site.names x ≡ Variable p a) own is)) high same

  own_lower : (a : ℕ) → a < base → NotKept site base (load_word OfRoutine a)
  own_lower a less w high same = lower_word base OfRoutine site.owner a w (λ own. less) high same

  name_begins : (x : List ℕ) (m : Sense) → site.names x ≡ m → CanLoad rs m → Begins site base (name_code m)
  name_begins x (Constant v) is can = (push v, [], refl, other (push v) refl)
  name_begins x (Variable o a) is can = (load_word o a, [], refl, variable_lower x o a is)
  name_begins x (Reference a) is can = (with_a op.LoadR a, [], refl, other (with_a op.LoadR a) refl)
  name_begins x (Routine j passing) is can = (with_a op.Call j, [], refl, other (with_a op.Call j) refl)
  name_begins x (Array o a b) is can = absurd can
  name_begins x (Function f) is can = absurd can
  name_begins x (Interface p) is can = absurd can
  name_begins x Nothing is can = absurd can

  refer_begins : (o : Owner) (a : ℕ) → is_load (refer o a).op ≡ false
  refer_begins OfProgram a = refl
  refer_begins OfRoutine a = refl

  reference_begins : (x : List ℕ) (m : Sense) → site.names x ≡ m → MayBegin site base (reference_code m)
  reference_begins x (Variable o a) is = other (refer o a) (refer_begins o a)
  reference_begins x (Reference a) is = own_lower a (omega (arith, low_reference x a is))
  reference_begins x (Routine j passing) is = tt
  reference_begins x (Constant v) is = tt
  reference_begins x (Array o a b) is = tt
  reference_begins x (Function f) is = tt
  reference_begins x (Interface p) is = tt
  reference_begins x Nothing is = tt

  variable_begins : (callee : Sense) (x : List ℕ) → MayBegin site base (variable_code callee (site.names x))
  variable_begins (Routine j passing) x = reference_begins x (site.names x) refl
  variable_begins (Interface p) x = tt
  variable_begins (Constant v) x = tt
  variable_begins (Variable o a) x = tt
  variable_begins (Array o a b) x = tt
  variable_begins (Reference a) x = tt
  variable_begins (Function f) x = tt
  variable_begins Nothing x = tt

  passed_begins : (callee : Sense) (by : Passing) (x : List ℕ) (code : List Instr) (SuitsIt : Type 0) → (SuitsIt → Begins site base code)
      → CanPass callee by (site.names x) SuitsIt → MayBegin site base (passed_code callee by (site.names x) code)
  passed_begins callee ByValue x code SuitsIt begins can = may_begin site base code (begins can)
  passed_begins callee ByVariable x code SuitsIt begins can = variable_begins callee x
  passed_begins callee ByArray x code SuitsIt begins can = tt

  -- a call behind its arguments
  called_begins : (m : Sense) (given : List Sense) (code : List Instr) → CanCall rs true m → MayBegin site base code
      → (passing_of m ≡ ByValue ∷ [] → Begins site base code) → Begins site base (code ++ call_code site.result m given)
  called_begins (Routine j passing) given code can may first =
      begins_behind site base code (with_a op.Call j ∷ []) may (with_a op.Call j, [], refl, other (with_a op.Call j) refl)
  called_begins (Function f) given code can may first = begins_in_front site base code (call_code site.result (Function f) given) (first refl)
  called_begins (Interface p) given code can may first =
      let one = row_call p (arrays_among (row_passing p) given) in
      let stores = stores_code site.result (variables_among (row_passing p) given) in
      begins_behind site base code (one ∷ stores) may (one, stores, refl, other one (row_is_no_load p (arrays_among (row_passing p) given)))
  called_begins (Constant v) given code can may first = absurd can
  called_begins (Variable o a) given code can may first = absurd can
  called_begins (Array o a b) given code can may first = absurd can
  called_begins (Reference a) given code can may first = absurd can
  called_begins Nothing given code can may first = absurd can

  mutual
    pub expr_begins : (e : Expr) → SuitsExpr rs site.names e → Begins site base (expr_code site e)
    expr_begins (alone s) suits = simple_begins s suits
    expr_begins (compared s r line t) suits =
        begins_in_front site base (simple_code site s) (simple_code site t ++ bare (relation_op r) ∷ []) (simple_begins s suits.0)

    simple_begins : (s : Simple) → SuitsSimple rs site.names s → Begins site base (simple_code site s)
    simple_begins (simple sign t more) suits = begins_in_front site base (term_code site t) (sign_code sign ++ addends_code site more) (term_begins t suits.0)

    term_begins : (t : Term) → SuitsTerm rs site.names t → Begins site base (term_code site t)
    term_begins (term f more) suits = begins_in_front site base (factor_code site f) (multipliers_code site more) (factor_begins f suits.0)

    factor_begins : (f : Factor) → SuitsFactor rs site.names f → Begins site base (factor_code site f)
    factor_begins (number n) suits = (push (pos n.value), [], refl, other (push (pos n.value)) refl)
    factor_begins (character x) suits = (push (pos x.code), [], refl, other (push (pos x.code)) refl)
    factor_begins (named x) suits = name_begins x.letters (site.names x.letters) refl suits
    factor_begins (element x i) suits =
        begins_in_front site base (index_code site (site.names x.letters) i) (element_code (site.names x.letters))
        (index_begins (site.names x.letters) i suits.1)
    factor_begins (called x a) suits =
        let callee = site.names x.letters in
        called_begins callee (given_arguments site a) (arguments_code site callee (passing_of callee) a) suits.0
        (arguments_begin callee (passing_of callee) a suits.1)
        (λ one. subst (λ (by : List Passing). Begins site base (arguments_code site callee by a)) (sym one)
        (value_begins callee a (subst (λ (by : List Passing). SuitsArguments rs site.names callee by a) one suits.1)))
    factor_begins (group opening e closing) suits = expr_begins e suits
    factor_begins (negated line f) suits = begins_in_front site base (factor_code site f) (bare op.Not ∷ []) (factor_begins f suits)

    pub index_begins : (m : Sense) (i : Index) → SuitsIndex rs site.names i → Begins site base (index_code site m i)
    index_begins m (index opening e closing) suits = begins_in_front site base (expr_code site e) (test_code m) (expr_begins e suits)

    value_begins : (callee : Sense) (a : Arguments) → SuitsArguments rs site.names callee (ByValue ∷ []) a
        → Begins site base (arguments_code site callee (ByValue ∷ []) a)
    value_begins callee (arguments opening e more closing) suits =
        begins_in_front site base (expr_code site e) (exprs_code site callee [] more) (expr_begins e suits.0)

    pub arguments_begin : (callee : Sense) (by : List Passing) (a : Arguments) → SuitsArguments rs site.names callee by a
        → MayBegin site base (arguments_code site callee by a)
    arguments_begin callee [] (arguments opening e more closing) suits = absurd suits
    arguments_begin callee (by ∷ others) (arguments opening e more closing) suits =
        may_begin_behind site base (passed_code callee by (site.names (name_in e)) (expr_code site e)) (exprs_code site callee others more)
        (passed_begins callee by (name_in e) (expr_code site e) (SuitsExpr rs site.names e) (λ it. expr_begins e it) suits.0)
        (exprs_begin callee others more suits.1)

    exprs_begin : (callee : Sense) (by : List Passing) (e : Exprs) → SuitsExprs rs site.names callee by e
        → MayBegin site base (exprs_code site callee by e)
    exprs_begin callee [] no_expr suits = tt
    exprs_begin callee (by ∷ others) no_expr suits = absurd suits
    exprs_begin callee [] (next_expr comma e more) suits = absurd suits
    exprs_begin callee (by ∷ others) (next_expr comma e more) suits =
        may_begin_behind site base (passed_code callee by (site.names (name_in e)) (expr_code site e)) (exprs_code site callee others more)
        (passed_begins callee by (name_in e) (expr_code site e) (SuitsExpr rs site.names e) (λ it. expr_begins e it) suits.0)
        (exprs_begin callee others more suits.1)

-- ---- From one place to the next

-- no jump stands there, and the TICK does, or a TICK leads there
pub record LeadsOn (c : CodeLists) (x : ℕ) : Type 0 where
  pub passes : is_jump (instr_at c x).op ≡ false
  pub led : (is_tick (instr_at c x).op || (not (is_jump (instr_at c x).op) && is_behind_tick c x)) ≡ true

pub leads_from_tick : (c : CodeLists) (p line : ℕ) → slice_get c.instrs p ≡ Some (tick line) → LeadsOn c p
leads_from_tick c p line found =
    let here : instr_at c p ≡ tick line = found_at c p (tick line) found in
    record {
      passes = ap (λ (j : Instr). is_jump j.op) here;
      led = or_left (is_tick (instr_at c p).op) _ (ap (λ (j : Instr). is_tick j.op) here);
    }

pub leads_from_behind : (c : CodeLists) (p : ℕ) (i : Instr) → slice_get c.instrs p ≡ Some i → is_jump i.op ≡ false → is_behind_tick c p ≡ true → LeadsOn c p
leads_from_behind c p i found none led =
    let quiet : is_jump (instr_at c p).op ≡ false = ap (λ (j : Instr). is_jump j.op) (found_at c p i found) ∙ none in
    record {
      passes = quiet;
      led = or_right (is_tick (instr_at c p).op) _ (and_from (not (is_jump (instr_at c p).op)) (is_behind_tick c p) (ap not quiet) led);
    }

module _ (c : CodeLists) (k : ℕ) (site : Site) (base start end : ℕ) (within : (x : ℕ) → start ≤ x → x < end → routine_of c x ≡ k) (some : end ≤ length c.instrs)
    (targets : (t : ℕ) → start ≤ t → t < end → is_target c t ≡ true → Lands c site base t) where
  -- where something is on the stack no jump leads
  high_no_target : (x : ℕ) → start ≤ x → x < end → 1 ≤ height_at c x → is_target c x ≡ false
  high_no_target x low high much = by_test (cases_Bool (is_target c x))
    where
      by_test : (is_target c x ≡ true) ⊎ (is_target c x ≡ false) → is_target c x ≡ false
      by_test (inl leads) = absurd (omega (arith, much, (targets x low high leads).height))
      by_test (inr none) = none

  -- nor where such an instruction stands that opens nothing, behind one that is no jump
  plain_no_target : (x : ℕ) (i : Instr) → start ≤ x → x + 1 < end → LeadsOn c x → slice_get c.instrs (x + 1) ≡ Some i → is_tick i.op ≡ false
      → leaves_nothing i.op ≡ false → NotKept site base i
      → is_target c (x + 1) ≡ false
  plain_no_target x i low high leads found no_tick goes_on lower = by_test (cases_Bool (is_target c (x + 1)))
    where
      here : instr_at c (x + 1) ≡ i
      here = found_at c (x + 1) i found

      opens_not : Opens site base (instr_at c (x + 1)) → ⊥
      opens_not (ATick ticks) = absurd (false≢true (sym no_tick ∙ ap (λ (j : Instr). is_tick j.op) (sym here) ∙ ticks))
      opens_not (AnEnd ends) = absurd (false≢true (sym goes_on ∙ ap (λ (j : Instr). leaves_nothing j.op) (sym here) ∙ ends))
      opens_not (AKeptWord w kept same) = lower w kept (sym here ∙ same)

      before_not : IsBehindJump c (x + 1) → ⊥
      before_not jump =
          let same : jump.before ≡ x = omega (arith, jump.next) in
          absurd (false≢true (sym leads.passes ∙ ap (λ (n : ℕ). is_jump (instr_at c n).op) (sym same) ∙ jump.jumps))

      by_opener : Opens site base (instr_at c (x + 1)) ⊎ IsBehindJump c (x + 1) → ⊥
      by_opener (inl opener) = opens_not opener
      by_opener (inr jump) = before_not jump

      by_test : (is_target c (x + 1) ≡ true) ⊎ (is_target c (x + 1) ≡ false) → is_target c (x + 1) ≡ false
      by_test (inl leads_there) = absurd (by_opener (targets (x + 1) (omega (arith, low)) high leads_there).opener)
      by_test (inr none) = none

  next_behind : (x : ℕ) → start ≤ x → x + 1 < end → LeadsOn c x → is_target c (x + 1) ≡ false → is_behind_tick c (x + 1) ≡ true
  next_behind x low high leads none =
      is_behind_tick_next c x
      ∙ and_from (not (is_target c (x + 1)) && (routine_of c (x + 1) == routine_of c x)) _
      (and_from (not (is_target c (x + 1))) (routine_of c (x + 1) == routine_of c x) (ap not none)
      (eq-eqb (routine_of c (x + 1)) (routine_of c x) (within (x + 1) (omega (arith, low)) high ∙ sym (within x low (omega (arith, high))))))
      leads.led

  pub begun_behind : (x : ℕ) (i : Instr) → start ≤ x → x + 1 < end → LeadsOn c x → slice_get c.instrs (x + 1) ≡ Some i → is_tick i.op ≡ false
      → leaves_nothing i.op ≡ false → NotKept site base i
      → is_behind_tick c (x + 1) ≡ true
  begun_behind x i low high leads found no_tick goes_on lower =
      next_behind x low high leads (plain_no_target x i low high leads found no_tick goes_on lower)

  -- along plain code that keeps something on the stack, to the place behind it
  pub run_behind : (code : List Instr) (p q h n : ℕ) → start ≤ p → q < end → Stand c p code q → Lift c 1 1500 code h n → height_at c p ≡ h
      → AllByRecursion (IsPlain c k) code
      → is_behind_tick c p ≡ true → (x : ℕ) → p ≤ x → x ≤ q → is_behind_tick c x ≡ true
  run_behind [] p q h n low high stand lift at all led x from to =
      let same : p ≡ x = omega (arith, stand, from, to) in
      subst (λ (y : ℕ). is_behind_tick c y ≡ true) same led
  run_behind (i ∷ code) p q h n low high stand lift at all led x from to =
      let far : q ≡ p + 1 + length code = stands_to c (p + 1) code q stand.1 in
      let next : height_at c (p + 1) ≡ behind c i h =
      height_step c k site base start end within some p i low (omega (arith, far, high)) stand.0 ∙ ap (behind c i) at in
      let none : is_target c (p + 1) ≡ false = high_no_target (p + 1) (omega (arith, low)) (omega (arith, far, high)) (omega (arith, next, lift.1)) in
      let led_next : is_behind_tick c (p + 1) ≡ true =
      next_behind p low (omega (arith, far, high)) (leads_from_behind c p i stand.0 (all.0).no_jump led) none in
      by_place (cases_order p x) (λ behind_here. run_behind code (p + 1) q (behind c i h) n (omega (arith, low)) high stand.1 lift.4 next all.1 led_next x
      (omega (arith, behind_here)) to)
    where
      by_place : (p ≡ x) ⊎ ((p < x) ⊎ (x < p)) → (p < x → is_behind_tick c x ≡ true) → is_behind_tick c x ≡ true
      by_place (inl same) later = subst (λ (y : ℕ). is_behind_tick c y ≡ true) same led
      by_place (inr (inl behind_here)) later = later behind_here
      by_place (inr (inr before)) later = absurd (omega (arith, before, from))

  -- Behind a TICK, or behind what it leads to: plain code, and an instruction behind it.
  pub straight : (code : List Instr) (j : Instr) (p q h n : ℕ) → start ≤ p → q < end → LeadsOn c p → Stand c (p + 1) code q → slice_get c.instrs q ≡ Some j
      → Lift c 1 1500 code h n → height_at c (p + 1) ≡ h → AllByRecursion (IsPlain c k) code → MayBegin site base code → is_tick j.op ≡ false
      → leaves_nothing j.op ≡ false → NotKept site base j
      → (x : ℕ) → p < x → x ≤ q → is_behind_tick c x ≡ true
  straight [] j p q h n low high leads stand found lift at all may no_tick goes_on lower x from to =
      let here : slice_get c.instrs (p + 1) ≡ Some j = ap (slice_get c.instrs) stand ∙ found in
      let same : p + 1 ≡ x = omega (arith, stand, from, to) in
      subst (λ (y : ℕ). is_behind_tick c y ≡ true) same (begun_behind p j low (omega (arith, stand, high)) leads here no_tick goes_on lower)
  straight (i ∷ code) j p q h n low high leads stand found lift at all may no_tick goes_on lower x from to =
      let far : q ≡ p + 1 + 1 + length code = stands_to c (p + 1 + 1) code q stand.1 in
      run_behind (i ∷ code) (p + 1) q h n (omega (arith, low)) high stand lift at all
      (begun_behind p i low (omega (arith, far, high)) leads stand.0 (all.0).no_tick (all.0).goes_on may) x (omega (arith, from)) to

  -- the same of code that begins, whatever stands behind it
  pub straight_on : (code : List Instr) (p q h n : ℕ) → start ≤ p → q < end → LeadsOn c p → Stand c (p + 1) code q
      → Lift c 1 1500 code h n → height_at c (p + 1) ≡ h → AllByRecursion (IsPlain c k) code → MayBegin site base code → (x : ℕ) → p < x → x < q
      → is_behind_tick c x ≡ true
  straight_on [] p q h n low high leads stand lift at all may x from to = absurd (omega (arith, stand, from, to))
  straight_on (i ∷ code) p q h n low high leads stand lift at all may x from to =
      let far : q ≡ p + 1 + 1 + length code = stands_to c (p + 1 + 1) code q stand.1 in
      run_behind (i ∷ code) (p + 1) q h n (omega (arith, low)) high stand lift at all
      (begun_behind p i low (omega (arith, far, high)) leads stand.0 (all.0).no_tick (all.0).goes_on may) x (omega (arith, from)) (omega (arith, to))

  -- and the same to the place behind it, of code that has a first instruction
  pub straight_to : (code : List Instr) (p q h n : ℕ) → start ≤ p → q < end → LeadsOn c p → Stand c (p + 1) code q
      → Lift c 1 1500 code h n → height_at c (p + 1) ≡ h → AllByRecursion (IsPlain c k) code → Begins site base code → (x : ℕ) → p < x → x ≤ q
      → is_behind_tick c x ≡ true
  straight_to [] p q h n low high leads stand lift at all begins x from to = absurd (omega (arith, ap (λ (l : List Instr). length l) begins.2))
  straight_to (i ∷ code) p q h n low high leads stand lift at all begins x from to =
      let far : q ≡ p + 1 + 1 + length code = stands_to c (p + 1 + 1) code q stand.1 in
      run_behind (i ∷ code) (p + 1) q h n (omega (arith, low)) high stand lift at all
      (begun_behind p i low (omega (arith, far, high)) leads stand.0 (all.0).no_tick (all.0).goes_on (may_begin site base (i ∷ code) begins)) x
      (omega (arith, from)) to

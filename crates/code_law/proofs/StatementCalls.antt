-- Each CALL of a statement's code stands behind a TICK that leads straight to it.
use Rattle.std.proofs.Common.{◌≡◌, ℕ, ◌+◌, ◌-◌, ◌*◌, ◌<◌, ◌≤◌, Bool, true, false, Some, None, Option, List, [], ◌∷◌, ◌++◌, length, ◌⊎◌, inl, inr, refl, sym, ◌∙◌, ap, arith}
use Rattle.std.specs.Prelude.{slice_get}
use Rattle.std.specs.List.{AllByRecursion}
use Rattle.std.proofs.lemmas.Bool.{false≢true}
use Rattle.solo_base.specs.declared.interface.Procedure.{Procedure}
use Rattle.stack_code.specs.declared.table.Op.{Op}
use Rattle.stack_code.specs.declared.table.Op.TheVariants as op
use Rattle.stack_code.specs.declared.instr.Instr.{Instr}
use Rattle.stack_code.specs.CodeLists.{CodeLists, instr_at}
use Rattle.stack_code.specs.Rules.{routine_of, height_at, is_call, is_jump, is_target, is_behind_tick}
use Rattle.pascal_tree.specs.declared.constant.Constant.{Constant}
use Rattle.pascal_tree.specs.declared.statement.Direction.{Direction}
use Rattle.pascal_tree.specs.declared.statement.Direction.TheVariants as direction
use Rattle.pascal_tree.specs.Word.{NameAt}
use Rattle.pascal_tree.specs.Expression.{Expr, Index, Arguments}
use Rattle.pascal_tree.specs.Statement.{Labels, Statement, empty, assign, call, compound, if_then, if_else, while_do, repeat_until, for_do, case_of, Body, body, Sequence, sequence, Statements, no_statement, next_statement, Branch, branch, Branches, no_branch, next_branch}
use Rattle.pascal_tree.specs.Limits.{most_levels, ExprFits, PlaceFits, CallFits, StatementFits, BodyFits, SequenceFits, StatementsFit, BranchFits, BranchesFit}
use Rattle.pascal_mean.specs.Means.{Owner, OfProgram, OfRoutine, Standard, Abs, Succ, Pred, Ord, Chr}
use Rattle.pascal_mean.specs.Calls.{row_passing}
use Rattle.pascal_code.specs.Instructions.{bare, with_a, tick, load_word, store_word}
use Rattle.pascal_code.specs.Senses.{Sense, Variable, Array, Reference, Routine, Function, Interface, Nothing, Site}
use Rattle.pascal_code.specs.Senses as senses
use Rattle.pascal_code.specs.Names.{store_code, store_element_code}
use Rattle.pascal_code.specs.Calls.{standard_code, passing_of, given_arguments, variables_among, arrays_among, row_call, stores_code, call_code}
use Rattle.pascal_code.specs.Expressions.{expr_code, index_code, arguments_code}
use Rattle.pascal_code.specs.Statements.{load_own, store_own, jump, jump_if_false, call_statement_code, reach_op, before_op, step_op, counter_test, counter_step, label_test, more_label_tests, label_tests, label_tests_size, no_branch_code, statement_code, body_code, sequence_code, statements_code, branch_code, branches_code}
use Rattle.code_law.specs.Suits.{Routines, CanIndex, SuitsExpr, SuitsIndex, SuitsStatement, SuitsBody, SuitsSequence, SuitsStatements, SuitsBranch, SuitsBranches}
use Rattle.code_law.specs.Heights.{behind, Lift, IsPlain, HasRoom}
use Rattle.code_law.proofs.LiftedParts.{words_passed, lift_wider}
use Rattle.code_law.proofs.Lifts.{index_lifts, expr_lifts, call_arguments_lift}
use Rattle.code_law.proofs.Standing.{Stand, parted, stands_to}
use Rattle.code_law.proofs.StatementLifts.{Rise, load_lift, store_lift, reach_lifts, labels_lift, statement_lifts}
use Rattle.code_law.proofs.StatementPlaces.{Plain}
use Rattle.code_law.proofs.Fine.{Lands, found_at, lower_or_not, height_step, height_behind}
use Rattle.code_law.proofs.Behind.{Begins, MayBegin, LeadsOn, leads_from_tick, leads_from_behind, not_load, expr_begins, index_begins, arguments_begin, straight, straight_on, straight_to, run_behind}

-- ---- Code without a CALL

abbrev pub IsQuiet : Instr → Type 0
IsQuiet i = is_call i.op ≡ false

abbrev pub AreQuiet : List Instr → Type 0
AreQuiet code = AllByRecursion IsQuiet code

quiet_more : (first rest : List Instr) → AreQuiet first → AreQuiet rest → AreQuiet (first ++ rest)
quiet_more [] rest one two = two
quiet_more (i ∷ first) rest one two = (one.0, quiet_more first rest one.1 two)

load_quiet : (o : Owner) (a : ℕ) → IsQuiet (load_word o a)
load_quiet OfProgram a = refl
load_quiet OfRoutine a = refl

store_word_quiet : (o : Owner) (a : ℕ) → IsQuiet (store_word o a)
store_word_quiet OfProgram a = refl
store_word_quiet OfRoutine a = refl

store_word_no_jump : (o : Owner) (a : ℕ) → is_jump (store_word o a).op ≡ false
store_word_no_jump OfProgram a = refl
store_word_no_jump OfRoutine a = refl

store_quiet : (result : ℕ) (m : Sense) → AreQuiet (store_code result m)
store_quiet result (Variable OfProgram a) = (refl, tt)
store_quiet result (Variable OfRoutine a) = (refl, tt)
store_quiet result (Reference a) = (refl, tt)
store_quiet result (Routine j passing) = (refl, tt)
store_quiet result (senses.Constant v) = tt
store_quiet result (Array o a b) = tt
store_quiet result (Function f) = tt
store_quiet result (Interface p) = tt
store_quiet result Nothing = tt

stores_quiet : (result : ℕ) (l : List Sense) → AreQuiet (stores_code result l)
stores_quiet result [] = tt
stores_quiet result (s ∷ later) = quiet_more (stores_code result later) (store_code result s) (stores_quiet result later) (store_quiet result s)

element_quiet : (m : Sense) → AreQuiet (store_element_code m)
element_quiet (Array OfProgram a b) = (refl, tt)
element_quiet (Array OfRoutine a b) = (refl, tt)
element_quiet (Variable o a) = tt
element_quiet (Reference a) = tt
element_quiet (Routine j passing) = tt
element_quiet (senses.Constant v) = tt
element_quiet (Function f) = tt
element_quiet (Interface p) = tt
element_quiet Nothing = tt

standard_quiet : (f : Standard) → AreQuiet (standard_code f)
standard_quiet Abs = (refl, tt)
standard_quiet Succ = (refl, tt)
standard_quiet Pred = (refl, tt)
standard_quiet Ord = tt
standard_quiet Chr = (refl, tt)

row_quiet : (p : Procedure) (l : List Sense) → IsQuiet (row_call p l)
row_quiet p [] = refl
row_quiet p (Array OfProgram a b ∷ l) = refl
row_quiet p (Array OfRoutine a b ∷ l) = refl
row_quiet p (senses.Constant v ∷ l) = refl
row_quiet p (Variable o a ∷ l) = refl
row_quiet p (Reference a ∷ l) = refl
row_quiet p (Routine j passing ∷ l) = refl
row_quiet p (Function f ∷ l) = refl
row_quiet p (Interface q ∷ l) = refl
row_quiet p (Nothing ∷ l) = refl

reach_quiet : (way : Direction) → is_call (reach_op way) ≡ false
reach_quiet direction.To = refl
reach_quiet direction.Downto = refl

before_quiet : (way : Direction) → is_call (before_op way) ≡ false
before_quiet direction.To = refl
before_quiet direction.Downto = refl

step_quiet : (way : Direction) → is_call (step_op way) ≡ false
step_quiet direction.To = refl
step_quiet direction.Downto = refl

test_quiet : (site : Site) (o : Op) (w out : ℕ) → is_call o ≡ false → AreQuiet (counter_test site o w out)
test_quiet site o w out none = (load_quiet site.owner w, (load_quiet site.owner (w + 1), (none, (refl, tt))))

turn_quiet : (site : Site) (way : Direction) (w turn : ℕ) → AreQuiet (counter_step site way w turn)
turn_quiet site way w turn = (load_quiet site.owner w, (step_quiet way, (store_word_quiet site.owner w, (refl, tt))))

label_quiet : (site : Site) (w found : ℕ) (label : Constant) → AreQuiet (label_test site w found label)
label_quiet site w found label = (load_quiet site.owner w, (refl, (refl, (refl, tt))))

more_labels_quiet : (site : Site) (w found : ℕ) (ls : List (ℕ × Constant)) → AreQuiet (more_label_tests site w found ls)
more_labels_quiet site w found [] = tt
more_labels_quiet site w found (l ∷ more) =
    quiet_more (label_test site w found l.1) (more_label_tests site w found more) (label_quiet site w found l.1) (more_labels_quiet site w found more)

labels_quiet : (site : Site) (w found : ℕ) (labels : Labels) → AreQuiet (label_tests site w found labels)
labels_quiet site w found labels =
    quiet_more (label_test site w found labels.first) (more_label_tests site w found labels.rest) (label_quiet site w found labels.first)
    (more_labels_quiet site w found labels.rest)

more_size : (site : Site) (w found : ℕ) (ls : List (ℕ × Constant)) → length (more_label_tests site w found ls) ≡ 4 * length ls
more_size site w found [] = refl
more_size site w found (l ∷ ls) = omega (arith, more_size site w found ls)

labels_size : (site : Site) (w found : ℕ) (labels : Labels) → length (label_tests site w found labels) ≡ label_tests_size labels
labels_size site w found labels = omega (arith, more_size site w found labels.rest)

plain_front : (c : CodeLists) (k : ℕ) (first rest : List Instr) → AllByRecursion (IsPlain c k) (first ++ rest) → AllByRecursion (IsPlain c k) first
plain_front c k [] rest all = tt
plain_front c k (i ∷ first) rest all = (all.0, plain_front c k first rest all.1)

-- ---- Places

-- each CALL from one place up to another stands behind a TICK
abbrev pub AreCalled : CodeLists → ℕ → ℕ → Type 0
AreCalled c p q = (x : ℕ) → p ≤ x → x < q → is_call (instr_at c x).op ≡ true → is_behind_tick c x ≡ true

module _ (c : CodeLists) where
  pub called_more : (p m q : ℕ) → AreCalled c p m → AreCalled c m q → AreCalled c p q
  called_more p m q one two x low high calls = by_order (lower_or_not x m)
    where
      by_order : (x < m) ⊎ (m ≤ x) → is_behind_tick c x ≡ true
      by_order (inl less) = one x low less calls
      by_order (inr not_less) = two x not_less high calls

  pub called_none : (p q : ℕ) → p ≡ q → AreCalled c p q
  called_none p q same x low high calls = absurd (omega (arith, same, low, high))

  -- behind an instruction that is no CALL
  pub called_past : (p q : ℕ) (i : Instr) → slice_get c.instrs p ≡ Some i → IsQuiet i → AreCalled c (p + 1) q → AreCalled c p q
  called_past p q i found quiet later = called_more p (p + 1) q at later
    where
      at : AreCalled c p (p + 1)
      at x low high calls =
          let same : x ≡ p = omega (arith, low, high) in
          absurd (false≢true (sym quiet ∙ ap (λ (j : Instr). is_call j.op) (sym (found_at c p i found)) ∙ ap (λ (y : ℕ). is_call (instr_at c y).op) (sym same)
          ∙ calls))

  pub called_quiet : (code : List Instr) (p q : ℕ) → Stand c p code q → AreQuiet code → AreCalled c p q
  called_quiet [] p q stand quiet = called_none p q stand
  called_quiet (i ∷ code) p q stand quiet = called_past p q i stand.0 quiet.0 (called_quiet code (p + 1) q stand.1 quiet.1)

-- the heights along indexes, values and arguments that a site's statements don't tell
pub record Above (c : CodeLists) (rs : Routines) (site : Site) (inside : Bool) : Type 0 where
  pub index : (x : NameAt) (i : Index) → CanIndex (site.names x.letters) → SuitsIndex rs site.names i → PlaceFits (Some i)
      → Lift c 1 1500 (index_code site (site.names x.letters) i) 0 1
  pub value : (e : Expr) → SuitsExpr rs site.names e → ExprFits e most_levels → Lift c 1 1500 (expr_code site e) 1 2
  pub given : (x : NameAt) (a : Arguments) → SuitsStatement rs site.names inside (call x (Some a)) → CallFits (Some a)
      → Lift c 1 1500 (arguments_code site (site.names x.letters) (passing_of (site.names x.letters)) a) 0
      (words_passed (site.names x.letters) (passing_of (site.names x.letters)))

pub lifts_above : (c : CodeLists) (k : ℕ) (rs : Routines) (site : Site) (inside : Bool) → HasRoom c k rs site inside → Above c rs site inside
lifts_above c k rs site inside room = record {
  index = λ x i can suits fits. index_lifts room 1500 (site.names x.letters) i 0 most_levels can suits fits (omega arith);
  value = λ e suits fits. lift_wider c 2 1500 1 1500 (expr_code site e) 1 2 (omega arith) (omega arith)
      (expr_lifts room 1500 e 1 most_levels suits fits (omega arith));
  given = λ x a suits fits. call_arguments_lift room 1500 x a suits fits (omega arith);
}

module _ (c : CodeLists) (k : ℕ) (rs : Routines) (site : Site) (inside : Bool) (base own start end : ℕ)
    (within : (x : ℕ) → start ≤ x → x < end → routine_of c x ≡ k)
    (some : end ≤ length c.instrs) (rise : Rise c rs site inside) (plain : Plain c k rs site inside own) (above : Above c rs site inside)
    (targets : (t : ℕ) → start ≤ t → t < end → is_target c t ≡ true → Lands c site base t)
    (low_variable : (x : List ℕ) (a : ℕ) → site.names x ≡ Variable site.owner a → a < base)
    (low_reference : (x : List ℕ) (a : ℕ) → site.names x ≡ Reference a → a + 1 < base) where
  abbrev Called : ℕ → ℕ → Type 0
  Called p q = AreCalled c p q

  also : (p m q : ℕ) → Called p m → Called m q → Called p q
  also p m q one two = called_more c p m q one two

  past : (p q : ℕ) (i : Instr) → slice_get c.instrs p ≡ Some i → IsQuiet i → Called (p + 1) q → Called p q
  past p q i found quiet later = called_past c p q i found quiet later

  quietly : (code : List Instr) (p q : ℕ) → Stand c p code q → AreQuiet code → Called p q
  quietly code p q stand quiet = called_quiet c code p q stand quiet

  height_next : (p : ℕ) (i : Instr) (h n : ℕ) → start ≤ p → p + 1 < end → slice_get c.instrs p ≡ Some i → height_at c p ≡ h → behind c i h ≡ n
      → height_at c (p + 1) ≡ n
  height_next p i h n low high found at is = height_step c k site base start end within some p i low high found ∙ ap (behind c i) at ∙ is

  height_past : (least : ℕ) (code : List Instr) (p q h n : ℕ) → start ≤ p → q < end → Stand c p code q → Lift c least 1500 code h n → height_at c p ≡ h
      → height_at c q ≡ n
  height_past least code p q h n low high stand lift at = height_behind c k site base start end within some least 1500 code p q h n low high stand lift at

  -- ---- A value behind a TICK, or behind what it leads to
  record Valued (p m : ℕ) : Type 0 where
    called : Called (p + 1) m
    height : height_at c m ≡ 1
    led : is_behind_tick c m ≡ true

  valued : (e : Expr) (p m : ℕ) → SuitsExpr rs site.names e → ExprFits e most_levels → LeadsOn c p → Stand c (p + 1) (expr_code site e) m → start ≤ p
      → m < end → height_at c (p + 1) ≡ 0
      → Valued p m
  valued e p m suits fits leads stand low high at =
      let far : m ≡ p + 1 + length (expr_code site e) = stands_to c (p + 1) (expr_code site e) m stand in
      let run : (x : ℕ) → p < x → x ≤ m → is_behind_tick c x ≡ true =
      straight_to c k site base start end within some targets (expr_code site e) p m 0 1 low high leads stand (rise.expr e suits fits) at
      (plain.expr e suits)
      (expr_begins rs site base low_variable low_reference e suits) in
      record {
        called = λ x from to calls. run x (omega (arith, from)) (omega (arith, to));
        height = height_past 1 (expr_code site e) (p + 1) m 0 1 (omega (arith, low)) high stand (rise.expr e suits fits) at;
        led = run m (omega (arith, far, nonempty)) (omega arith);
      }
    where
      nonempty : 1 ≤ length (expr_code site e)
      nonempty = omega (arith, ap (λ (l : List Instr). length l) (expr_begins rs site base low_variable low_reference e suits).2)

  record Tested (p m : ℕ) : Type 0 where
    called : Called p m
    height : height_at c m ≡ 1
    led : is_behind_tick c m ≡ true
    first : height_at c (p + 1) ≡ 0

  tested : (e : Expr) (p m line : ℕ) → SuitsExpr rs site.names e → ExprFits e most_levels → slice_get c.instrs p ≡ Some (tick line)
      → Stand c (p + 1) (expr_code site e) m → start ≤ p → m < end → height_at c p ≡ 0
      → Tested p m
  tested e p m line suits fits ticks stand low high at =
      let far : m ≡ p + 1 + length (expr_code site e) = stands_to c (p + 1) (expr_code site e) m stand in
      let begun : height_at c (p + 1) ≡ 0 = height_next p (tick line) 0 0 low (omega (arith, far, high)) ticks at refl in
      let value = valued e p m suits fits (leads_from_tick c p line ticks) stand low high begun in
      record { called = past p m (tick line) ticks refl value.called; height = value.height; led = value.led; first = begun }

  -- ---- Calls
  -- arguments, and what is no CALL behind them
  quiet_called : (rest args : List Instr) (p m q line n : ℕ) → start ≤ p → q < end → slice_get c.instrs p ≡ Some (tick line) → Stand c (p + 1) args m
      → Stand c m rest q
      → Lift c 1 1500 args 0 n → height_at c (p + 1) ≡ 0 → AllByRecursion (IsPlain c k) args → MayBegin site base args → AreQuiet rest → Called (p + 1) q
  quiet_called rest args p m q line n low high ticks stand behind_there lift at all may quiet =
      let far : q ≡ m + length rest = stands_to c m rest q behind_there in
      also (p + 1) m q
      (λ x from to calls. straight_on c k site base start end within some targets args p m 0 n low (omega (arith, far, high))
      (leads_from_tick c p line ticks) stand lift at all may x (omega (arith, from)) to)
      (quietly rest m q behind_there quiet)

  -- what is called, behind its arguments
  given_called : (callee : Sense) (given : List Sense) (args : List Instr) (p m q line n : ℕ) → start ≤ p → q < end → slice_get c.instrs p ≡ Some (tick line)
      → Stand c (p + 1) args m
      → Stand c m (call_code site.result callee given) q → Lift c 1 1500 args 0 n → height_at c (p + 1) ≡ 0 → AllByRecursion (IsPlain c k) args
      → MayBegin site base args → Called (p + 1) q
  given_called (Routine j passing) given args p m q line n low high ticks stand behind_there lift at all may = λ x from to calls.
      straight c k site base start end within some targets args (with_a op.Call j) p m 0 n low (omega (arith, behind_there.1, high))
      (leads_from_tick c p line ticks) stand behind_there.0 lift at all may refl
      refl (not_load site base (with_a op.Call j) refl) x (omega (arith, from)) (omega (arith, to, behind_there.1))
  given_called (Function f) given args p m q line n low high ticks stand behind_there lift at all may =
      quiet_called (standard_code f) args p m q line n low high ticks stand behind_there lift at all may (standard_quiet f)
  given_called (Interface row) given args p m q line n low high ticks stand behind_there lift at all may =
      quiet_called (call_code site.result (Interface row) given) args p m q line n low high ticks stand behind_there lift at all may
      (row_quiet row (arrays_among (row_passing row) given), stores_quiet site.result (variables_among (row_passing row) given))
  given_called (senses.Constant v) given args p m q line n low high ticks stand behind_there lift at all may =
      quiet_called [] args p m q line n low high ticks stand behind_there lift at all may tt
  given_called (Variable o a) given args p m q line n low high ticks stand behind_there lift at all may =
      quiet_called [] args p m q line n low high ticks stand behind_there lift at all may tt
  given_called (Array o a b) given args p m q line n low high ticks stand behind_there lift at all may =
      quiet_called [] args p m q line n low high ticks stand behind_there lift at all may tt
  given_called (Reference a) given args p m q line n low high ticks stand behind_there lift at all may =
      quiet_called [] args p m q line n low high ticks stand behind_there lift at all may tt
  given_called Nothing given args p m q line n low high ticks stand behind_there lift at all may =
      quiet_called [] args p m q line n low high ticks stand behind_there lift at all may tt

  call_called : (x : NameAt) (a : Option Arguments) (p q : ℕ) → SuitsStatement rs site.names inside (call x a) → CallFits a
      → Stand c p (tick x.line ∷ call_statement_code site x a) q → start ≤ p → q < end
      → height_at c p ≡ 0 → Called p q
  call_called x None p q suits fits stand low high at =
      let far : q ≡ p + 1 + length (call_statement_code site x None) = stands_to c (p + 1) (call_statement_code site x None) q stand.1 in
      let begun : height_at c (p + 1) ≡ 0 = height_next p (tick x.line) 0 0 low (omega (arith, far, high)) stand.0 at refl in
      past p q (tick x.line) stand.0 refl
      (given_called (site.names x.letters) [] [] p (p + 1) q x.line 0 low high stand.0 refl stand.1 refl begun tt tt)
  call_called x (Some a) p q suits fits stand low high at =
      let callee = site.names x.letters in
      let args = arguments_code site callee (passing_of callee) a in
      let behind_there = call_code site.result callee (given_arguments site a) in
      let one = parted c (p + 1) args behind_there q stand.1 in
      let far : q ≡ p + 1 + length (call_statement_code site x (Some a)) = stands_to c (p + 1) (call_statement_code site x (Some a)) q stand.1 in
      let begun : height_at c (p + 1) ≡ 0 = height_next p (tick x.line) 0 0 low (omega (arith, far, high)) stand.0 at refl in
      past p q (tick x.line) stand.0 refl
      (given_called callee (given_arguments site a) args p one.0 q x.line (words_passed callee (passing_of callee)) low high stand.0 one.1.0 one.1.1
      (above.given x a suits fits) begun
      (plain_front c k args behind_there (plain.calls x (Some a) suits))
      (arguments_begin rs site base low_variable low_reference callee (passing_of callee) a suits.1))

  -- ---- Elements
  element_calls : (x : NameAt) (i : Index) (e : Expr) (p q : ℕ) → CanIndex (site.names x.letters) → SuitsIndex rs site.names i → SuitsExpr rs site.names e
      → PlaceFits (Some i) → ExprFits e most_levels
      → Stand c p (tick x.line ∷ (index_code site (site.names x.letters) i ++ (expr_code site e ++ store_element_code (site.names x.letters)))) q → start ≤ p
      → q < end → height_at c p ≡ 0 → Called p q
  element_calls x i e p q can index_suits suits index_fits fits stand low high at =
      let array = site.names x.letters in
      let place_code = index_code site array i in
      let store = store_element_code array in
      let one = parted c (p + 1) place_code (expr_code site e ++ store) q stand.1 in
      let two = parted c one.0 (expr_code site e) store q one.1.1 in
      let far : one.0 ≡ p + 1 + length place_code = stands_to c (p + 1) place_code one.0 one.1.0 in
      let further : two.0 ≡ one.0 + length (expr_code site e) = stands_to c one.0 (expr_code site e) two.0 two.1.0 in
      let last : q ≡ two.0 + length store = stands_to c two.0 store q two.1.1 in
      let begins : Begins site base place_code = index_begins rs site base low_variable low_reference array i index_suits in
      let some_code : 1 ≤ length place_code = omega (arith, ap (λ (l : List Instr). length l) begins.2) in
      let begun : height_at c (p + 1) ≡ 0 = height_next p (tick x.line) 0 0 low (omega (arith, far, further, last, high)) stand.0 at refl in
      let all = plain.assign_element x i 0 e (can, index_suits, suits) in
      let lift = above.index x i can index_suits index_fits in
      let indexed : (y : ℕ) → p < y → y ≤ one.0 → is_behind_tick c y ≡ true =
      straight_to c k site base start end within some targets place_code p one.0 0 1 low (omega (arith, further, last, high))
      (leads_from_tick c p x.line stand.0) one.1.0 lift begun
      (plain_front c k place_code (expr_code site e ++ store) all) begins in
      let there : height_at c one.0 ≡ 1 =
      height_past 1 place_code (p + 1) one.0 0 1 (omega (arith, low)) (omega (arith, further, last, high)) one.1.0 lift begun in
      let valued_there : (y : ℕ) → one.0 ≤ y → y ≤ two.0 → is_behind_tick c y ≡ true =
      run_behind c k site base start end within some targets (expr_code site e) one.0 two.0 1 2 (omega (arith, far, low)) (omega (arith, last, high))
      two.1.0 (above.value e suits fits) there
      (plain.expr e suits) (indexed one.0 (omega (arith, far, some_code)) (omega arith)) in
      past p q (tick x.line) stand.0 refl
      (also (p + 1) one.0 q (λ y from to calls. indexed y (omega (arith, from)) (omega (arith, to)))
      (also one.0 two.0 q (λ y from to calls. valued_there y from (omega (arith, to)))
      (quietly store two.0 q two.1.1 (element_quiet array))))

  again_size : (way : Direction) (free out turn : ℕ) → length (counter_test site (before_op way) free out ++ counter_step site way free turn) ≡ 8
  again_size way free out turn = refl

  -- ---- Statements
  mutual
    pub statement_calls : (s : Statement) (free n place p q : ℕ) → place ≡ p → SuitsStatement rs site.names inside s → StatementFits s n
        → Stand c p (statement_code site free s place) q → start ≤ p → q < end
        → height_at c p ≡ 0 → Called p q
    statement_calls empty free n place p q same suits fits stand low high at = called_none c p q stand
    statement_calls (assign x None becomes e) free n place p q same suits fits stand low high at =
        let store = store_code site.result (site.names x.letters) in
        let one = parted c (p + 1) (expr_code site e) store q stand.1 in
        let far : q ≡ one.0 + length store = stands_to c one.0 store q one.1.1 in
        also p one.0 q (tested e p one.0 x.line suits.1 fits.2 stand.0 one.1.0 low (omega (arith, far, high)) at).called
        (quietly store one.0 q one.1.1 (store_quiet site.result (site.names x.letters)))
    statement_calls (assign x (Some i) becomes e) free n place p q same suits fits stand low high at =
        element_calls x i e p q suits.0 suits.1 suits.2 fits.1 fits.2 stand low high at
    statement_calls (call x a) free n place p q same suits fits stand low high at = call_called x a p q suits fits.1 stand low high at
    statement_calls (compound b) free n place p q same suits fits stand low high at = body_calls b free (n - 1) place p q same suits fits.1 stand low high at
    statement_calls (if_then line e then_line s) free n place p q same suits fits stand low high at =
        let first = place + length (expr_code site e) + 2 in
        let code = statement_code site free s first in
        let out = first + length code in
        let one = parted c (p + 1) (expr_code site e) (jump_if_false out ∷ code) q stand.1 in
        let far : one.0 ≡ p + 1 + length (expr_code site e) = stands_to c (p + 1) (expr_code site e) one.0 one.1.0 in
        let further : q ≡ one.0 + 1 + length code = stands_to c (one.0 + 1) code q one.1.1.1 in
        let test = tested e p one.0 line suits.0 fits.1 stand.0 one.1.0 low (omega (arith, further, high)) at in
        let here : height_at c (one.0 + 1) ≡ 0 =
        height_next one.0 (jump_if_false out) 1 0 (omega (arith, far, low)) (omega (arith, further, high)) one.1.1.0 test.height refl in
        also p one.0 q test.called (past one.0 q (jump_if_false out) one.1.1.0 refl
        (statement_calls s free (n - 1) first (one.0 + 1) q (omega (arith, same, far)) suits.1 fits.2 one.1.1.1 (omega (arith, far, low)) high here))
    statement_calls (if_else line e then_line s else_line t) free n place p q same suits fits stand low high at =
        let first = place + length (expr_code site e) + 2 in
        let code = statement_code site free s first in
        let otherwise = first + length code + 1 in
        let others = statement_code site free t otherwise in
        let out = otherwise + length others in
        let one = parted c (p + 1) (expr_code site e) (jump_if_false otherwise ∷ (code ++ (jump out ∷ others))) q stand.1 in
        let two = parted c (one.0 + 1) code (jump out ∷ others) q one.1.1.1 in
        let far : one.0 ≡ p + 1 + length (expr_code site e) = stands_to c (p + 1) (expr_code site e) one.0 one.1.0 in
        let further : two.0 ≡ one.0 + 1 + length code = stands_to c (one.0 + 1) code two.0 two.1.0 in
        let last : q ≡ two.0 + 1 + length others = stands_to c (two.0 + 1) others q two.1.1.1 in
        let test = tested e p one.0 line suits.0 fits.1 stand.0 one.1.0 low (omega (arith, further, last, high)) at in
        let here : height_at c (one.0 + 1) ≡ 0 =
        height_next one.0 (jump_if_false otherwise) 1 0 (omega (arith, far, low)) (omega (arith, further, last, high)) one.1.1.0 test.height refl in
        let done : height_at c two.0 ≡ 0 = height_past 0 code (one.0 + 1) two.0 0 0 (omega (arith, far, low)) (omega (arith, last, high)) two.1.0
        (statement_lifts c rs site inside rise s free first (n - 1) suits.1 fits.2) here in
        let there : height_at c (two.0 + 1) ≡ 0 =
        height_next two.0 (jump out) 0 0 (omega (arith, further, far, low)) (omega (arith, last, high)) two.1.1.0 done refl in
        also p one.0 q test.called (past one.0 q (jump_if_false otherwise) one.1.1.0 refl
        (also (one.0 + 1) two.0 q
        (statement_calls s free (n - 1) first (one.0 + 1) two.0 (omega (arith, same, far)) suits.1 fits.2 two.1.0 (omega (arith, far, low))
        (omega (arith, last, high)) here)
        (past two.0 q (jump out) two.1.1.0 refl
        (statement_calls t free (n - 1) otherwise (two.0 + 1) q (omega (arith, same, far, further)) suits.2 fits.4 two.1.1.1
        (omega (arith, further, far, low)) high there))))
    statement_calls (while_do line e do_line s) free n place p q same suits fits stand low high at =
        let first = place + 1 + length (expr_code site e) + 2 in
        let code = statement_code site free s first in
        let out = first + length code + 1 in
        let back = jump (place + 1) ∷ [] in
        let one = parted c (p + 1 + 1) (expr_code site e) (jump_if_false out ∷ (code ++ back)) q stand.1.1 in
        let two = parted c (one.0 + 1) code back q one.1.1.1 in
        let far : one.0 ≡ p + 1 + 1 + length (expr_code site e) = stands_to c (p + 1 + 1) (expr_code site e) one.0 one.1.0 in
        let further : two.0 ≡ one.0 + 1 + length code = stands_to c (one.0 + 1) code two.0 two.1.0 in
        let last : q ≡ two.0 + 1 = sym two.1.1.1 in
        let begun : height_at c (p + 1) ≡ 0 = height_next p (tick line) 0 0 low (omega (arith, far, further, last, high)) stand.0 at refl in
        let test = tested e (p + 1) one.0 line suits.0 fits.1 stand.1.0 one.1.0 (omega (arith, low)) (omega (arith, further, last, high)) begun in
        let here : height_at c (one.0 + 1) ≡ 0 =
        height_next one.0 (jump_if_false out) 1 0 (omega (arith, far, low)) (omega (arith, further, last, high)) one.1.1.0 test.height refl in
        past p q (tick line) stand.0 refl
        (also (p + 1) one.0 q test.called (past one.0 q (jump_if_false out) one.1.1.0 refl
        (also (one.0 + 1) two.0 q
        (statement_calls s free (n - 1) first (one.0 + 1) two.0 (omega (arith, same, far)) suits.1 fits.2 two.1.0 (omega (arith, far, low))
        (omega (arith, last, high)) here)
        (quietly back two.0 q two.1.1 (refl, tt)))))
    statement_calls (repeat_until line s until_line e) free n place p q same suits fits stand low high at =
        let test_code = expr_code site e in
        let first = place + 2 + length test_code + 3 in
        let code = sequence_code site free s first in
        let out = first + length code + 1 in
        let back = jump (place + 2) ∷ [] in
        let one = parted c (p + 1 + 1 + 1) test_code (bare op.Not ∷ (jump_if_false out ∷ (code ++ back))) q stand.1.1.1 in
        let two = parted c (one.0 + 1 + 1) code back q one.1.1.1.1 in
        let far : one.0 ≡ p + 1 + 1 + 1 + length test_code = stands_to c (p + 1 + 1 + 1) test_code one.0 one.1.0 in
        let further : two.0 ≡ one.0 + 1 + 1 + length code = stands_to c (one.0 + 1 + 1) code two.0 two.1.0 in
        let last : q ≡ two.0 + 1 = sym two.1.1.1 in
        let begun : height_at c (p + 1) ≡ 0 = height_next p (tick line) 0 0 low (omega (arith, far, further, last, high)) stand.0 at refl in
        let turn : height_at c (p + 1 + 1) ≡ 0 =
        height_next (p + 1) (jump first) 0 0 (omega (arith, low)) (omega (arith, far, further, last, high)) stand.1.0 begun refl in
        let test = tested e (p + 1 + 1) one.0 line suits.0 fits.2 stand.1.1.0 one.1.0 (omega (arith, low)) (omega (arith, further, last, high)) turn in
        let turned : height_at c (one.0 + 1) ≡ 1 =
        height_next one.0 (bare op.Not) 1 1 (omega (arith, far, low)) (omega (arith, further, last, high)) one.1.1.0 test.height refl in
        let here : height_at c (one.0 + 1 + 1) ≡ 0 =
        height_next (one.0 + 1) (jump_if_false out) 1 0 (omega (arith, far, low)) (omega (arith, further, last, high)) one.1.1.1.0 turned refl in
        past p q (tick line) stand.0 refl
        (past (p + 1) q (jump first) stand.1.0 refl
        (also (p + 1 + 1) one.0 q test.called
        (past one.0 q (bare op.Not) one.1.1.0 refl
        (past (one.0 + 1) q (jump_if_false out) one.1.1.1.0 refl
        (also (one.0 + 1 + 1) two.0 q
        (sequence_calls s free (n - 1) first (one.0 + 1 + 1) two.0 (omega (arith, same, far)) suits.1 fits.1 two.1.0 (omega (arith, far, low))
        (omega (arith, last, high)) here)
        (quietly back two.0 q two.1.1 (refl, tt)))))))
    statement_calls (for_do line x becomes from way way_line to do_line s) free n place p q same suits fits stand low high at =
        let lower = expr_code site from in
        let upper = expr_code site to in
        let control = store_code site.result (site.names x.letters) in
        let turn = place + length lower + length upper + 7 in
        let first = turn + length control + 2 in
        let code = statement_code site (free + 2) s first in
        let out = first + length code + 8 in
        let reach = counter_test site (reach_op way) free out in
        let again = counter_test site (before_op way) free out ++ counter_step site way free turn in
        let from_turn = tick line ∷ (load_own site free ∷ (control ++ (code ++ again))) in
        let one = parted c (p + 1) lower (store_own site free ∷ (upper ++ (store_own site (free + 1) ∷ (reach ++ from_turn)))) q stand.1 in
        let two = parted c (one.0 + 1) upper (store_own site (free + 1) ∷ (reach ++ from_turn)) q one.1.1.1 in
        let three = parted c (two.0 + 1) reach from_turn q two.1.1.1 in
        let four = parted c (three.0 + 1 + 1) control (code ++ again) q three.1.1.1.1 in
        let five = parted c four.0 code again q four.1.1 in
        let far1 : one.0 ≡ p + 1 + length lower = stands_to c (p + 1) lower one.0 one.1.0 in
        let far2 : two.0 ≡ one.0 + 1 + length upper = stands_to c (one.0 + 1) upper two.0 two.1.0 in
        let far3 : two.0 + 1 + 1 + 1 + 1 + 1 ≡ three.0 = three.1.0.1.1.1.1 in
        let far4 : four.0 ≡ three.0 + 1 + 1 + length control = stands_to c (three.0 + 1 + 1) control four.0 four.1.0 in
        let far5 : five.0 ≡ four.0 + length code = stands_to c four.0 code five.0 five.1.0 in
        let last : q ≡ five.0 + length again = stands_to c five.0 again q five.1.1 in
        let low_one = tested from p one.0 line suits.1 fits.1 stand.0 one.1.0 low (omega (arith, far2, far3, far4, far5, last, high)) at in
        let kept_one : height_at c (one.0 + 1) ≡ 0 =
        height_past 0 (store_own site free ∷ []) one.0 (one.0 + 1) 1 0 (omega (arith, far1, low)) (omega (arith, far2, far3, far4, far5, last, high))
        (one.1.1.0, refl) (store_lift c site.owner free 0 [] refl) low_one.height in
        let leads = leads_from_behind c one.0 (store_own site free) one.1.1.0 (store_word_no_jump site.owner free) low_one.led in
        let high_one = valued to one.0 two.0 suits.2 fits.2 leads two.1.0 (omega (arith, far1, low)) (omega (arith, far3, far4, far5, last, high)) kept_one in
        let kept_two : height_at c (two.0 + 1) ≡ 0 =
        height_past 0 (store_own site (free + 1) ∷ []) two.0 (two.0 + 1) 1 0 (omega (arith, far1, far2, low)) (omega (arith, far3, far4, far5, last, high))
        (two.1.1.0, refl) (store_lift c site.owner (free + 1) 0 [] refl) high_one.height in
        let reached : height_at c three.0 ≡ 0 =
        height_past 0 reach (two.0 + 1) three.0 0 0 (omega (arith, far1, far2, low)) (omega (arith, far4, far5, last, high)) three.1.0
        (reach_lifts c site way free out) kept_two in
        let ticked : height_at c (three.0 + 1) ≡ 0 =
        height_next three.0 (tick line) 0 0 (omega (arith, far1, far2, far3, low)) (omega (arith, far4, far5, last, high)) three.1.1.0 reached refl in
        let loaded : height_at c (three.0 + 1 + 1) ≡ 1 =
        height_past 0 (load_own site free ∷ []) (three.0 + 1) (three.0 + 1 + 1) 0 1 (omega (arith, far1, far2, far3, low))
        (omega (arith, far4, far5, last, high))
        (three.1.1.1.0, refl) (load_lift c site.owner free 0 1 [] (omega arith) refl) ticked in
        let begun : height_at c four.0 ≡ 0 =
        height_past 0 control (three.0 + 1 + 1) four.0 1 0 (omega (arith, far1, far2, far3, low)) (omega (arith, far5, last, high)) four.1.0
        (rise.control x suits.0) loaded in
        also p one.0 q low_one.called
        (past one.0 q (store_own site free) one.1.1.0 (store_word_quiet site.owner free)
        (also (one.0 + 1) two.0 q high_one.called
        (past two.0 q (store_own site (free + 1)) two.1.1.0 (store_word_quiet site.owner (free + 1))
        (also (two.0 + 1) three.0 q (quietly reach (two.0 + 1) three.0 three.1.0 (test_quiet site (reach_op way) free out (reach_quiet way)))
        (past three.0 q (tick line) three.1.1.0 refl
        (past (three.0 + 1) q (load_own site free) three.1.1.1.0 (load_quiet site.owner free)
        (also (three.0 + 1 + 1) four.0 q (quietly control (three.0 + 1 + 1) four.0 four.1.0 (store_quiet site.result (site.names x.letters)))
        (also four.0 five.0 q
        (statement_calls s (free + 2) (n - 1) first four.0 five.0 (omega (arith, same, far1, far2, far3, far4)) suits.3 fits.3 five.1.0
        (omega (arith, far1, far2, far3, far4, low))
        (omega (arith, last, again_size way free out turn, high)) begun)
        (quietly again five.0 q five.1.1
        (quiet_more (counter_test site (before_op way) free out) (counter_step site way free turn)
        (test_quiet site (before_op way) free out (before_quiet way))
        (turn_quiet site way free turn)))))))))))
    statement_calls (case_of line e of_line b more end_line) free n place p q same suits fits stand low high at =
        let first = place + length (expr_code site e) + 2 in
        let branches = branch_code site free b (branches_code site free more) first in
        let one = parted c (p + 1) (expr_code site e) (store_own site free ∷ branches) q stand.1 in
        let far : one.0 ≡ p + 1 + length (expr_code site e) = stands_to c (p + 1) (expr_code site e) one.0 one.1.0 in
        let further : q ≡ one.0 + 1 + length branches = stands_to c (one.0 + 1) branches q one.1.1.1 in
        let test = tested e p one.0 line suits.0 fits.1 stand.0 one.1.0 low (omega (arith, further, high)) at in
        let here : height_at c (one.0 + 1) ≡ 0 =
        height_past 0 (store_own site free ∷ []) one.0 (one.0 + 1) 1 0 (omega (arith, far, low)) (omega (arith, further, high)) (one.1.1.0, refl)
        (store_lift c site.owner free 0 [] refl) test.height in
        also p one.0 q test.called (past one.0 q (store_own site free) one.1.1.0 (store_word_quiet site.owner free)
        (branch_calls b free (n - 1) (branches_code site free more)
        (λ place_too r to there later_stand later_low later_high later_at. branches_calls more free (n - 1) place_too r to there suits.2 fits.3
        later_stand later_low later_high later_at)
        first (one.0 + 1) q (omega (arith, same, far)) suits.1 fits.2 one.1.1.1 (omega (arith, far, low)) high here))

    pub body_calls : (b : Body) (free n place p q : ℕ) → place ≡ p → SuitsBody rs site.names inside b → BodyFits b n
        → Stand c p (body_code site free b place) q → start ≤ p → q < end → height_at c p ≡ 0
        → Called p q
    body_calls (body begin s end_there) free n place p q same suits fits stand low high at = sequence_calls s free n place p q same suits fits stand low high at

    pub sequence_calls : (s : Sequence) (free n place p q : ℕ) → place ≡ p → SuitsSequence rs site.names inside s → SequenceFits s n
        → Stand c p (sequence_code site free s place) q → start ≤ p → q < end
        → height_at c p ≡ 0 → Called p q
    sequence_calls (sequence s more) free n place p q same suits fits stand low high at =
        let code = statement_code site free s place in
        let others = statements_code site free more (place + length code) in
        let one = parted c p code others q stand in
        let far : one.0 ≡ p + length code = stands_to c p code one.0 one.1.0 in
        let further : q ≡ one.0 + length others = stands_to c one.0 others q one.1.1 in
        let done : height_at c one.0 ≡ 0 =
        height_past 0 code p one.0 0 0 low (omega (arith, further, high)) one.1.0 (statement_lifts c rs site inside rise s free place n suits.0 fits.0) at
        in
        also p one.0 q (statement_calls s free n place p one.0 same suits.0 fits.0 one.1.0 low (omega (arith, further, high)) at)
        (statements_call more free n (place + length code) one.0 q (omega (arith, same, far)) suits.1 fits.1 one.1.1 (omega (arith, far, low)) high done)

    pub statements_call : (ss : Statements) (free n place p q : ℕ) → place ≡ p → SuitsStatements rs site.names inside ss → StatementsFit ss n
        → Stand c p (statements_code site free ss place) q → start ≤ p
        → q < end → height_at c p ≡ 0 → Called p q
    statements_call no_statement free n place p q same suits fits stand low high at = called_none c p q stand
    statements_call (next_statement line s more) free n place p q same suits fits stand low high at =
        let code = statement_code site free s place in
        let others = statements_code site free more (place + length code) in
        let one = parted c p code others q stand in
        let far : one.0 ≡ p + length code = stands_to c p code one.0 one.1.0 in
        let further : q ≡ one.0 + length others = stands_to c one.0 others q one.1.1 in
        let done : height_at c one.0 ≡ 0 =
        height_past 0 code p one.0 0 0 low (omega (arith, further, high)) one.1.0 (statement_lifts c rs site inside rise s free place n suits.0 fits.0) at
        in
        also p one.0 q (statement_calls s free n place p one.0 same suits.0 fits.0 one.1.0 low (omega (arith, further, high)) at)
        (statements_call more free n (place + length code) one.0 q (omega (arith, same, far)) suits.1 fits.1 one.1.1 (omega (arith, far, low)) high done)

    -- a branch, with what stands behind it
    pub branch_calls : (b : Branch) (free n : ℕ) (later : ℕ → List Instr)
        → ((place p q : ℕ) → place ≡ p → Stand c p (later place) q → start ≤ p → q < end → height_at c p ≡ 0 → Called p q)
        → (place p q : ℕ) → place ≡ p → SuitsBranch rs site.names inside b → BranchFits b n → Stand c p (branch_code site free b later place) q → start ≤ p
        → q < end → height_at c p ≡ 0 → Called p q
    branch_calls (branch labels colon s) free n later later_calls place p q same suits fits stand low high at =
        let found = place + label_tests_size labels + 1 in
        let code = statement_code site (free + 1) s found in
        let next = found + length code + 1 in
        let others = later next in
        let out = next + length others in
        let tests = label_tests site free found labels in
        let one = parted c p tests (jump next ∷ (code ++ (jump out ∷ others))) q stand in
        let two = parted c (one.0 + 1) code (jump out ∷ others) q one.1.1.1 in
        let far : one.0 ≡ p + label_tests_size labels = stands_to c p tests one.0 one.1.0 ∙ ap (λ z. p + z) (labels_size site free found labels) in
        let further : two.0 ≡ one.0 + 1 + length code = stands_to c (one.0 + 1) code two.0 two.1.0 in
        let last : q ≡ two.0 + 1 + length others = stands_to c (two.0 + 1) others q two.1.1.1 in
        let tested_there : height_at c one.0 ≡ 0 =
        height_past 0 tests p one.0 0 0 low (omega (arith, further, last, high)) one.1.0 (labels_lift c site free found labels) at in
        let here : height_at c (one.0 + 1) ≡ 0 =
        height_next one.0 (jump next) 0 0 (omega (arith, far, low)) (omega (arith, further, last, high)) one.1.1.0 tested_there refl in
        let done : height_at c two.0 ≡ 0 = height_past 0 code (one.0 + 1) two.0 0 0 (omega (arith, far, low)) (omega (arith, last, high)) two.1.0
        (statement_lifts c rs site inside rise s (free + 1) found n suits.1 fits) here in
        let there : height_at c (two.0 + 1) ≡ 0 =
        height_next two.0 (jump out) 0 0 (omega (arith, further, far, low)) (omega (arith, last, high)) two.1.1.0 done refl in
        also p one.0 q (quietly tests p one.0 one.1.0 (labels_quiet site free found labels))
        (past one.0 q (jump next) one.1.1.0 refl
        (also (one.0 + 1) two.0 q
        (statement_calls s (free + 1) n found (one.0 + 1) two.0 (omega (arith, same, far)) suits.1 fits two.1.0 (omega (arith, far, low))
        (omega (arith, last, high)) here)
        (past two.0 q (jump out) two.1.1.0 refl
        (later_calls next (two.0 + 1) q (omega (arith, same, far, further)) two.1.1.1 (omega (arith, further, far, low)) high there))))

    pub branches_calls : (bs : Branches) (free n place p q : ℕ) → place ≡ p → SuitsBranches rs site.names inside bs → BranchesFit bs n
        → Stand c p (branches_code site free bs place) q → start ≤ p → q < end
        → height_at c p ≡ 0 → Called p q
    branches_calls no_branch free n place p q same suits fits stand low high at = quietly (no_branch_code (place + 3)) p q stand (refl, (refl, (refl, tt)))
    branches_calls (next_branch line b more) free n place p q same suits fits stand low high at =
        branch_calls b free n (branches_code site free more)
        (λ place_too r to there later_stand later_low later_high later_at. branches_calls more free n place_too r to there suits.1 fits.1 later_stand
        later_low later_high later_at)
        place p q same suits.0 fits.0 stand low high at

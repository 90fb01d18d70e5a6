-- At each place of a statement's code operands fit, and jumps lead where nothing is on the stack.
use Rattle.std.proofs.Common.{◌≡◌, ℕ, ◌+◌, ◌-◌, ◌*◌, ℤ, pos, negsuc, ◌<◌, ◌≤◌, Bool, true, false, Some, None, Option, List, [], ◌∷◌, ◌++◌, length, ◌⊎◌, inl, inr, refl, sym, ◌∙◌, ap, subst, arith}
use Rattle.std.specs.Prelude.{slice_get}
use Rattle.std.specs.List.{AllByRecursion}
use Rattle.std.proofs.lemmas.List.{length-append}
use Rattle.stack_code.specs.declared.table.Op.{Op}
use Rattle.stack_code.specs.declared.table.Op.TheVariants as op
use Rattle.stack_code.specs.declared.instr.Instr.{Instr}
use Rattle.stack_code.specs.CodeLists.{CodeLists, instr_at}
use Rattle.stack_code.specs.Rules.{routine_of, height_at, operands_fit, is_jump, is_tick, leaves_nothing}
use Rattle.pascal_tree.specs.declared.constant.Constant.{Constant}
use Rattle.pascal_tree.specs.declared.statement.Direction.{Direction}
use Rattle.pascal_tree.specs.declared.statement.Direction.TheVariants as direction
use Rattle.pascal_tree.specs.Word.{NameAt}
use Rattle.pascal_tree.specs.Expression.{Expr, Index, Arguments}
use Rattle.pascal_tree.specs.Statement.{Labels, Statement, empty, assign, call, compound, if_then, if_else, while_do, repeat_until, for_do, case_of, Body, body, Sequence, sequence, Statements, no_statement, next_statement, Branch, branch, Branches, no_branch, next_branch}
use Rattle.pascal_tree.specs.Limits.{most_levels, ExprFits, StatementFits, BodyFits, SequenceFits, StatementsFit, BranchFits, BranchesFit}
use Rattle.pascal_mean.specs.Means.{Owner, OfProgram, OfRoutine}
use Rattle.pascal_code.specs.Instructions.{bare, push, tick, test_index, load_word, store_word}
use Rattle.pascal_code.specs.Senses.{Site, constant_value}
use Rattle.pascal_code.specs.Names.{store_code, store_element_code}
use Rattle.pascal_code.specs.Expressions.{expr_code, index_code}
use Rattle.pascal_code.specs.Statements.{load_own, store_own, jump, jump_if_false, call_statement_code, reach_op, before_op, step_op, counter_test, counter_step, label_test, more_label_tests, label_tests, label_tests_size, no_branch_code, statement_code, body_code, sequence_code, statements_code, branch_code, branches_code}
use Rattle.pascal_code.specs.Code.{nested_words, nested_in_body, nested_in_sequence, nested_in_statements, nested_in_branch, nested_in_branches}
use Rattle.code_law.specs.Suits.{Routines, IsScalar, SuitsExpr, SuitsStatement, SuitsBody, SuitsSequence, SuitsStatements, SuitsBranch, SuitsBranches}
use Rattle.code_law.specs.Heights.{behind, Lift, IsPlain}
use Rattle.code_law.proofs.Standing.{Stand, parted, stands_to}
use Rattle.code_law.proofs.LiftedParts.{lifts}
use Rattle.code_law.proofs.StatementLifts.{Level, Rise, reach_lifts, before_lifts, step_lifts, labels_lift, statement_lifts, sequence_lifts, branches_lift}
use Rattle.code_law.proofs.Fine.{Opens, ATick, AnEnd, AKeptWord, IsBehindJump, Lands, AreFine, found_at, height_step, height_behind, fine_more, fine_none, fine_one, fine_plain, fine_jump, fine_branch}

-- the instructions of a site's expressions, assignments and calls, and the words that FOR and CASE keep
pub record Plain (c : CodeLists) (k : ℕ) (rs : Routines) (site : Site) (inside : Bool) (own : ℕ) : Type 0 where
  pub expr : (e : Expr) → SuitsExpr rs site.names e → AllByRecursion (IsPlain c k) (expr_code site e)
  pub assign_name : (x : NameAt) (becomes : ℕ) (e : Expr) → SuitsStatement rs site.names inside (assign x None becomes e)
      → AllByRecursion (IsPlain c k) (expr_code site e ++ store_code site.result (site.names x.letters))
  pub assign_element : (x : NameAt) (i : Index) (becomes : ℕ) (e : Expr) → SuitsStatement rs site.names inside (assign x (Some i) becomes e)
      → AllByRecursion (IsPlain c k) (index_code site (site.names x.letters) i ++ (expr_code site e ++ store_element_code (site.names x.letters)))
  pub calls : (x : NameAt) (a : Option Arguments) → SuitsStatement rs site.names inside (call x a) → AllByRecursion (IsPlain c k) (call_statement_code site x a)
  pub control : (x : NameAt) → IsScalar (site.names x.letters) → AllByRecursion (IsPlain c k) (store_code site.result (site.names x.letters))
  pub load : (w : ℕ) → w < own → IsPlain c k (load_own site w)
  pub store : (w : ℕ) → w < own → IsPlain c k (store_own site w)

-- the places of a FOR's turn and behind it
turn_place : (place p one two begin lower upper : ℕ) → place ≡ p → one ≡ p + 1 + lower → two ≡ one + 1 + upper → two + 1 + 1 + 1 + 1 + 1 ≡ begin
    → place + lower + upper + 7 ≡ begin
turn_place place p one two begin lower upper same m1 m2 m3 = omega (arith, same, m1, m2, m3)

out_place : (turn begin q control code tests steps : ℕ) → turn ≡ begin → q ≡ begin + 1 + 1 + (control + (code + (tests + steps))) → tests ≡ 4 → steps ≡ 4
    → turn + control + 2 + code + 8 ≡ q
out_place turn begin q control code tests steps same far four four_more = omega (arith, same, far, four, four_more)

first_place : (turn begin three control : ℕ) → turn ≡ begin → begin + 1 + 1 + control ≡ three → turn + control + 2 ≡ three
first_place turn begin three control same m4 = omega (arith, same, m4)

behind_turns : (i j : Instr) (control code tests steps : List Instr) (begin q : ℕ) → q ≡ begin + length (i ∷ (j ∷ (control ++ (code ++ (tests ++ steps)))))
    → q ≡ begin + 1 + 1 + (length control + (length code + (length tests + length steps)))
behind_turns i j control code tests steps begin q far =
    omega (arith, far, length-append control (code ++ (tests ++ steps)), length-append code (tests ++ steps), length-append tests steps)

module _ (c : CodeLists) (k : ℕ) (rs : Routines) (site : Site) (inside : Bool) (base own start end : ℕ)
    (within : (x : ℕ) → start ≤ x → x < end → routine_of c x ≡ k)
    (some : end ≤ length c.instrs) (rise : Rise c rs site inside) (plain : Plain c k rs site inside own) where
  abbrev Fine : ℕ → ℕ → Type 0
  Fine p q = AreFine c site base p q

  also : (p m q : ℕ) → Fine p m → Fine m q → Fine p q
  also p m q one two = fine_more c k site base start end within some p m q one two

  height_next : (p : ℕ) (i : Instr) (h n : ℕ) → start ≤ p → p + 1 < end → slice_get c.instrs p ≡ Some i → height_at c p ≡ h → behind c i h ≡ n
      → height_at c (p + 1) ≡ n
  height_next p i h n low high found at is = height_step c k site base start end within some p i low high found ∙ ap (behind c i) at ∙ is

  level_behind : (code : List Instr) (p q : ℕ) → start ≤ p → q < end → Stand c p code q → Level c code → height_at c p ≡ 0 → height_at c q ≡ 0
  level_behind code p q low high stand lift at = height_behind c k site base start end within some 0 1500 code p q 0 0 low high stand lift at

  tick_fine : (p line : ℕ) → slice_get c.instrs p ≡ Some (tick line) → Fine p (p + 1)
  tick_fine p line found = fine_one c k site base start end within some p (tick line) found refl refl

  plain_fine : (code : List Instr) (p q : ℕ) → start ≤ p → q ≤ end → Stand c p code q → AllByRecursion (IsPlain c k) code → Fine p q
  plain_fine code p q low high stand all = fine_plain c k site base start end within some code p q low high stand all

  plain_one : (p : ℕ) (i : Instr) → start ≤ p → p < end → slice_get c.instrs p ≡ Some i → IsPlain c k i → Fine p (p + 1)
  plain_one p i low high found is = fine_one c k site base start end within some p i found is.no_jump (is.fits p (within p low high))

  jump_fine : (p a q : ℕ) → a ≡ q → start ≤ p → p < end → start ≤ q → q < end → slice_get c.instrs p ≡ Some (jump a)
      → (p < q) ⊎ (is_tick (instr_at c q).op ≡ true) → Lands c site base q → Fine p (p + 1)
  jump_fine p a q same low high low_to high_to found way lands =
      fine_jump c k site base start end within some p q low high low_to high_to (subst (λ (n : ℕ). slice_get c.instrs p ≡ Some (jump n)) same found) way lands

  branch_fine : (p a q : ℕ) → a ≡ q → start ≤ p → p < end → start ≤ q → q < end → slice_get c.instrs p ≡ Some (jump_if_false a)
      → (p < q) ⊎ (is_tick (instr_at c q).op ≡ true) → Lands c site base q
      → Fine p (p + 1)
  branch_fine p a q same low high low_to high_to found way lands =
      fine_branch c k site base start end within some p q low high low_to high_to
      (subst (λ (n : ℕ). slice_get c.instrs p ≡ Some (jump_if_false n)) same found) way lands

  -- what stands at a place that is found
  opens_end : (p : ℕ) (i : Instr) → slice_get c.instrs p ≡ Some i → leaves_nothing i.op ≡ true → Opens site base (instr_at c p)
  opens_end p i found ends = AnEnd (ap (λ (j : Instr). leaves_nothing j.op) (found_at c p i found) ∙ ends)

  tick_there : (p line : ℕ) → slice_get c.instrs p ≡ Some (tick line) → is_tick (instr_at c p).op ≡ true
  tick_there p line found = ap (λ (j : Instr). is_tick j.op) (found_at c p (tick line) found)

  behind_jump : (p : ℕ) (i : Instr) → slice_get c.instrs p ≡ Some i → is_jump i.op ≡ true → IsBehindJump c (p + 1)
  behind_jump p i found jumps = record { before = p; next = refl; jumps = ap (λ (j : Instr). is_jump j.op) (found_at c p i found) ∙ jumps }

  -- ---- A test behind a tick
  record Tested (e : Expr) (p m : ℕ) : Type 0 where
    fine : Fine p m
    height : height_at c m ≡ 1
    far : m ≡ p + 1 + length (expr_code site e)

  tested : (e : Expr) (p m line : ℕ) → SuitsExpr rs site.names e → ExprFits e most_levels → slice_get c.instrs p ≡ Some (tick line)
      → Stand c (p + 1) (expr_code site e) m → start ≤ p → m < end → height_at c p ≡ 0
      → Tested e p m
  tested e p m line suits fits ticks stand low high at =
      let far : m ≡ p + 1 + length (expr_code site e) = stands_to c (p + 1) (expr_code site e) m stand in
      let begun : height_at c (p + 1) ≡ 0 = height_next p (tick line) 0 0 low (omega (arith, far, high)) ticks at refl in
      record {
        fine = also p (p + 1) m (tick_fine p line ticks)
            (plain_fine (expr_code site e) (p + 1) m (omega (arith, low)) (omega (arith, high)) stand (plain.expr e suits));
        height = height_behind c k site base start end within some 1 1500 (expr_code site e) (p + 1) m 0 1 (omega (arith, low)) high stand
            (rise.expr e suits fits) begun;
        far = far;
      }

  -- ---- The tests of a FOR
  reach_is : (way : Direction) → (is_jump (reach_op way) ≡ false) × ((x : ℕ) → operands_fit c x (reach_op way) 0 0 ≡ true)
  reach_is direction.To = (refl, λ x. refl)
  reach_is direction.Downto = (refl, λ x. refl)

  before_is : (way : Direction) → (is_jump (before_op way) ≡ false) × ((x : ℕ) → operands_fit c x (before_op way) 0 0 ≡ true)
  before_is direction.To = (refl, λ x. refl)
  before_is direction.Downto = (refl, λ x. refl)

  step_is : (way : Direction) → (is_jump (step_op way) ≡ false) × ((x : ℕ) → operands_fit c x (step_op way) 0 0 ≡ true)
  step_is direction.To = (refl, λ x. refl)
  step_is direction.Downto = (refl, λ x. refl)

  test_fine : (o : Op) (w a p m q : ℕ) → (is_jump o ≡ false) × ((x : ℕ) → operands_fit c x o 0 0 ≡ true) → w + 2 ≤ own → a ≡ q
      → Stand c p (counter_test site o w a) m → start ≤ p → m ≤ q → q < end → Lands c site base q → Fine p m
  test_fine o w a p m q is low_words same stand low high ends lands =
      let far : p + 1 + 1 + 1 + 1 ≡ m = stand.1.1.1.1 in
      subst (Fine p) far
      (also p (p + 1) (p + 1 + 1 + 1 + 1) (plain_one p (load_own site w) low (omega (arith, far, high, ends)) stand.0 (plain.load w (omega (arith, low_words))))
      (also (p + 1) (p + 1 + 1) (p + 1 + 1 + 1 + 1) (plain_one (p + 1) (load_own site (w + 1)) (omega (arith, low)) (omega (arith, far, high, ends)) stand.1.0
      (plain.load (w + 1) (omega (arith, low_words))))
      (also (p + 1 + 1) (p + 1 + 1 + 1) (p + 1 + 1 + 1 + 1)
      (fine_one c k site base start end within some (p + 1 + 1) (bare o) stand.1.1.0 is.0 (is.1 (p + 1 + 1)))
      (branch_fine (p + 1 + 1 + 1) a q same (omega (arith, low)) (omega (arith, far, high, ends)) (omega (arith, low, far, high)) ends stand.1.1.1.0
      (inl (omega (arith, far, high))) lands))))

  step_fine : (way : Direction) (w a turn p q : ℕ) → w + 2 ≤ own → a ≡ turn → Stand c p (counter_step site way w a) q → start ≤ turn → turn < p → q < end
      → is_tick (instr_at c turn).op ≡ true → Lands c site base turn → Fine p q
  step_fine way w a turn p q low_words same stand low back ends ticks lands =
      let far : p + 1 + 1 + 1 + 1 ≡ q = stand.1.1.1.1 in
      subst (Fine p) far
      (also p (p + 1) (p + 1 + 1 + 1 + 1) (plain_one p (load_own site w) (omega (arith, low, back)) (omega (arith, far, ends)) stand.0
      (plain.load w (omega (arith, low_words))))
      (also (p + 1) (p + 1 + 1) (p + 1 + 1 + 1 + 1) (fine_one c k site base start end within some (p + 1) (bare (step_op way)) stand.1.0 (step_is way).0
      ((step_is way).1 (p + 1)))
      (also (p + 1 + 1) (p + 1 + 1 + 1) (p + 1 + 1 + 1 + 1)
      (plain_one (p + 1 + 1) (store_own site w) (omega (arith, low, back)) (omega (arith, far, ends)) stand.1.1.0
      (plain.store w (omega (arith, low_words))))
      (jump_fine (p + 1 + 1 + 1) a turn same (omega (arith, low, back)) (omega (arith, far, ends)) low (omega (arith, back, far, ends)) stand.1.1.1.0
      (inr ticks) lands))))

  -- ---- The labels of a branch
  label_fine : (w a : ℕ) (label : Constant) (p m q : ℕ) → w < own → a ≡ q → Stand c p (label_test site w a label) m → start ≤ p → m ≤ q → q < end
      → Lands c site base q → Fine p m
  label_fine w a label p m q low_word same stand low high ends lands =
      let far : p + 1 + 1 + 1 + 1 ≡ m = stand.1.1.1.1 in
      subst (Fine p) far
      (also p (p + 1) (p + 1 + 1 + 1 + 1) (plain_one p (load_own site w) low (omega (arith, far, high, ends)) stand.0 (plain.load w low_word))
      (also (p + 1) (p + 1 + 1) (p + 1 + 1 + 1 + 1) (fine_one c k site base start end within some (p + 1)
      (push (constant_value site.names label)) stand.1.0 refl refl)
      (also (p + 1 + 1) (p + 1 + 1 + 1) (p + 1 + 1 + 1 + 1) (fine_one c k site base start end within some (p + 1 + 1) (bare op.Ne) stand.1.1.0 refl refl)
      (branch_fine (p + 1 + 1 + 1) a q same (omega (arith, low)) (omega (arith, far, high, ends)) (omega (arith, low, far, high)) ends stand.1.1.1.0
      (inl (omega (arith, far, high))) lands))))

  more_labels_fine : (w a : ℕ) (ls : List (ℕ × Constant)) (p m q : ℕ) → w < own → a ≡ q → Stand c p (more_label_tests site w a ls) m → start ≤ p → m ≤ q
      → q < end → Lands c site base q → Fine p m
  more_labels_fine w a [] p m q low_word same stand low high ends lands = fine_none c k site base start end within some p m stand
  more_labels_fine w a (l ∷ more) p m q low_word same stand low high ends lands =
      let one = parted c p (label_test site w a l.1) (more_label_tests site w a more) m stand in
      let far : m ≡ one.0 + length (more_label_tests site w a more) = stands_to c one.0 (more_label_tests site w a more) m one.1.1 in
      let near : p + 1 + 1 + 1 + 1 ≡ one.0 = one.1.0.1.1.1.1 in
      also p one.0 m (label_fine w a l.1 p one.0 q low_word same one.1.0 low (omega (arith, far, high)) ends lands)
      (more_labels_fine w a more one.0 m q low_word same one.1.1 (omega (arith, low, near)) high ends lands)

  labels_fine : (w a : ℕ) (labels : Labels) (p m q : ℕ) → w < own → a ≡ q → Stand c p (label_tests site w a labels) m → start ≤ p → m ≤ q → q < end
      → Lands c site base q → Fine p m
  labels_fine w a labels p m q low_word same stand low high ends lands =
      let one = parted c p (label_test site w a labels.first) (more_label_tests site w a labels.rest) m stand in
      let far : m ≡ one.0 + length (more_label_tests site w a labels.rest) = stands_to c one.0 (more_label_tests site w a labels.rest) m one.1.1 in
      let near : p + 1 + 1 + 1 + 1 ≡ one.0 = one.1.0.1.1.1.1 in
      also p one.0 m (label_fine w a labels.first p one.0 q low_word same one.1.0 low (omega (arith, far, high)) ends lands)
      (more_labels_fine w a labels.rest one.0 m q low_word same one.1.1 (omega (arith, low, near)) high ends lands)

  -- ---- Words that FOR and CASE keep
  load_is : (o : Owner) (w h : ℕ) → behind c (load_word o w) h ≡ h + 1
  load_is OfProgram w h = omega arith
  load_is OfRoutine w h = omega arith

  store_is : (o : Owner) (w : ℕ) → behind c (store_word o w) 1 ≡ 0
  store_is OfProgram w = refl
  store_is OfRoutine w = refl

  loaded : (p w : ℕ) → start ≤ p → p + 1 < end → slice_get c.instrs p ≡ Some (load_own site w) → height_at c p ≡ 0 → height_at c (p + 1) ≡ 1
  loaded p w low high found at = height_next p (load_own site w) 0 1 low high found at (load_is site.owner w 0)

  stored : (p w : ℕ) → start ≤ p → p + 1 < end → slice_get c.instrs p ≡ Some (store_own site w) → height_at c p ≡ 1 → height_at c (p + 1) ≡ 0
  stored p w low high found at = height_next p (store_own site w) 1 0 low high found at (store_is site.owner w)

  again_lifts : (way : Direction) (w out turn : ℕ) → Level c (counter_test site (before_op way) w out ++ counter_step site way w turn)
  again_lifts way w out turn =
      lifts c 0 1500 (counter_test site (before_op way) w out) (counter_step site way w turn) 0 0 0 (before_lifts c site way w out)
      (step_lifts c site way w turn)

  labels_size : (labels : Labels) (found w : ℕ) → length (label_tests site w found labels) ≡ label_tests_size labels
  labels_size labels found w = first_and_more (constant_value site.names labels.first) labels.rest
    where
      more_size : (ls : List (ℕ × Constant)) → length (more_label_tests site w found ls) ≡ 4 * length ls
      more_size [] = refl
      more_size (l ∷ ls) = omega (arith, more_size ls)

      first_and_more : (v : ℤ) (ls : List (ℕ × Constant))
          → length (load_own site w ∷ push v ∷ bare op.Ne ∷ jump_if_false found ∷ more_label_tests site w found ls) ≡ 4 * (length ls + 1)
      first_and_more v ls = omega (arith, more_size ls)

  -- ---- What stands at the start of statements: a tick, or what stands behind them
  mutual
    statement_opens : (s : Statement) (free place p q : ℕ) → Stand c p (statement_code site free s place) q → Opens site base (instr_at c q)
        → Opens site base (instr_at c p)
    statement_opens empty free place p q stand opens = subst (λ (m : ℕ). Opens site base (instr_at c m)) (sym stand) opens
    statement_opens (assign x None becomes e) free place p q stand opens = ATick (tick_there p x.line stand.0)
    statement_opens (assign x (Some i) becomes e) free place p q stand opens = ATick (tick_there p x.line stand.0)
    statement_opens (call x a) free place p q stand opens = ATick (tick_there p x.line stand.0)
    statement_opens (compound b) free place p q stand opens = body_opens b free place p q stand opens
    statement_opens (if_then line e then_line s) free place p q stand opens = ATick (tick_there p line stand.0)
    statement_opens (if_else line e then_line s else_line t) free place p q stand opens = ATick (tick_there p line stand.0)
    statement_opens (while_do line e do_line s) free place p q stand opens = ATick (tick_there p line stand.0)
    statement_opens (repeat_until line s until_line e) free place p q stand opens = ATick (tick_there p line stand.0)
    statement_opens (for_do line x becomes from way way_line to do_line s) free place p q stand opens = ATick (tick_there p line stand.0)
    statement_opens (case_of line e of_line b more end_line) free place p q stand opens = ATick (tick_there p line stand.0)

    body_opens : (b : Body) (free place p q : ℕ) → Stand c p (body_code site free b place) q → Opens site base (instr_at c q) → Opens site base (instr_at c p)
    body_opens (body begin s end_line) free place p q stand opens = sequence_opens s free place p q stand opens

    sequence_opens : (s : Sequence) (free place p q : ℕ) → Stand c p (sequence_code site free s place) q → Opens site base (instr_at c q)
        → Opens site base (instr_at c p)
    sequence_opens (sequence s more) free place p q stand opens =
        let code = statement_code site free s place in
        let one = parted c p code (statements_code site free more (place + length code)) q stand in
        statement_opens s free place p one.0 one.1.0 (statements_open more free (place + length code) one.0 q one.1.1 opens)

    statements_open : (ss : Statements) (free place p q : ℕ) → Stand c p (statements_code site free ss place) q → Opens site base (instr_at c q)
        → Opens site base (instr_at c p)
    statements_open no_statement free place p q stand opens = subst (λ (m : ℕ). Opens site base (instr_at c m)) (sym stand) opens
    statements_open (next_statement line s more) free place p q stand opens =
        let code = statement_code site free s place in
        let one = parted c p code (statements_code site free more (place + length code)) q stand in
        statement_opens s free place p one.0 one.1.0 (statements_open more free (place + length code) one.0 q one.1.1 opens)

  -- what stands behind a branch, by its place
  record Later (later : ℕ → List Instr) : Type 0 where
    level : (m : ℕ) → Level c (later m)
    fine : (m p q : ℕ) → m ≡ p → Stand c p (later m) q → start < p → q < end → height_at c p ≡ 0 → Opens site base (instr_at c q) → Fine p q

  no_branch_fine : (a p q : ℕ) → a ≡ p + 3 → Stand c p (no_branch_code a) q → start ≤ p → q < end → height_at c p ≡ 0 → Opens site base (instr_at c q)
      → Fine p q
  no_branch_fine a p q same stand low ends at opens =
      let far : p + 1 + 1 + 1 ≡ q = stand.1.1.1 in
      let one : height_at c (p + 1) ≡ 1 = height_next p (push (negsuc 0)) 0 1 low (omega (arith, far, ends)) stand.0 at refl in
      let two : height_at c (p + 1 + 1) ≡ 1 = height_next (p + 1) (test_index (record { low = pos 0; high = pos 0 })) 1 1 (omega (arith, low))
      (omega (arith, far, ends)) stand.1.0 one refl in
      let three : height_at c (p + 1 + 1 + 1) ≡ 0 = height_next (p + 1 + 1) (jump_if_false a) 1 0 (omega (arith, low))
      (omega (arith, far, ends)) stand.1.1.0 two refl in
      subst (Fine p) far
      (also p (p + 1) (p + 1 + 1 + 1) (fine_one c k site base start end within some p (push (negsuc 0)) stand.0 refl refl)
      (also (p + 1) (p + 1 + 1) (p + 1 + 1 + 1) (fine_one c k site base start end within some (p + 1)
      (test_index (record { low = pos 0; high = pos 0 })) stand.1.0 refl refl)
      (branch_fine (p + 1 + 1) a q (omega (arith, same, far)) (omega (arith, low)) (omega (arith, far, ends)) (omega (arith, low, far)) ends stand.1.1.0
      (inl (omega (arith, far)))
      (record { height = subst (λ (m : ℕ). height_at c m ≡ 0) far three; opener = inl opens }))))

  -- The turns of a FOR: its control variable is set, its statement done, and the counter tested.
  record Turns (begin q : ℕ) : Type 0 where
    height : height_at c q ≡ 0
    fine : Fine begin q

  turns_fine : (way : Direction) (line w out turn begin q : ℕ) (control code : List Instr) → AllByRecursion (IsPlain c k) control → Lift c 0 1500 control 1 0
      → Level c code → base ≤ w → w + 2 ≤ own
      → Stand c begin (tick line ∷ (load_own site w ∷ (control ++ (code ++ (counter_test site (before_op way) w out ++ counter_step site way w turn))))) q
      → turn ≡ begin → out ≡ q → start ≤ begin → q < end
      → height_at c begin ≡ 0 → Opens site base (instr_at c q)
      → ((m r : ℕ) → begin + 1 + 1 + length control ≡ m → Stand c m code r → r < end → height_at c m ≡ 0 → Opens site base (instr_at c r) → Fine m r)
      → Turns begin q
  turns_fine way line w out turn begin q control code all rise_control level kept room stand turn_is out_is low high at opens inner =
      let again = counter_test site (before_op way) w out ++ counter_step site way w turn in
      let three = parted c (begin + 1 + 1) control (code ++ again) q stand.1.1 in
      let four = parted c three.0 code again q three.1.1 in
      let five = parted c four.0 (counter_test site (before_op way) w out) (counter_step site way w turn) q four.1.1 in
      let m4 : three.0 ≡ begin + 1 + 1 + length control = stands_to c (begin + 1 + 1) control three.0 three.1.0 in
      let m5 : four.0 ≡ three.0 + length code = stands_to c three.0 code four.0 four.1.0 in
      let m6 : four.0 + 1 + 1 + 1 + 1 ≡ five.0 = five.1.0.1.1.1.1 in
      let far : five.0 + 1 + 1 + 1 + 1 ≡ q = five.1.1.1.1.1.1 in
      let first_high : begin + 1 + 1 < end = omega (arith, m4, m5, m6, far, high) in
      let three_high : three.0 < end = omega (arith, m5, m6, far, high) in
      let four_high : four.0 < end = omega (arith, m6, far, high) in
      let three_low : start ≤ three.0 = omega (arith, low, m4) in
      let four_low : start ≤ four.0 = omega (arith, three_low, m5) in
      let h5 : height_at c (begin + 1) ≡ 0 = height_next begin (tick line) 0 0 low (omega (arith, first_high)) stand.0 at refl in
      let h6 : height_at c (begin + 1 + 1) ≡ 1 = loaded (begin + 1) w (omega (arith, low)) first_high stand.1.0 h5 in
      let h7 : height_at c three.0 ≡ 0 = height_behind c k site base start end within some 0 1500 control (begin + 1 + 1) three.0 1 0
      (omega (arith, low)) three_high three.1.0 rise_control h6 in
      let h8 : height_at c four.0 ≡ 0 = level_behind code three.0 four.0 three_low four_high four.1.0 level h7 in
      let ended : height_at c q ≡ 0 = level_behind again four.0 q four_low high four.1.1 (again_lifts way w out turn) h8 in
      let leaves : Lands c site base q = record { height = ended; opener = inl opens } in
      let ticks : is_tick (instr_at c begin).op ≡ true = tick_there begin line stand.0 in
      record {
        height = ended;
        fine = also begin (begin + 1) q (tick_fine begin line stand.0)
            (also (begin + 1) (begin + 1 + 1) q (plain_one (begin + 1) (load_own site w) (omega (arith, low)) (omega (arith, first_high)) stand.1.0
            (plain.load w (omega (arith, room))))
            (also (begin + 1 + 1) three.0 q (plain_fine control (begin + 1 + 1) three.0 (omega (arith, low)) (omega (arith, three_high)) three.1.0 all)
            (also three.0 four.0 q (inner three.0 four.0 (sym m4) four.1.0 four_high h7 (AKeptWord w kept (found_at c four.0 (load_own site w) five.1.0.0)))
            (also four.0 five.0 q (test_fine (before_op way) w out four.0 five.0 q (before_is way) room out_is five.1.0 four_low
            (omega (arith, far)) high leaves)
            (step_fine way w turn begin five.0 q room turn_is five.1.1 low (omega (arith, m4, m5, m6)) high ticks
            (record { height = at; opener = inl (ATick ticks) }))))));
      }

  mutual
    pub statement_fine : (s : Statement) (free place p q n : ℕ) → base ≤ free → free + nested_words s ≤ own → place ≡ p → SuitsStatement rs site.names inside s
        → StatementFits s n
        → Stand c p (statement_code site free s place) q → start ≤ p → q < end → height_at c p ≡ 0 → Opens site base (instr_at c q) → Fine p q
    statement_fine empty free place p q n kept room same suits fits stand low high at opens = fine_none c k site base start end within some p q stand
    statement_fine (assign x None becomes e) free place p q n kept room same suits fits stand low high at opens =
        let code = expr_code site e ++ store_code site.result (site.names x.letters) in
        also p (p + 1) q (tick_fine p x.line stand.0) (plain_fine code (p + 1) q (omega (arith, low)) (omega (arith, high)) stand.1
        (plain.assign_name x becomes e suits))
    statement_fine (assign x (Some i) becomes e) free place p q n kept room same suits fits stand low high at opens =
        let code = index_code site (site.names x.letters) i ++ (expr_code site e ++ store_element_code (site.names x.letters)) in
        also p (p + 1) q (tick_fine p x.line stand.0) (plain_fine code (p + 1) q (omega (arith, low)) (omega (arith, high)) stand.1
        (plain.assign_element x i becomes e suits))
    statement_fine (call x a) free place p q n kept room same suits fits stand low high at opens =
        also p (p + 1) q (tick_fine p x.line stand.0)
        (plain_fine (call_statement_code site x a) (p + 1) q (omega (arith, low)) (omega (arith, high)) stand.1 (plain.calls x a suits))
    statement_fine (compound b) free place p q n kept room same suits fits stand low high at opens =
        body_fine b free place p q (n - 1) kept room same suits fits.1 stand low high at opens
    statement_fine (if_then line e then_line s) free place p q n kept room same suits fits stand low high at opens =
        let test = expr_code site e in
        let first = place + length test + 2 in
        let code = statement_code site free s first in
        let out = first + length code in
        let one = parted c (p + 1) test (jump_if_false out ∷ code) q stand.1 in
        let far : q ≡ one.0 + 1 + length code = stands_to c (one.0 + 1) code q one.1.1.1 in
        let t = tested e p one.0 line suits.0 fits.1 stand.0 one.1.0 low (omega (arith, far, high)) at in
        let begun : height_at c (one.0 + 1) ≡ 0 = height_next one.0 (jump_if_false out) 1 0 (omega (arith, low, t.far))
        (omega (arith, far, high)) one.1.1.0 t.height refl in
        let ended : height_at c q ≡ 0 = level_behind code (one.0 + 1) q (omega (arith, low, t.far)) high one.1.1.1
        (statement_lifts c rs site inside rise s free first (n - 1) suits.1 fits.2) begun in
        also p one.0 q t.fine
        (also one.0 (one.0 + 1) q
        (branch_fine one.0 out q (omega (arith, same, t.far, far)) (omega (arith, low, t.far)) (omega (arith, far, high))
        (omega (arith, low, t.far, far)) high one.1.1.0 (inl (omega (arith, far)))
        (record { height = ended; opener = inl opens }))
        (statement_fine s free first (one.0 + 1) q (n - 1) kept room (omega (arith, same, t.far)) suits.1 fits.2 one.1.1.1
        (omega (arith, low, t.far)) high begun opens))
    statement_fine (if_else line e then_line s else_line u) free place p q n kept room same suits fits stand low high at opens =
        let test = expr_code site e in
        let first = place + length test + 2 in
        let code = statement_code site free s first in
        let otherwise = first + length code + 1 in
        let others = statement_code site free u otherwise in
        let out = otherwise + length others in
        let one = parted c (p + 1) test (jump_if_false otherwise ∷ (code ++ (jump out ∷ others))) q stand.1 in
        let two = parted c (one.0 + 1) code (jump out ∷ others) q one.1.1.1 in
        let m : two.0 ≡ one.0 + 1 + length code = stands_to c (one.0 + 1) code two.0 two.1.0 in
        let far : q ≡ two.0 + 1 + length others = stands_to c (two.0 + 1) others q two.1.1.1 in
        let t = tested e p one.0 line suits.0 fits.1 stand.0 one.1.0 low (omega (arith, m, far, high)) at in
        let begun : height_at c (one.0 + 1) ≡ 0 = height_next one.0 (jump_if_false otherwise) 1 0 (omega (arith, low, t.far))
        (omega (arith, m, far, high)) one.1.1.0 t.height refl in
        let mid : height_at c two.0 ≡ 0 = level_behind code (one.0 + 1) two.0 (omega (arith, low, t.far)) (omega (arith, far, high)) two.1.0
        (statement_lifts c rs site inside rise s free first (n - 1) suits.1 fits.2) begun in
        let beside : height_at c (two.0 + 1) ≡ 0 = height_next two.0 (jump out) 0 0 (omega (arith, low, t.far, m))
        (omega (arith, far, high)) two.1.1.0 mid refl in
        let ended : height_at c q ≡ 0 = level_behind others (two.0 + 1) q (omega (arith, low, t.far, m)) high two.1.1.1
        (statement_lifts c rs site inside rise u free otherwise (n - 1) suits.2 fits.4) beside in
        also p one.0 q t.fine
        (also one.0 (one.0 + 1) q
        (branch_fine one.0 otherwise (two.0 + 1) (omega (arith, same, t.far, m)) (omega (arith, low, t.far)) (omega (arith, m, far, high))
        (omega (arith, low, t.far, m)) (omega (arith, far, high)) one.1.1.0
        (inl (omega (arith, m))) (record { height = beside; opener = inr (behind_jump two.0 (jump out) two.1.1.0 refl) }))
        (also (one.0 + 1) two.0 q
        (statement_fine s free first (one.0 + 1) two.0 (n - 1) kept (omega (arith, room)) (omega (arith, same, t.far)) suits.1 fits.2 two.1.0
        (omega (arith, low, t.far)) (omega (arith, far, high)) begun
        (opens_end two.0 (jump out) two.1.1.0 refl))
        (also two.0 (two.0 + 1) q
        (jump_fine two.0 out q (omega (arith, same, t.far, m, far)) (omega (arith, low, t.far, m)) (omega (arith, far, high))
        (omega (arith, low, t.far, m, far)) high two.1.1.0 (inl (omega (arith, far)))
        (record { height = ended; opener = inl opens }))
        (statement_fine u free otherwise (two.0 + 1) q (n - 1) kept (omega (arith, room)) (omega (arith, same, t.far, m)) suits.2 fits.4 two.1.1.1
        (omega (arith, low, t.far, m)) high beside opens))))
    statement_fine (while_do line e do_line s) free place p q n kept room same suits fits stand low high at opens =
        let test = expr_code site e in
        let first = place + 1 + length test + 2 in
        let code = statement_code site free s first in
        let out = first + length code + 1 in
        let top = p + 1 in
        let one = parted c (top + 1) test (jump_if_false out ∷ (code ++ jump (place + 1) ∷ [])) q stand.1.1 in
        let two = parted c (one.0 + 1) code (jump (place + 1) ∷ []) q one.1.1.1 in
        let m : two.0 ≡ one.0 + 1 + length code = stands_to c (one.0 + 1) code two.0 two.1.0 in
        let far : two.0 + 1 ≡ q = two.1.1.1 in
        let near : one.0 ≡ top + 1 + length test = stands_to c (top + 1) test one.0 one.1.0 in
        let turned : height_at c top ≡ 0 = height_next p (tick line) 0 0 low (omega (arith, near, m, far, high)) stand.0 at refl in
        let t = tested e top one.0 line suits.0 fits.1 stand.1.0 one.1.0 (omega (arith, low)) (omega (arith, m, far, high)) turned in
        let begun : height_at c (one.0 + 1) ≡ 0 = height_next one.0 (jump_if_false out) 1 0 (omega (arith, low, near))
        (omega (arith, m, far, high)) one.1.1.0 t.height refl in
        let mid : height_at c two.0 ≡ 0 = level_behind code (one.0 + 1) two.0 (omega (arith, low, near)) (omega (arith, far, high)) two.1.0
        (statement_lifts c rs site inside rise s free first (n - 1) suits.1 fits.2) begun in
        let ended : height_at c q ≡ 0 = subst (λ (x : ℕ). height_at c x ≡ 0) far
        (height_next two.0 (jump (place + 1)) 0 0 (omega (arith, low, near, m)) (omega (arith, far, high)) two.1.1.0 mid refl) in
        also p top q (tick_fine p line stand.0)
        (also top one.0 q t.fine
        (also one.0 (one.0 + 1) q
        (branch_fine one.0 out q (omega (arith, same, near, m, far)) (omega (arith, low, near)) (omega (arith, m, far, high))
        (omega (arith, low, near, m, far)) high one.1.1.0 (inl (omega (arith, m, far)))
        (record { height = ended; opener = inl opens }))
        (also (one.0 + 1) two.0 q
        (statement_fine s free first (one.0 + 1) two.0 (n - 1) kept room (omega (arith, same, near)) suits.1 fits.2 two.1.0 (omega (arith, low, near))
        (omega (arith, far, high)) begun
        (opens_end two.0 (jump (place + 1)) two.1.1.0 refl))
        (subst (Fine two.0) far
        (jump_fine two.0 (place + 1) top (omega (arith, same)) (omega (arith, low, near, m)) (omega (arith, far, high)) (omega (arith, low))
        (omega (arith, near, m, far, high)) two.1.1.0
        (inr (tick_there top line stand.1.0)) (record { height = turned; opener = inl (ATick (tick_there top line stand.1.0)) }))))))
    statement_fine (repeat_until line s until_line e) free place p q n kept room same suits fits stand low high at opens =
        let test = expr_code site e in
        let first = place + 2 + length test + 3 in
        let code = sequence_code site free s first in
        let out = first + length code + 1 in
        let top = p + 1 + 1 in
        let one = parted c (top + 1) test (bare op.Not ∷ (jump_if_false out ∷ (code ++ jump (place + 2) ∷ []))) q stand.1.1.1 in
        let two = parted c (one.0 + 1 + 1) code (jump (place + 2) ∷ []) q one.1.1.1.1 in
        let m : two.0 ≡ one.0 + 1 + 1 + length code = stands_to c (one.0 + 1 + 1) code two.0 two.1.0 in
        let far : two.0 + 1 ≡ q = two.1.1.1 in
        let near : one.0 ≡ top + 1 + length test = stands_to c (top + 1) test one.0 one.1.0 in
        let jumped : height_at c (p + 1) ≡ 0 = height_next p (tick line) 0 0 low (omega (arith, near, m, far, high)) stand.0 at refl in
        let turned : height_at c top ≡ 0 = height_next (p + 1) (jump first) 0 0 (omega (arith, low))
        (omega (arith, near, m, far, high)) stand.1.0 jumped refl in
        let t = tested e top one.0 line suits.0 fits.2 stand.1.1.0 one.1.0 (omega (arith, low)) (omega (arith, m, far, high)) turned in
        let negated : height_at c (one.0 + 1) ≡ 1 = height_next one.0 (bare op.Not) 1 1 (omega (arith, low, near))
        (omega (arith, m, far, high)) one.1.1.0 t.height refl in
        let begun : height_at c (one.0 + 1 + 1) ≡ 0 = height_next (one.0 + 1) (jump_if_false out) 1 0 (omega (arith, low, near))
        (omega (arith, m, far, high)) one.1.1.1.0 negated refl in
        let mid : height_at c two.0 ≡ 0 = level_behind code (one.0 + 1 + 1) two.0 (omega (arith, low, near)) (omega (arith, far, high)) two.1.0
        (sequence_lifts c rs site inside rise s free first (n - 1) suits.1 fits.1) begun in
        let ended : height_at c q ≡ 0 = subst (λ (x : ℕ). height_at c x ≡ 0) far
        (height_next two.0 (jump (place + 2)) 0 0 (omega (arith, low, near, m)) (omega (arith, far, high)) two.1.1.0 mid refl) in
        also p (p + 1) q (tick_fine p line stand.0)
        (also (p + 1) top q
        (jump_fine (p + 1) first (one.0 + 1 + 1) (omega (arith, same, near)) (omega (arith, low)) (omega (arith, near, m, far, high))
        (omega (arith, low, near)) (omega (arith, m, far, high)) stand.1.0
        (inl (omega (arith, near))) (record { height = begun; opener = inr (behind_jump (one.0 + 1) (jump_if_false out) one.1.1.1.0 refl) }))
        (also top one.0 q t.fine
        (also one.0 (one.0 + 1) q (fine_one c k site base start end within some one.0 (bare op.Not) one.1.1.0 refl refl)
        (also (one.0 + 1) (one.0 + 1 + 1) q
        (branch_fine (one.0 + 1) out q (omega (arith, same, near, m, far)) (omega (arith, low, near)) (omega (arith, m, far, high))
        (omega (arith, low, near, m, far)) high one.1.1.1.0 (inl (omega (arith, m, far)))
        (record { height = ended; opener = inl opens }))
        (also (one.0 + 1 + 1) two.0 q
        (sequence_fine s free first (one.0 + 1 + 1) two.0 (n - 1) kept room (omega (arith, same, near)) suits.1 fits.1 two.1.0 (omega (arith, low, near))
        (omega (arith, far, high)) begun
        (opens_end two.0 (jump (place + 2)) two.1.1.0 refl))
        (subst (Fine two.0) far
        (jump_fine two.0 (place + 2) top (omega (arith, same)) (omega (arith, low, near, m)) (omega (arith, far, high)) (omega (arith, low))
        (omega (arith, near, m, far, high)) two.1.1.0
        (inr (tick_there top line stand.1.1.0)) (record { height = turned; opener = inl (ATick (tick_there top line stand.1.1.0)) }))))))))
    statement_fine (for_do line x becomes from way way_line to do_line s) free place p q n kept room same suits fits stand low high at opens =
        let lower = expr_code site from in
        let upper = expr_code site to in
        let control = store_code site.result (site.names x.letters) in
        let turn = place + length lower + length upper + 7 in
        let first = turn + length control + 2 in
        let code = statement_code site (free + 2) s first in
        let out = first + length code + 8 in
        let tests = counter_test site (before_op way) free out in
        let steps = counter_step site way free turn in
        let rest = tick line ∷ (load_own site free ∷ (control ++ (code ++ (tests ++ steps)))) in
        let one = parted c (p + 1) lower (store_own site free ∷ (upper ++ (store_own site (free + 1) ∷ (counter_test site (reach_op way) free out ++ rest)))) q
        stand.1 in
        let two = parted c (one.0 + 1) upper (store_own site (free + 1) ∷ (counter_test site (reach_op way) free out ++ rest)) q one.1.1.1 in
        let reach = parted c (two.0 + 1) (counter_test site (reach_op way) free out) rest q two.1.1.1 in
        let begin = reach.0 in
        let m1 : one.0 ≡ p + 1 + length lower = stands_to c (p + 1) lower one.0 one.1.0 in
        let m2 : two.0 ≡ one.0 + 1 + length upper = stands_to c (one.0 + 1) upper two.0 two.1.0 in
        let m3 : two.0 + 1 + 1 + 1 + 1 + 1 ≡ begin = reach.1.0.1.1.1.1 in
        let far : q ≡ begin + 1 + 1 + (length control + (length code + (length tests + length steps))) =
        behind_turns (tick line) (load_own site free) control code tests steps begin q (stands_to c begin rest q reach.1.1) in
        let turn_is : turn ≡ begin = turn_place place p one.0 two.0 begin (length lower) (length upper) same m1 m2 m3 in
        let out_is : out ≡ q = out_place turn begin q (length control) (length code) (length tests) (length steps) turn_is far refl refl in
        let begin_high : begin < end = omega (arith, far, high) in
        let two_high : two.0 + 1 < end = omega (arith, m3, begin_high) in
        let one_high : one.0 + 1 < end = omega (arith, m2, two_high) in
        let one_low : start ≤ one.0 = omega (arith, low, m1) in
        let two_low : start ≤ two.0 = omega (arith, one_low, m2) in
        let begin_low : start ≤ begin = omega (arith, two_low, m3) in
        let t = tested from p one.0 line suits.1 fits.1 stand.0 one.1.0 low (omega (arith, one_high)) at in
        let h1 : height_at c (one.0 + 1) ≡ 0 = stored one.0 free one_low one_high one.1.1.0 t.height in
        let h2 : height_at c two.0 ≡ 1 = height_behind c k site base start end within some 1 1500 upper (one.0 + 1) two.0 0 1 (omega (arith, one_low))
        (omega (arith, two_high)) two.1.0 (rise.expr to suits.2 fits.2) h1 in
        let h3 : height_at c (two.0 + 1) ≡ 0 = stored two.0 (free + 1) two_low two_high two.1.1.0 h2 in
        let h4 : height_at c begin ≡ 0 = level_behind (counter_test site (reach_op way) free out) (two.0 + 1) begin
        (omega (arith, two_low)) begin_high reach.1.0 (reach_lifts c site way free out) h3 in
        let words : free + 2 ≤ own = omega (arith, room) in
        let turns = turns_fine way line free out turn begin q control code (plain.control x suits.0) (rise.control x suits.0)
        (statement_lifts c rs site inside rise s (free + 2) first (n - 1) suits.3 fits.3) kept words
        reach.1.1 turn_is out_is begin_low high h4 opens
        (λ m r here stands below level ends. statement_fine s (free + 2) first m r (n - 1) (omega (arith, kept)) (omega (arith, room))
        (first_place turn begin m (length control) turn_is here) suits.3 fits.3 stands
        (omega (arith, begin_low, here)) below level ends) in
        also p one.0 q t.fine
        (also one.0 (one.0 + 1) q (plain_one one.0 (store_own site free) one_low (omega (arith, one_high)) one.1.1.0 (plain.store free (omega (arith, words))))
        (also (one.0 + 1) two.0 q (plain_fine upper (one.0 + 1) two.0 (omega (arith, one_low)) (omega (arith, two_high)) two.1.0 (plain.expr to suits.2))
        (also two.0 (two.0 + 1) q (plain_one two.0 (store_own site (free + 1)) two_low (omega (arith, two_high)) two.1.1.0
        (plain.store (free + 1) (omega (arith, words))))
        (also (two.0 + 1) begin q (test_fine (reach_op way) free out (two.0 + 1) begin q (reach_is way) words out_is reach.1.0 (omega (arith, two_low))
        (omega (arith, far)) high (record { height = turns.height; opener = inl opens }))
        turns.fine))))
    statement_fine (case_of line e of_line b more end_line) free place p q n kept room same suits fits stand low high at opens =
        let selector = expr_code site e in
        let first = place + length selector + 2 in
        let one = parted c (p + 1) selector (store_own site free ∷ branch_code site free b (branches_code site free more) first) q stand.1 in
        let far : q ≡ one.0 + 1 + length (branch_code site free b (branches_code site free more) first) =
        stands_to c (one.0 + 1) (branch_code site free b (branches_code site free more) first) q one.1.1.1 in
        let t = tested e p one.0 line suits.0 fits.1 stand.0 one.1.0 low (omega (arith, far, high)) at in
        let begun : height_at c (one.0 + 1) ≡ 0 = stored one.0 free (omega (arith, low, t.far)) (omega (arith, far, high)) one.1.1.0 t.height in
        also p one.0 q t.fine
        (also one.0 (one.0 + 1) q (plain_one one.0 (store_own site free) (omega (arith, low, t.far)) (omega (arith, far, high)) one.1.1.0
        (plain.store free (omega (arith, room))))
        (branch_is_fine b free (branches_code site free more) first (one.0 + 1) q (n - 1) kept (omega (arith, room)) (omega (arith, same, t.far)) suits.1 fits.2
        (record {
          level = λ m. branches_lift c rs site inside rise more free m (n - 1) suits.2 fits.3;
          fine = λ m r u is stands above below level ends. branches_fine more free m r u (n - 1) kept (omega (arith, room)) is suits.2 fits.3 stands above
              below level ends;
        })
        one.1.1.1 (omega (arith, low)) high begun opens))

    pub body_fine : (b : Body) (free place p q n : ℕ) → base ≤ free → free + nested_in_body b ≤ own → place ≡ p → SuitsBody rs site.names inside b
        → BodyFits b n
        → Stand c p (body_code site free b place) q → start ≤ p → q < end → height_at c p ≡ 0 → Opens site base (instr_at c q) → Fine p q
    body_fine (body begin s end_line) free place p q n kept room same suits fits stand low high at opens =
        sequence_fine s free place p q n kept room same suits fits stand low high at opens

    sequence_fine : (s : Sequence) (free place p q n : ℕ) → base ≤ free → free + nested_in_sequence s ≤ own → place ≡ p → SuitsSequence rs site.names inside s
        → SequenceFits s n
        → Stand c p (sequence_code site free s place) q → start ≤ p → q < end → height_at c p ≡ 0 → Opens site base (instr_at c q) → Fine p q
    sequence_fine (sequence s more) free place p q n kept room same suits fits stand low high at opens =
        let code = statement_code site free s place in
        let one = parted c p code (statements_code site free more (place + length code)) q stand in
        let m : one.0 ≡ p + length code = stands_to c p code one.0 one.1.0 in
        let far : q ≡ one.0 + length (statements_code site free more (place + length code)) =
        stands_to c one.0 (statements_code site free more (place + length code)) q one.1.1 in
        let mid : height_at c one.0 ≡ 0 = level_behind code p one.0 low (omega (arith, far, high)) one.1.0
        (statement_lifts c rs site inside rise s free place n suits.0 fits.0) at in
        also p one.0 q
        (statement_fine s free place p one.0 n kept (omega (arith, room)) same suits.0 fits.0 one.1.0 low (omega (arith, far, high)) at
        (statements_open more free (place + length code) one.0 q one.1.1 opens))
        (statements_fine more free (place + length code) one.0 q n kept (omega (arith, room)) (omega (arith, same, m)) suits.1 fits.1 one.1.1
        (omega (arith, low, m)) high mid opens)

    statements_fine : (ss : Statements) (free place p q n : ℕ) → base ≤ free → free + nested_in_statements ss ≤ own → place ≡ p
        → SuitsStatements rs site.names inside ss → StatementsFit ss n
        → Stand c p (statements_code site free ss place) q → start ≤ p → q < end → height_at c p ≡ 0 → Opens site base (instr_at c q) → Fine p q
    statements_fine no_statement free place p q n kept room same suits fits stand low high at opens = fine_none c k site base start end within some p q stand
    statements_fine (next_statement line s more) free place p q n kept room same suits fits stand low high at opens =
        let code = statement_code site free s place in
        let one = parted c p code (statements_code site free more (place + length code)) q stand in
        let m : one.0 ≡ p + length code = stands_to c p code one.0 one.1.0 in
        let far : q ≡ one.0 + length (statements_code site free more (place + length code)) =
        stands_to c one.0 (statements_code site free more (place + length code)) q one.1.1 in
        let mid : height_at c one.0 ≡ 0 = level_behind code p one.0 low (omega (arith, far, high)) one.1.0
        (statement_lifts c rs site inside rise s free place n suits.0 fits.0) at in
        also p one.0 q
        (statement_fine s free place p one.0 n kept (omega (arith, room)) same suits.0 fits.0 one.1.0 low (omega (arith, far, high)) at
        (statements_open more free (place + length code) one.0 q one.1.1 opens))
        (statements_fine more free (place + length code) one.0 q n kept (omega (arith, room)) (omega (arith, same, m)) suits.1 fits.1 one.1.1
        (omega (arith, low, m)) high mid opens)

    branch_is_fine : (b : Branch) (free : ℕ) (later : ℕ → List Instr) (place p q n : ℕ) → base ≤ free → free + (nested_in_branch b + 1) ≤ own → place ≡ p
        → SuitsBranch rs site.names inside b → BranchFits b n → Later later
        → Stand c p (branch_code site free b later place) q → start ≤ p → q < end → height_at c p ≡ 0 → Opens site base (instr_at c q) → Fine p q
    branch_is_fine (branch labels colon s) free later place p q n kept room same suits fits behind_it stand low high at opens =
        let found = place + label_tests_size labels + 1 in
        let code = statement_code site (free + 1) s found in
        let next = found + length code + 1 in
        let others = later next in
        let out = next + length others in
        let tests = label_tests site free found labels in
        let one = parted c p tests (jump next ∷ (code ++ (jump out ∷ others))) q stand in
        let two = parted c (one.0 + 1) code (jump out ∷ others) q one.1.1.1 in
        let m1 : one.0 ≡ p + length tests = stands_to c p tests one.0 one.1.0 in
        let size : length tests ≡ label_tests_size labels = labels_size labels found free in
        let m2 : two.0 ≡ one.0 + 1 + length code = stands_to c (one.0 + 1) code two.0 two.1.0 in
        let far : q ≡ two.0 + 1 + length others = stands_to c (two.0 + 1) others q two.1.1.1 in
        let h1 : height_at c one.0 ≡ 0 = level_behind tests p one.0 low (omega (arith, m2, far, high)) one.1.0 (labels_lift c site free found labels) at in
        let h2 : height_at c (one.0 + 1) ≡ 0 = height_next one.0 (jump next) 0 0 (omega (arith, low, m1)) (omega (arith, m2, far, high)) one.1.1.0 h1 refl in
        let h3 : height_at c two.0 ≡ 0 = level_behind code (one.0 + 1) two.0 (omega (arith, low, m1)) (omega (arith, far, high)) two.1.0
        (statement_lifts c rs site inside rise s (free + 1) found n suits.1 fits) h2 in
        let h4 : height_at c (two.0 + 1) ≡ 0 = height_next two.0 (jump out) 0 0 (omega (arith, low, m1, m2)) (omega (arith, far, high)) two.1.1.0 h3 refl in
        let ended : height_at c q ≡ 0 = level_behind others (two.0 + 1) q (omega (arith, low, m1, m2)) high two.1.1.1 (behind_it.level next) h4 in
        also p one.0 q
        (labels_fine free found labels p one.0 (one.0 + 1) (omega (arith, room)) (omega (arith, same, m1, size)) one.1.0 low (omega arith)
        (omega (arith, m2, far, high))
        (record { height = h2; opener = inr (behind_jump one.0 (jump next) one.1.1.0 refl) }))
        (also one.0 (one.0 + 1) q
        (jump_fine one.0 next (two.0 + 1) (omega (arith, same, m1, size, m2)) (omega (arith, low, m1)) (omega (arith, m2, far, high))
        (omega (arith, low, m1, m2)) (omega (arith, far, high)) one.1.1.0 (inl (omega (arith, m2)))
        (record { height = h4; opener = inr (behind_jump two.0 (jump out) two.1.1.0 refl) }))
        (also (one.0 + 1) two.0 q
        (statement_fine s (free + 1) found (one.0 + 1) two.0 n (omega (arith, kept)) (omega (arith, room))
        (omega (arith, same, m1, size)) suits.1 fits two.1.0 (omega (arith, low, m1)) (omega (arith, far, high)) h2
        (opens_end two.0 (jump out) two.1.1.0 refl))
        (also two.0 (two.0 + 1) q
        (jump_fine two.0 out q (omega (arith, same, m1, size, m2, far)) (omega (arith, low, m1, m2)) (omega (arith, far, high))
        (omega (arith, low, m1, m2, far)) high two.1.1.0 (inl (omega (arith, far)))
        (record { height = ended; opener = inl opens }))
        (behind_it.fine next (two.0 + 1) q (omega (arith, same, m1, size, m2)) two.1.1.1 (omega (arith, low, m1, m2)) high h4 opens))))

    branches_fine : (bs : Branches) (free place p q n : ℕ) → base ≤ free → free + (nested_in_branches bs + 1) ≤ own → place ≡ p
        → SuitsBranches rs site.names inside bs → BranchesFit bs n
        → Stand c p (branches_code site free bs place) q → start < p → q < end → height_at c p ≡ 0 → Opens site base (instr_at c q) → Fine p q
    branches_fine no_branch free place p q n kept room same suits fits stand low high at opens =
        no_branch_fine (place + 3) p q (omega (arith, same)) stand (omega (arith, low)) high at opens
    branches_fine (next_branch line b more) free place p q n kept room same suits fits stand low high at opens =
        branch_is_fine b free (branches_code site free more) place p q n kept (omega (arith, room)) same suits.0 fits.0
        (record {
          level = λ m. branches_lift c rs site inside rise more free m n suits.1 fits.1;
          fine = λ m r u is stands above below level ends. branches_fine more free m r u n kept (omega (arith, room)) is suits.1 fits.1 stands above below
              level ends;
        })
        stand (omega (arith, low)) high at opens

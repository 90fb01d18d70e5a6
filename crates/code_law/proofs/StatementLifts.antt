-- The operand stack is empty before and behind each statement.
use Rattle.std.proofs.Common.{◌≡◌, ℕ, ◌+◌, ◌-◌, ◌≤◌, Bool, false, Some, None, Option, List, [], ◌∷◌, ◌++◌, length, refl, sym, ◌∙◌, subst, arith}
use Rattle.std.proofs.lemmas.Bool.{false≢true}
use Rattle.stack_code.specs.declared.table.Op.{Op}
use Rattle.stack_code.specs.declared.table.Op.TheVariants as op
use Rattle.stack_code.specs.declared.instr.Instr.{Instr}
use Rattle.stack_code.specs.CodeLists.{CodeLists}
use Rattle.stack_code.specs.Rules.{pops, pushes, leaves_nothing}
use Rattle.pascal_tree.specs.declared.constant.Constant.{Constant}
use Rattle.pascal_tree.specs.declared.statement.Direction.{Direction}
use Rattle.pascal_tree.specs.declared.statement.Direction.TheVariants as direction
use Rattle.pascal_tree.specs.Word.{NameAt}
use Rattle.pascal_tree.specs.Expression.{Expr, Index, Arguments}
use Rattle.pascal_tree.specs.Statement.{Labels, Statement, empty, assign, call, compound, if_then, if_else, while_do, repeat_until, for_do, case_of, Body, body, Sequence, sequence, Statements, no_statement, next_statement, Branch, branch, Branches, no_branch, next_branch}
use Rattle.pascal_tree.specs.Limits.{most_levels, ExprFits, PlaceFits, CallFits, StatementFits, BodyFits, SequenceFits, StatementsFit, BranchFits, BranchesFit}
use Rattle.pascal_mean.specs.Means.{Owner, OfProgram, OfRoutine}
use Rattle.pascal_code.specs.Instructions.{bare, push, tick, load_word, store_word}
use Rattle.pascal_code.specs.Senses.{Site, constant_value}
use Rattle.pascal_code.specs.Names.{store_code, store_element_code}
use Rattle.pascal_code.specs.Expressions.{expr_code, index_code}
use Rattle.pascal_code.specs.Statements.{load_own, store_own, jump, jump_if_false, call_statement_code, reach_op, before_op, counter_test, counter_step, label_test, more_label_tests, label_tests, label_tests_size, no_branch_code, statement_code, body_code, sequence_code, statements_code, branch_code, branches_code}
use Rattle.code_law.specs.Suits.{Routines, IsScalar, SuitsExpr, SuitsStatement, SuitsBody, SuitsSequence, SuitsStatements, SuitsBranch, SuitsBranches}
use Rattle.code_law.specs.Heights.{Lift}
use Rattle.code_law.proofs.LiftedParts.{lifts, lift_wider}

-- statements find and leave the stack empty, and have less than so many operands meanwhile
abbrev pub Level : CodeLists → List Instr → Type 0
Level c code = Lift c 0 1500 code 0 0

module _ (c : CodeLists) where
  -- words that are loaded and stored
  pub load_lift : (o : Owner) (w h n : ℕ) (rest : List Instr) → h + 1 ≤ 1500 → Lift c 0 1500 rest (h + 1) n → Lift c 0 1500 (load_word o w ∷ rest) h n
  load_lift OfProgram w h n rest low lift = (omega arith, omega arith, omega (arith, low), (λ e. cc), subst (λ j. Lift c 0 1500 rest j n) (omega arith) lift)
  load_lift OfRoutine w h n rest low lift = (omega arith, omega arith, omega (arith, low), (λ e. cc), subst (λ j. Lift c 0 1500 rest j n) (omega arith) lift)

  pub store_lift : (o : Owner) (w n : ℕ) (rest : List Instr) → Lift c 0 1500 rest 0 n → Lift c 0 1500 (store_word o w ∷ rest) 1 n
  store_lift OfProgram w n rest lift = (omega arith, omega arith, omega arith, (λ e. cc), lift)
  store_lift OfRoutine w n rest lift = (omega arith, omega arith, omega arith, (λ e. cc), lift)

  test_lifts : (site : Site) (o : Op) (w out : ℕ) → pops c o 0 ≡ 2 → pushes c o 0 ≡ 1 → leaves_nothing o ≡ false → Level c (counter_test site o w out)
  test_lifts site o w out two one none =
      let tested : 1 ≡ 2 - pops c o 0 + pushes c o 0 = omega (arith, two, one) in
      load_lift site.owner w 0 0 (load_own site (w + 1) ∷ bare o ∷ jump_if_false out ∷ []) (omega arith)
      (load_lift site.owner (w + 1) 1 0 (bare o ∷ jump_if_false out ∷ []) (omega arith) (
        omega (arith, two),
        omega arith,
        omega (arith, two, one),
        (λ e. absurd (false≢true (sym none ∙ e))),
        subst (λ j. Lift c 0 1500 (jump_if_false out ∷ []) j 0) tested (omega arith, omega arith, omega arith, (λ e. refl), refl),
      ))

  pub reach_lifts : (site : Site) (way : Direction) (w out : ℕ) → Level c (counter_test site (reach_op way) w out)
  reach_lifts site direction.To w out = test_lifts site op.Le w out refl refl refl
  reach_lifts site direction.Downto w out = test_lifts site op.Ge w out refl refl refl

  pub before_lifts : (site : Site) (way : Direction) (w out : ℕ) → Level c (counter_test site (before_op way) w out)
  before_lifts site direction.To w out = test_lifts site op.Lt w out refl refl refl
  before_lifts site direction.Downto w out = test_lifts site op.Gt w out refl refl refl

  pub step_lifts : (site : Site) (way : Direction) (w turn : ℕ) → Level c (counter_step site way w turn)
  step_lifts site direction.To w turn =
      load_lift site.owner w 0 0 (bare op.Succ ∷ store_own site w ∷ jump turn ∷ []) (omega arith)
      (omega arith, omega arith, omega arith, (λ e. cc), store_lift site.owner w 0 (jump turn ∷ []) (omega arith, omega arith, omega arith, (λ e. refl), refl))
  step_lifts site direction.Downto w turn =
      load_lift site.owner w 0 0 (bare op.Pred ∷ store_own site w ∷ jump turn ∷ []) (omega arith)
      (omega arith, omega arith, omega arith, (λ e. cc), store_lift site.owner w 0 (jump turn ∷ []) (omega arith, omega arith, omega arith, (λ e. refl), refl))

  -- the labels of a branch
  label_lifts : (site : Site) (w found : ℕ) (label : Constant) → Level c (label_test site w found label)
  label_lifts site w found label =
      load_lift site.owner w 0 0 (push (constant_value site.names label) ∷ bare op.Ne ∷ jump_if_false found ∷ []) (omega arith) (
        omega arith,
        omega arith,
        omega arith,
        (λ e. cc),
        (omega arith, omega arith, omega arith, (λ e. cc), (omega arith, omega arith, omega arith, (λ e. refl), refl)),
      )

  more_labels_lift : (site : Site) (w found : ℕ) (ls : List (ℕ × Constant)) → Level c (more_label_tests site w found ls)
  more_labels_lift site w found [] = refl
  more_labels_lift site w found (l ∷ more) =
      lifts c 0 1500 (label_test site w found l.1) (more_label_tests site w found more) 0 0 0 (label_lifts site w found l.1)
      (more_labels_lift site w found more)

  pub labels_lift : (site : Site) (w found : ℕ) (labels : Labels) → Level c (label_tests site w found labels)
  labels_lift site w found labels =
      lifts c 0 1500 (label_test site w found labels.first) (more_label_tests site w found labels.rest) 0 0 0 (label_lifts site w found labels.first)
      (more_labels_lift site w found labels.rest)

  pub no_branch_lifts : (out : ℕ) → Level c (no_branch_code out)
  no_branch_lifts out = (
    omega arith,
    omega arith,
    omega arith,
    (λ e. cc),
    (omega arith, omega arith, omega arith, (λ e. cc), (omega arith, omega arith, omega arith, (λ e. refl), refl)),
  )

-- the expressions, assignments and calls of a site lead from height to height
pub record Rise (c : CodeLists) (rs : Routines) (site : Site) (inside : Bool) : Type 0 where
  pub expr : (e : Expr) → SuitsExpr rs site.names e → ExprFits e most_levels → Lift c 1 1500 (expr_code site e) 0 1
  pub assign_name : (x : NameAt) (becomes : ℕ) (e : Expr) → SuitsStatement rs site.names inside (assign x None becomes e) → ExprFits e most_levels
      → Level c (expr_code site e ++ store_code site.result (site.names x.letters))
  pub assign_element : (x : NameAt) (i : Index) (becomes : ℕ) (e : Expr) → SuitsStatement rs site.names inside (assign x (Some i) becomes e)
      → PlaceFits (Some i)
      → ExprFits e most_levels → Level c (index_code site (site.names x.letters) i ++ (expr_code site e ++ store_element_code (site.names x.letters)))
  pub calls : (x : NameAt) (a : Option Arguments) → SuitsStatement rs site.names inside (call x a) → CallFits a → Level c (call_statement_code site x a)
  pub control : (x : NameAt) → IsScalar (site.names x.letters) → Lift c 0 1500 (store_code site.result (site.names x.letters)) 1 0

module _ (c : CodeLists) (rs : Routines) (site : Site) (inside : Bool) (rise : Rise c rs site inside) where
  -- a tick
  ticks_more : (line : ℕ) (rest : List Instr) → Level c rest → Level c (tick line ∷ rest)
  ticks_more line rest lift = (omega arith, omega arith, omega arith, (λ e. cc), lift)

  -- a jump where nothing is on the stack
  jumps_more : (a : ℕ) (rest : List Instr) → Level c rest → Level c (jump a ∷ rest)
  jumps_more a rest lift = (omega arith, omega arith, omega arith, (λ e. refl), lift)

  -- a test, and what follows the branch
  tested_more : (e : Expr) (out : ℕ) (rest : List Instr) → SuitsExpr rs site.names e → ExprFits e most_levels → Level c rest
      → Level c (expr_code site e ++ jump_if_false out ∷ rest)
  tested_more e out rest suits fits lift =
      lifts c 0 1500 (expr_code site e) (jump_if_false out ∷ rest) 0 1 0
      (lift_wider c 1 1500 0 1500 (expr_code site e) 0 1 (omega arith) (omega arith) (rise.expr e suits fits))
      (omega arith, omega arith, omega arith, (λ e. refl), lift)

  -- a value that is kept in a word
  kept_more : (e : Expr) (w : ℕ) (rest : List Instr) → SuitsExpr rs site.names e → ExprFits e most_levels → Level c rest
      → Level c (expr_code site e ++ store_own site w ∷ rest)
  kept_more e w rest suits fits lift =
      lifts c 0 1500 (expr_code site e) (store_own site w ∷ rest) 0 1 0
      (lift_wider c 1 1500 0 1500 (expr_code site e) 0 1 (omega arith) (omega arith) (rise.expr e suits fits))
      (store_lift c site.owner w 0 rest lift)

  mutual
    pub statement_lifts : (s : Statement) (free place n : ℕ) → SuitsStatement rs site.names inside s → StatementFits s n
        → Level c (statement_code site free s place)
    statement_lifts empty free place n suits fits = refl
    statement_lifts (assign x None becomes e) free place n suits fits = ticks_more x.line _ (rise.assign_name x becomes e suits fits.2)
    statement_lifts (assign x (Some i) becomes e) free place n suits fits = ticks_more x.line _ (rise.assign_element x i becomes e suits fits.1 fits.2)
    statement_lifts (call x a) free place n suits fits = ticks_more x.line _ (rise.calls x a suits fits.1)
    statement_lifts (compound b) free place n suits fits = body_lifts b free place (n - 1) suits fits.1
    statement_lifts (if_then line e then_line s) free place n suits fits =
        let first = place + length (expr_code site e) + 2 in
        ticks_more line _ (tested_more e _ (statement_code site free s first) suits.0 fits.1 (statement_lifts s free first (n - 1) suits.1 fits.2))
    statement_lifts (if_else line e then_line s else_line t) free place n suits fits =
        let first = place + length (expr_code site e) + 2 in
        let code = statement_code site free s first in
        let otherwise = first + length code + 1 in
        let others = statement_code site free t otherwise in
        let out = otherwise + length others in
        ticks_more line _ (tested_more e _ (code ++ jump out ∷ others) suits.0 fits.1
        (lifts c 0 1500 code (jump out ∷ others) 0 0 0 (statement_lifts s free first (n - 1) suits.1 fits.2)
        (jumps_more out others (statement_lifts t free otherwise (n - 1) suits.2 fits.4))))
    statement_lifts (while_do line e do_line s) free place n suits fits =
        let first = place + 1 + length (expr_code site e) + 2 in
        let code = statement_code site free s first in (
          omega arith,
          omega arith,
          omega arith,
          (λ e. cc),
          (
            omega arith,
            omega arith,
            omega arith,
            (λ e. cc),
            tested_more e (first + length code + 1) (code ++ jump (place + 1) ∷ []) suits.0 fits.1
                (lifts c 0 1500 code (jump (place + 1) ∷ []) 0 0 0 (statement_lifts s free first (n - 1) suits.1 fits.2)
                (jumps_more (place + 1) [] refl)),
          ),
        )
    statement_lifts (repeat_until line s until_line e) free place n suits fits =
        let test = expr_code site e in
        let first = place + 2 + length test + 3 in
        let code = sequence_code site free s first in
        let out = first + length code + 1 in (
          omega arith,
          omega arith,
          omega arith,
          (λ e. cc),
          (
            omega arith,
            omega arith,
            omega arith,
            (λ e. refl),
            (
              omega arith,
              omega arith,
              omega arith,
              (λ e. cc),
              (lifts c 0 1500 test (bare op.Not ∷ (jump_if_false out ∷ (code ++ jump (place + 2) ∷ []))) 0 1 0
                  (lift_wider c 1 1500 0 1500 test 0 1 (omega arith) (omega arith) (rise.expr e suits.0 fits.2)) (
                    omega arith,
                    omega arith,
                    omega arith,
                    (λ e. cc),
                    (
                      omega arith,
                      omega arith,
                      omega arith,
                      (λ e. refl),
                      lifts c 0 1500 code (jump (place + 2) ∷ []) 0 0 0 (sequence_lifts s free first (n - 1) suits.1 fits.1)
                          (jumps_more (place + 2) [] refl),
                    ),
                  )),
            ),
          ),
        )
    statement_lifts (for_do line x becomes from way way_line to do_line s) free place n suits fits =
        let lower = expr_code site from in
        let upper = expr_code site to in
        let control = store_code site.result (site.names x.letters) in
        let turn = place + length lower + length upper + 7 in
        let first = turn + length control + 2 in
        let code = statement_code site (free + 2) s first in
        let out = first + length code + 8 in
        let again = counter_test site (before_op way) free out ++ counter_step site way free turn in
        ticks_more line _ (kept_more from free _ suits.1 fits.1 (kept_more to (free + 1) _ suits.2 fits.2
        (lifts c 0 1500 (counter_test site (reach_op way) free out) (tick line ∷ (load_own site free ∷ (control ++ (code ++ again)))) 0 0 0
        (reach_lifts c site way free out) (
          omega arith,
          omega arith,
          omega arith,
          (λ e. cc),
          load_lift c site.owner free 0 0 (control ++ (code ++ again)) (omega arith)
              (lifts c 0 1500 control (code ++ again) 1 0 0 (rise.control x suits.0)
              (lifts c 0 1500 code again 0 0 0 (statement_lifts s (free + 2) first (n - 1) suits.3 fits.3)
              (lifts c 0 1500 (counter_test site (before_op way) free out) (counter_step site way free turn) 0 0 0 (before_lifts c site way free out)
              (step_lifts c site way free turn)))),
        ))))
    statement_lifts (case_of line e of_line b more end_line) free place n suits fits =
        let first = place + length (expr_code site e) + 2 in
        ticks_more line _ (kept_more e free _ suits.0 fits.1
        (branch_lifts b free (branches_code site free more) first (n - 1) suits.1 fits.2 (λ m. branches_lift more free m (n - 1) suits.2 fits.3)))

    pub body_lifts : (b : Body) (free place n : ℕ) → SuitsBody rs site.names inside b → BodyFits b n → Level c (body_code site free b place)
    body_lifts (body begin s end) free place n suits fits = sequence_lifts s free place n suits fits

    pub sequence_lifts : (s : Sequence) (free place n : ℕ) → SuitsSequence rs site.names inside s → SequenceFits s n → Level c (sequence_code site free s place)
    sequence_lifts (sequence s more) free place n suits fits =
        let code = statement_code site free s place in
        lifts c 0 1500 code (statements_code site free more (place + length code)) 0 0 0 (statement_lifts s free place n suits.0 fits.0)
        (statements_lift more free (place + length code) n suits.1 fits.1)

    pub statements_lift : (ss : Statements) (free place n : ℕ) → SuitsStatements rs site.names inside ss → StatementsFit ss n
        → Level c (statements_code site free ss place)
    statements_lift no_statement free place n suits fits = refl
    statements_lift (next_statement line s more) free place n suits fits =
        let code = statement_code site free s place in
        lifts c 0 1500 code (statements_code site free more (place + length code)) 0 0 0 (statement_lifts s free place n suits.0 fits.0)
        (statements_lift more free (place + length code) n suits.1 fits.1)

    pub branch_lifts : (b : Branch) (free : ℕ) (later : ℕ → List Instr) (place n : ℕ) → SuitsBranch rs site.names inside b → BranchFits b n
        → ((m : ℕ) → Level c (later m))
        → Level c (branch_code site free b later place)
    branch_lifts (branch labels colon s) free later place n suits fits lift =
        let found = place + label_tests_size labels + 1 in
        let code = statement_code site (free + 1) s found in
        let next = found + length code + 1 in
        let others = later next in
        let out = next + length others in
        lifts c 0 1500 (label_tests site free found labels) (jump next ∷ (code ++ (jump out ∷ others))) 0 0 0 (labels_lift c site free found labels)
        (jumps_more next _ (lifts c 0 1500 code (jump out ∷ others) 0 0 0 (statement_lifts s (free + 1) found n suits.1 fits)
        (jumps_more out others (lift next))))

    pub branches_lift : (bs : Branches) (free place n : ℕ) → SuitsBranches rs site.names inside bs → BranchesFit bs n
        → Level c (branches_code site free bs place)
    branches_lift no_branch free place n suits fits = no_branch_lifts c (place + 3)
    branches_lift (next_branch line b more) free place n suits fits =
        branch_lifts b free (branches_code site free more) place n suits.0 fits.0 (λ m. branches_lift more free m n suits.1 fits.1)

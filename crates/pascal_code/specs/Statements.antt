-- The code of statements. It begins with a TICK on the line of the statement's first word.
use Rattle.std.specs.Prelude.{ℕ, ◌+◌, ◌*◌, List, [], ◌∷◌, ◌++◌, length, Option, Some, None, pos, negsuc}
use Rattle.stack_code.specs.declared.table.Op.{Op}
use Rattle.stack_code.specs.declared.table.Op.TheVariants as op
use Rattle.stack_code.specs.declared.instr.Instr.{Instr}
use Rattle.pascal_tree.specs.declared.constant.Constant.{Constant}
use Rattle.pascal_tree.specs.declared.statement.Direction.{Direction}
use Rattle.pascal_tree.specs.declared.statement.Direction.TheVariants as direction
use Rattle.pascal_tree.specs.Word.{NameAt}
use Rattle.pascal_tree.specs.Expression.{Arguments}
use Rattle.pascal_tree.specs.Statement.{Labels, Statement, empty, assign, call, compound, if_then, if_else, while_do, repeat_until, for_do, case_of, Body, body, Sequence, sequence, Statements, no_statement, next_statement, Branch, branch, Branches, no_branch, next_branch}
use Rattle.pascal_code.specs.Instructions.{bare, with_a, push, tick, test_index, load_word, store_word}
use Rattle.pascal_code.specs.Senses.{Site, constant_value}
use Rattle.pascal_code.specs.Names.{store_code, store_element_code}
use Rattle.pascal_code.specs.Calls.{passing_of, given_arguments, call_code}
use Rattle.pascal_code.specs.Expressions.{expr_code, index_code, arguments_code}

-- the words of a FOR and of a CASE lie in the frame of the statements in which they stand
abbrev pub load_own : Site → ℕ → Instr
load_own site a = load_word site.owner a

abbrev pub store_own : Site → ℕ → Instr
store_own site a = store_word site.owner a

abbrev pub jump : ℕ → Instr
jump place = with_a op.Jump place

abbrev pub jump_if_false : ℕ → Instr
jump_if_false place = with_a op.JumpF place

-- ---- Calls

abbrev pub call_statement_code : Site → NameAt → Option Arguments → List Instr
call_statement_code site x None = call_code site.result (site.names x.letters) []
call_statement_code site x (Some a) =
    let callee = site.names x.letters in
    arguments_code site callee (passing_of callee) a ++ call_code site.result callee (given_arguments site a)

-- ---- FOR

-- whether a counter hasn't passed the last value, whether it hasn't reached it, and the step to the next
abbrev pub reach_op : Direction → Op
reach_op direction.To = op.Le
reach_op direction.Downto = op.Ge

abbrev pub before_op : Direction → Op
before_op direction.To = op.Lt
before_op direction.Downto = op.Gt

abbrev pub step_op : Direction → Op
step_op direction.To = op.Succ
step_op direction.Downto = op.Pred

-- the counter's word and that of the last value are compared, and where the test fails the loop is left
abbrev pub counter_test : Site → Op → ℕ → ℕ → List Instr
counter_test site test counter out =
    load_own site counter ∷ load_own site (counter + 1) ∷ bare test ∷ jump_if_false out ∷ []

-- the counter's next value, and the next turn
abbrev pub counter_step : Site → Direction → ℕ → ℕ → List Instr
counter_step site way counter turn =
    load_own site counter ∷ bare (step_op way) ∷ store_own site counter ∷ jump turn ∷ []

-- ---- CASE

-- the selector's word is compared with a label: where they are one, the statement is done
abbrev pub label_test : Site → ℕ → ℕ → Constant → List Instr
label_test site selector found label =
    load_own site selector ∷ push (constant_value site.names label) ∷ bare op.Ne ∷ jump_if_false found ∷ []

abbrev pub more_label_tests : Site → ℕ → ℕ → List (ℕ × Constant) → List Instr
more_label_tests site selector found [] = []
more_label_tests site selector found (l ∷ more) =
    label_test site selector found l.1 ++ more_label_tests site selector found more

abbrev pub label_tests : Site → ℕ → ℕ → Labels → List Instr
label_tests site selector found labels =
    label_test site selector found labels.first ++ more_label_tests site selector found labels.rest

-- each test takes four instructions
abbrev pub label_tests_size : Labels → ℕ
label_tests_size labels = 4 * (length labels.rest + 1)

-- -1 is no index of an array from 0 to 0: a value without a branch is a range error
abbrev pub no_branch_code : ℕ → List Instr
no_branch_code out =
    push (negsuc 0) ∷ test_index (record { low = pos 0; high = pos 0 }) ∷ jump_if_false out ∷ []

-- ---- Statements

-- The code of a part that stands from a place on, where the words of the frame from a number on are free for
-- FOR and CASE: a FOR takes two for what stands inside it, a CASE one, and what follows takes them again.
-- `out` is the place behind the statement's code.
abbrev mutual
  pub statement_code : Site → ℕ → Statement → ℕ → List Instr
  statement_code site free empty place = []
  statement_code site free (assign x None becomes e) place =
      tick x.line ∷ (expr_code site e ++ store_code site.result (site.names x.letters))
  statement_code site free (assign x (Some i) becomes e) place =
      let array = site.names x.letters in
      tick x.line ∷ (index_code site array i ++ (expr_code site e ++ store_element_code array))
  statement_code site free (call x a) place = tick x.line ∷ call_statement_code site x a
  statement_code site free (compound b) place = body_code site free b place
  statement_code site free (if_then line e then_line s) place =
      let test = expr_code site e in
      let first = place + length test + 2 in
      let inside = statement_code site free s first in
      let out = first + length inside in
      tick line ∷ (test ++ (jump_if_false out ∷ inside))
  statement_code site free (if_else line e then_line s else_line t) place =
      let test = expr_code site e in
      let first = place + length test + 2 in
      let inside = statement_code site free s first in
      let otherwise = first + length inside + 1 in
      let others = statement_code site free t otherwise in
      let out = otherwise + length others in
      tick line ∷ (test ++ (jump_if_false otherwise ∷ (inside ++ (jump out ∷ others))))
  statement_code site free (while_do line e do_line s) place =
      let turn = place + 1 in
      let test = expr_code site e in
      let first = turn + length test + 2 in
      let inside = statement_code site free s first in
      let out = first + length inside + 1 in
      tick line ∷ (tick line ∷ (test ++ (jump_if_false out ∷ (inside ++ jump turn ∷ []))))
  statement_code site free (repeat_until line s until_line e) place =
      let turn = place + 2 in
      let test = expr_code site e in
      let first = turn + length test + 3 in
      let inside = sequence_code site free s first in
      let out = first + length inside + 1 in
      tick line ∷ (jump first ∷ (tick line ∷ (test ++ (bare op.Not ∷ (jump_if_false out
      ∷ (inside ++ jump turn ∷ []))))))
  statement_code site free (for_do line x becomes from way way_line to do_line s) place =
      let lower = expr_code site from in
      let upper = expr_code site to in
      let control = store_code site.result (site.names x.letters) in
      let turn = place + length lower + length upper + 7 in
      let first = turn + length control + 2 in
      let inside = statement_code site (free + 2) s first in
      let out = first + length inside + 8 in
      tick line ∷ (lower ++ (store_own site free ∷ (upper ++ (store_own site (free + 1)
      ∷ (counter_test site (reach_op way) free out
      ++ (tick line ∷ (load_own site free ∷ (control ++ (inside
      ++ (counter_test site (before_op way) free out ++ counter_step site way free turn))))))))))
  statement_code site free (case_of line e of_line b more end_line) place =
      let selector = expr_code site e in
      let first = place + length selector + 2 in
      let branches = branch_code site free b (branches_code site free more) first in
      tick line ∷ (selector ++ (store_own site free ∷ branches))

  pub body_code : Site → ℕ → Body → ℕ → List Instr
  body_code site free (body begin s end) place = sequence_code site free s place

  pub sequence_code : Site → ℕ → Sequence → ℕ → List Instr
  sequence_code site free (sequence s more) place =
      let first = statement_code site free s place in
      first ++ statements_code site free more (place + length first)

  pub statements_code : Site → ℕ → Statements → ℕ → List Instr
  statements_code site free no_statement place = []
  statements_code site free (next_statement line s more) place =
      let first = statement_code site free s place in
      first ++ statements_code site free more (place + length first)

  -- a branch, and what stands behind it as a function of its place
  pub branch_code : Site → ℕ → Branch → (ℕ → List Instr) → ℕ → List Instr
  branch_code site free (branch labels colon s) later place =
      let found = place + label_tests_size labels + 1 in
      let inside = statement_code site (free + 1) s found in
      let next = found + length inside + 1 in
      let others = later next in
      let out = next + length others in
      label_tests site free found labels ++ (jump next ∷ (inside ++ (jump out ∷ others)))

  pub branches_code : Site → ℕ → Branches → ℕ → List Instr
  branches_code site free no_branch place = no_branch_code (place + 3)
  branches_code site free (next_branch line b more) place =
      branch_code site free b (branches_code site free more) place

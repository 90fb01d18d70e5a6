-- Operands that the instructions of a program don't use are 0.
use Rattle.std.proofs.Common.{◌≡◌, ℕ, zero, suc, ◌+◌, ◌<◌, true, Option, Some, None, List, [], ◌∷◌, ◌++◌, length, pos, negsuc, ℤ, refl, sym, ◌∙◌, true≢false, arith}
use Rattle.std.specs.Prelude.{slice_index_or}
use Rattle.std.specs.List.{AllByRecursion}
use Rattle.solo_base.specs.declared.interface.Procedure.{Procedure}
use Rattle.stack_code.specs.declared.table.Op.{Op}
use Rattle.stack_code.specs.declared.table.Op.TheVariants as op
use Rattle.stack_code.specs.declared.instr.Instr.{Instr}
use Rattle.stack_code.specs.Table.{row}
use Rattle.stack_code.specs.CodeLists.{UsesItsOperands, instr_at, no_instr}
use Rattle.pascal_tree.specs.declared.constant.Constant as constants
use Rattle.pascal_tree.specs.declared.expression.Sign.{Sign}
use Rattle.pascal_tree.specs.declared.expression.Sign.TheVariants as sign
use Rattle.pascal_tree.specs.declared.statement.Direction.{Direction}
use Rattle.pascal_tree.specs.Word.{NameAt}
use Rattle.pascal_tree.specs.Expression.{Expr, alone, compared, Simple, simple, Addends, no_addend, addend, Term, term, Multipliers, no_multiplier, multiplier, Factor, number, character, named, element, called, group, negated, Index, index, Arguments, arguments, Exprs, no_expr, next_expr}
use Rattle.pascal_tree.specs.Program.{Program}
use Rattle.pascal_tree.specs.Statement.{Labels, Statement, empty, assign, call, compound, if_then, if_else, while_do, repeat_until, for_do, case_of, Body, body, Sequence, sequence, Statements, no_statement, next_statement, Branch, branch, Branches, no_branch, next_branch}
use Rattle.pascal_mean.specs.Means.{Owner, OfProgram, OfRoutine, Bounds, Standard, Abs, Succ, Pred, Ord, Chr}
use Rattle.pascal_mean.specs.Variables.{size_of}
use Rattle.pascal_mean.specs.Calls.{Passing, ByValue, ByVariable, ByArray, row_passing}
use Rattle.pascal_mean.specs.Expressions.{name_in}
use Rattle.pascal_code.specs.Frames.{declared_words}
use Rattle.pascal_code.specs.Instructions.{bare, with_a, with_both, push, operand, tick, test_index, load_word, store_word, load_element, store_element, refer, call_with_array}
use Rattle.pascal_code.specs.Senses.{Sense, Constant, Variable, Array, Reference, Routine, Function, Interface, Nothing, Site, Framed, all_framed, site_of, constant_value}
use Rattle.pascal_code.specs.Names.{name_code, store_code, reference_code, test_code, element_code, store_element_code}
use Rattle.pascal_code.specs.Calls.{row_number, standard_code, passing_of, variable_code, passed_code, given_arguments, variables_among, arrays_among, array_call, row_call, stores_code, call_code}
use Rattle.pascal_code.specs.Expressions.{relation_op, adding_op, multiplying_op, sign_code, expr_code, simple_code, addends_code, term_code, multipliers_code, factor_code, index_code, arguments_code, exprs_code}
use Rattle.pascal_code.specs.Statements.{load_own, store_own, jump, jump_if_false, reach_op, before_op, step_op, call_statement_code, counter_test, counter_step, label_test, more_label_tests, label_tests, label_tests_size, no_branch_code, statement_code, body_code, sequence_code, statements_code, branch_code, branches_code}
use Rattle.pascal_code.specs.Code.{ending, routine_code, instrs_from, code_of}

-- instructions whose operands that aren't used are 0
abbrev pub UseTheirs : List Instr → Type 0
UseTheirs is = AllByRecursion UsesItsOperands is

uses_more : (first rest : List Instr) → UseTheirs first → UseTheirs rest → UseTheirs (first ++ rest)
uses_more [] rest one two = two
uses_more (i ∷ first) rest one two = (one.0, uses_more first rest one.1 two)

-- ---- Single instructions

bare_uses : (o : Op) → UsesItsOperands (bare o)
bare_uses o = record { a = λ no. refl; b = λ no. refl }

a_uses : (o : Op) (a : ℕ) → (row o).uses_a ≡ true → UsesItsOperands (with_a o a)
a_uses o a is = record { a = λ no. absurd (true≢false (sym is ∙ no)); b = λ no. refl }

both_use : (o : Op) (a b : ℕ) → (row o).uses_a ≡ true → (row o).uses_b ≡ true → UsesItsOperands (with_both o a b)
both_use o a b is is_too = record { a = λ no. absurd (true≢false (sym is ∙ no)); b = λ no. absurd (true≢false (sym is_too ∙ no)) }

push_uses : (v : ℤ) → UsesItsOperands (push v)
push_uses v = a_uses op.Push (operand v) refl

tick_uses : (line : ℕ) → UsesItsOperands (tick line)
tick_uses line = both_use op.Tick _ _ refl refl

test_uses : (b : Bounds) → UsesItsOperands (test_index b)
test_uses b = both_use op.Index (operand b.low) (operand b.high) refl refl

load_uses : (o : Owner) (a : ℕ) → UsesItsOperands (load_word o a)
load_uses OfProgram a = a_uses op.LoadG a refl
load_uses OfRoutine a = a_uses op.LoadL a refl

store_uses : (o : Owner) (a : ℕ) → UsesItsOperands (store_word o a)
store_uses OfProgram a = a_uses op.StoreG a refl
store_uses OfRoutine a = a_uses op.StoreL a refl

load_element_uses : (o : Owner) (a n : ℕ) → UsesItsOperands (load_element o a n)
load_element_uses OfProgram a n = both_use op.LoadGX a n refl refl
load_element_uses OfRoutine a n = both_use op.LoadLX a n refl refl

store_element_uses : (o : Owner) (a n : ℕ) → UsesItsOperands (store_element o a n)
store_element_uses OfProgram a n = both_use op.StoreGX a n refl refl
store_element_uses OfRoutine a n = both_use op.StoreLX a n refl refl

refer_uses : (o : Owner) (a : ℕ) → UsesItsOperands (refer o a)
refer_uses OfProgram a = a_uses op.RefG a refl
refer_uses OfRoutine a = a_uses op.RefL a refl

array_row_uses : (o : Owner) (n a : ℕ) → UsesItsOperands (call_with_array o n a)
array_row_uses OfProgram n a = both_use op.SysG n a refl refl
array_row_uses OfRoutine n a = both_use op.SysL n a refl refl

jump_uses : (place : ℕ) → UsesItsOperands (jump place)
jump_uses place = a_uses op.Jump place refl

jump_if_false_uses : (place : ℕ) → UsesItsOperands (jump_if_false place)
jump_if_false_uses place = a_uses op.JumpF place refl

sign_uses : (s : Option (Sign × ℕ)) → UseTheirs (sign_code s)
sign_uses None = tt
sign_uses (Some (sign.Plus, line)) = tt
sign_uses (Some (sign.Minus, line)) = (bare_uses op.Neg, tt)

standard_uses : (f : Standard) → UseTheirs (standard_code f)
standard_uses Abs = (bare_uses op.Abs, tt)
standard_uses Succ = (bare_uses op.Succ, tt)
standard_uses Pred = (bare_uses op.Pred, tt)
standard_uses Ord = tt
standard_uses Chr = (bare_uses op.Chr, tt)

-- ---- Names

name_uses : (m : Sense) → UseTheirs (name_code m)
name_uses (Constant v) = (push_uses v, tt)
name_uses (Variable o a) = (load_uses o a, tt)
name_uses (Reference a) = (a_uses op.LoadR a refl, tt)
name_uses (Routine k passing) = (a_uses op.Call k refl, tt)
name_uses (Array o a b) = tt
name_uses (Function f) = tt
name_uses (Interface p) = tt
name_uses Nothing = tt

set_uses : (result : ℕ) (m : Sense) → UseTheirs (store_code result m)
set_uses result (Variable o a) = (store_uses o a, tt)
set_uses result (Reference a) = (a_uses op.StoreR a refl, tt)
set_uses result (Routine k passing) = (store_uses OfRoutine result, tt)
set_uses result (Constant v) = tt
set_uses result (Array o a b) = tt
set_uses result (Function f) = tt
set_uses result (Interface p) = tt
set_uses result Nothing = tt

reference_uses : (m : Sense) → UseTheirs (reference_code m)
reference_uses (Variable o a) = (refer_uses o a, tt)
reference_uses (Reference a) = (load_uses OfRoutine a, (load_uses OfRoutine (a + 1), tt))
reference_uses (Constant v) = tt
reference_uses (Array o a b) = tt
reference_uses (Routine k passing) = tt
reference_uses (Function f) = tt
reference_uses (Interface p) = tt
reference_uses Nothing = tt

test_code_uses : (m : Sense) → UseTheirs (test_code m)
test_code_uses (Array o a b) = (test_uses b, tt)
test_code_uses (Constant v) = tt
test_code_uses (Variable o a) = tt
test_code_uses (Reference a) = tt
test_code_uses (Routine k passing) = tt
test_code_uses (Function f) = tt
test_code_uses (Interface p) = tt
test_code_uses Nothing = tt

element_uses : (m : Sense) → UseTheirs (element_code m)
element_uses (Array o a b) = (load_element_uses o a (size_of b), tt)
element_uses (Constant v) = tt
element_uses (Variable o a) = tt
element_uses (Reference a) = tt
element_uses (Routine k passing) = tt
element_uses (Function f) = tt
element_uses (Interface p) = tt
element_uses Nothing = tt

set_element_uses : (m : Sense) → UseTheirs (store_element_code m)
set_element_uses (Array o a b) = (store_element_uses o a (size_of b), tt)
set_element_uses (Constant v) = tt
set_element_uses (Variable o a) = tt
set_element_uses (Reference a) = tt
set_element_uses (Routine k passing) = tt
set_element_uses (Function f) = tt
set_element_uses (Interface p) = tt
set_element_uses Nothing = tt

-- ---- Calls

variable_uses : (callee given : Sense) → UseTheirs (variable_code callee given)
variable_uses (Routine k passing) given = reference_uses given
variable_uses (Interface p) given = tt
variable_uses (Constant v) given = tt
variable_uses (Variable o a) given = tt
variable_uses (Array o a b) given = tt
variable_uses (Reference a) given = tt
variable_uses (Function f) given = tt
variable_uses Nothing given = tt

passed_uses : (callee : Sense) (by : Passing) (given : Sense) (value : List Instr) → UseTheirs value → UseTheirs (passed_code callee by given value)
passed_uses callee ByValue given value all = all
passed_uses callee ByVariable given value all = variable_uses callee given
passed_uses callee ByArray given value all = tt

array_call_uses : (p : Procedure) (m : Sense) → UsesItsOperands (array_call p m)
array_call_uses p (Array o a b) = array_row_uses o (row_number p) a
array_call_uses p (Constant v) = a_uses op.Sys (row_number p) refl
array_call_uses p (Variable o a) = a_uses op.Sys (row_number p) refl
array_call_uses p (Reference a) = a_uses op.Sys (row_number p) refl
array_call_uses p (Routine k passing) = a_uses op.Sys (row_number p) refl
array_call_uses p (Function f) = a_uses op.Sys (row_number p) refl
array_call_uses p (Interface q) = a_uses op.Sys (row_number p) refl
array_call_uses p Nothing = a_uses op.Sys (row_number p) refl

row_call_uses : (p : Procedure) (arrays : List Sense) → UsesItsOperands (row_call p arrays)
row_call_uses p [] = a_uses op.Sys (row_number p) refl
row_call_uses p (m ∷ more) = array_call_uses p m

stores_use : (result : ℕ) (given : List Sense) → UseTheirs (stores_code result given)
stores_use result [] = tt
stores_use result (m ∷ later) = uses_more (stores_code result later) (store_code result m) (stores_use result later) (set_uses result m)

call_uses : (result : ℕ) (m : Sense) (given : List Sense) → UseTheirs (call_code result m given)
call_uses result (Routine k passing) given = (a_uses op.Call k refl, tt)
call_uses result (Function f) given = standard_uses f
call_uses result (Interface p) given =
    (row_call_uses p (arrays_among (row_passing p) given), stores_use result (variables_among (row_passing p) given))
call_uses result (Constant v) given = tt
call_uses result (Variable o a) given = tt
call_uses result (Array o a b) given = tt
call_uses result (Reference a) given = tt
call_uses result Nothing given = tt

-- ---- Expressions

module _ (site : Site) where
  mutual
    expr_uses : (e : Expr) → UseTheirs (expr_code site e)
    expr_uses (alone s) = simple_uses s
    expr_uses (compared s r line t) =
        uses_more (simple_code site s) (simple_code site t ++ bare (relation_op r) ∷ []) (simple_uses s)
        (uses_more (simple_code site t) (bare (relation_op r) ∷ []) (simple_uses t) (bare_uses (relation_op r), tt))

    simple_uses : (s : Simple) → UseTheirs (simple_code site s)
    simple_uses (simple sign t more) =
        uses_more (term_code site t) (sign_code sign ++ addends_code site more) (term_uses t)
        (uses_more (sign_code sign) (addends_code site more) (sign_uses sign) (addends_use more))

    addends_use : (a : Addends) → UseTheirs (addends_code site a)
    addends_use no_addend = tt
    addends_use (addend a line t more) =
        uses_more (term_code site t) (bare (adding_op a) ∷ addends_code site more) (term_uses t) (bare_uses (adding_op a), addends_use more)

    term_uses : (t : Term) → UseTheirs (term_code site t)
    term_uses (term f more) = uses_more (factor_code site f) (multipliers_code site more) (factor_uses f) (multipliers_use more)

    multipliers_use : (m : Multipliers) → UseTheirs (multipliers_code site m)
    multipliers_use no_multiplier = tt
    multipliers_use (multiplier m line f more) =
        uses_more (factor_code site f) (bare (multiplying_op m) ∷ multipliers_code site more) (factor_uses f)
        (bare_uses (multiplying_op m), multipliers_use more)

    factor_uses : (f : Factor) → UseTheirs (factor_code site f)
    factor_uses (number n) = (push_uses (pos n.value), tt)
    factor_uses (character x) = (push_uses (pos x.code), tt)
    factor_uses (named x) = name_uses (site.names x.letters)
    factor_uses (element x i) =
        let array = site.names x.letters in
        uses_more (index_code site array i) (element_code array) (index_uses array i) (element_uses array)
    factor_uses (called x a) =
        let callee = site.names x.letters in
        uses_more (arguments_code site callee (passing_of callee) a) (call_code site.result callee (given_arguments site a))
        (arguments_use callee (passing_of callee) a) (call_uses site.result callee (given_arguments site a))
    factor_uses (group opening e closing) = expr_uses e
    factor_uses (negated line f) = uses_more (factor_code site f) (bare op.Not ∷ []) (factor_uses f) (bare_uses op.Not, tt)

    index_uses : (array : Sense) (i : Index) → UseTheirs (index_code site array i)
    index_uses array (index opening e closing) = uses_more (expr_code site e) (test_code array) (expr_uses e) (test_code_uses array)

    arguments_use : (callee : Sense) (by : List Passing) (a : Arguments) → UseTheirs (arguments_code site callee by a)
    arguments_use callee [] (arguments opening e more closing) = tt
    arguments_use callee (by ∷ others) (arguments opening e more closing) =
        uses_more (passed_code callee by (site.names (name_in e)) (expr_code site e)) (exprs_code site callee others more)
        (passed_uses callee by (site.names (name_in e)) (expr_code site e) (expr_uses e)) (exprs_use callee others more)

    exprs_use : (callee : Sense) (by : List Passing) (e : Exprs) → UseTheirs (exprs_code site callee by e)
    exprs_use callee by no_expr = tt
    exprs_use callee [] (next_expr comma e more) = tt
    exprs_use callee (by ∷ others) (next_expr comma e more) =
        uses_more (passed_code callee by (site.names (name_in e)) (expr_code site e)) (exprs_code site callee others more)
        (passed_uses callee by (site.names (name_in e)) (expr_code site e) (expr_uses e)) (exprs_use callee others more)

  -- ---- Parts of statements
  call_statement_uses : (x : NameAt) (a : Option Arguments) → UseTheirs (call_statement_code site x a)
  call_statement_uses x None = call_uses site.result (site.names x.letters) []
  call_statement_uses x (Some a) =
      let callee = site.names x.letters in
      uses_more (arguments_code site callee (passing_of callee) a) (call_code site.result callee (given_arguments site a))
      (arguments_use callee (passing_of callee) a) (call_uses site.result callee (given_arguments site a))

  own_load_uses : (a : ℕ) → UsesItsOperands (load_own site a)
  own_load_uses a = load_uses site.owner a

  own_store_uses : (a : ℕ) → UsesItsOperands (store_own site a)
  own_store_uses a = store_uses site.owner a

  counter_test_uses : (test : Op) (counter out : ℕ) → UseTheirs (counter_test site test counter out)
  counter_test_uses test counter out =
      (own_load_uses counter, (own_load_uses (counter + 1), (bare_uses test, (jump_if_false_uses out, tt))))

  counter_step_uses : (way : Direction) (counter turn : ℕ) → UseTheirs (counter_step site way counter turn)
  counter_step_uses way counter turn =
      (own_load_uses counter, (bare_uses (step_op way), (own_store_uses counter, (jump_uses turn, tt))))

  label_uses : (selector found : ℕ) (label : constants.Constant) → UseTheirs (label_test site selector found label)
  label_uses selector found label =
      (own_load_uses selector, (push_uses (constant_value site.names label), (bare_uses op.Ne, (jump_if_false_uses found, tt))))

  more_labels_use : (selector found : ℕ) (labels : List (ℕ × constants.Constant)) → UseTheirs (more_label_tests site selector found labels)
  more_labels_use selector found [] = tt
  more_labels_use selector found (l ∷ more) =
      uses_more (label_test site selector found l.1) (more_label_tests site selector found more) (label_uses selector found l.1)
      (more_labels_use selector found more)

  labels_use : (selector found : ℕ) (labels : Labels) → UseTheirs (label_tests site selector found labels)
  labels_use selector found labels =
      uses_more (label_test site selector found labels.first) (more_label_tests site selector found labels.rest)
      (label_uses selector found labels.first) (more_labels_use selector found labels.rest)

  no_branch_uses : (out : ℕ) → UseTheirs (no_branch_code out)
  no_branch_uses out = (push_uses (negsuc 0), (test_uses (record { low = pos 0; high = pos 0 }), (jump_if_false_uses out, tt)))

  -- ---- Statements
  mutual
    statement_uses : (free : ℕ) (s : Statement) (place : ℕ) → UseTheirs (statement_code site free s place)
    statement_uses free empty place = tt
    statement_uses free (assign x None becomes e) place = (
      tick_uses x.line,
      uses_more (expr_code site e) (store_code site.result (site.names x.letters)) (expr_uses e)
          (set_uses site.result (site.names x.letters)),
    )
    statement_uses free (assign x (Some i) becomes e) place =
        let array = site.names x.letters in (
          tick_uses x.line,
          uses_more (index_code site array i) (expr_code site e ++ store_element_code array) (index_uses array i)
              (uses_more (expr_code site e) (store_element_code array) (expr_uses e) (set_element_uses array)),
        )
    statement_uses free (call x a) place = (tick_uses x.line, call_statement_uses x a)
    statement_uses free (compound b) place = body_uses free b place
    statement_uses free (if_then line e then_line s) place =
        let test = expr_code site e in
        let first = place + length test + 2 in
        let inside = statement_code site free s first in
        let out = first + length inside in
        (tick_uses line, uses_more test (jump_if_false out ∷ inside) (expr_uses e) (jump_if_false_uses out, statement_uses free s first))
    statement_uses free (if_else line e then_line s else_line t) place =
        let test = expr_code site e in
        let first = place + length test + 2 in
        let inside = statement_code site free s first in
        let otherwise = first + length inside + 1 in
        let others = statement_code site free t otherwise in
        let out = otherwise + length others in (
          tick_uses line,
          uses_more test (jump_if_false otherwise ∷ (inside ++ (jump out ∷ others))) (expr_uses e) (
            jump_if_false_uses otherwise,
            uses_more inside (jump out ∷ others) (statement_uses free s first)
                (jump_uses out, statement_uses free t otherwise),
          ),
        )
    statement_uses free (while_do line e do_line s) place =
        let turn = place + 1 in
        let test = expr_code site e in
        let first = turn + length test + 2 in
        let inside = statement_code site free s first in
        let out = first + length inside + 1 in (
          tick_uses line,
          (
            tick_uses line,
            uses_more test (jump_if_false out ∷ (inside ++ jump turn ∷ [])) (expr_uses e)
                (jump_if_false_uses out, uses_more inside (jump turn ∷ []) (statement_uses free s first) (jump_uses turn, tt)),
          ),
        )
    statement_uses free (repeat_until line s until_line e) place =
        let turn = place + 2 in
        let test = expr_code site e in
        let first = turn + length test + 3 in
        let inside = sequence_code site free s first in
        let out = first + length inside + 1 in (
          tick_uses line,
          (
            jump_uses first,
            (
              tick_uses line,
              uses_more test (bare op.Not ∷ (jump_if_false out ∷ (inside ++ jump turn ∷ [])))
                  (expr_uses e) (
                    bare_uses op.Not,
                    (
                      jump_if_false_uses out,
                      uses_more inside (jump turn ∷ []) (sequence_uses free s first)
                          (jump_uses turn, tt),
                    ),
                  ),
            ),
          ),
        )
    statement_uses free (for_do line x becomes from way way_line to do_line s) place =
        let lower = expr_code site from in
        let upper = expr_code site to in
        let control = store_code site.result (site.names x.letters) in
        let turn = place + length lower + length upper + 7 in
        let first = turn + length control + 2 in
        let inside = statement_code site (free + 2) s first in
        let out = first + length inside + 8 in
        let again = counter_test site (before_op way) free out ++ counter_step site way free turn in
        let turns = tick line ∷ (load_own site free ∷ (control ++ (inside ++ again))) in
        let begun = counter_test site (reach_op way) free out ++ turns in (
          tick_uses line,
          uses_more lower (store_own site free ∷ (upper ++ (store_own site (free + 1) ∷ begun))) (expr_uses from) (
            own_store_uses free,
            uses_more upper (store_own site (free + 1) ∷ begun) (expr_uses to) (
              own_store_uses (free + 1),
              uses_more (counter_test site (reach_op way) free out) turns (counter_test_uses (reach_op way) free out) (
                tick_uses line,
                (
                  own_load_uses free,
                  uses_more control (inside ++ again) (set_uses site.result (site.names x.letters))
                      (uses_more inside again (statement_uses (free + 2) s first)
                      (uses_more (counter_test site (before_op way) free out) (counter_step site way free turn)
                      (counter_test_uses (before_op way) free out) (counter_step_uses way free turn))),
                ),
              ),
            ),
          ),
        )
    statement_uses free (case_of line e of_line b more end_line) place =
        let selector = expr_code site e in
        let first = place + length selector + 2 in
        let branches = branch_code site free b (branches_code site free more) first in (
          tick_uses line,
          uses_more selector (store_own site free ∷ branches) (expr_uses e)
              (own_store_uses free, branch_uses free b (branches_code site free more) first (λ m. branches_use free more m)),
        )

    body_uses : (free : ℕ) (b : Body) (place : ℕ) → UseTheirs (body_code site free b place)
    body_uses free (body begin s end) place = sequence_uses free s place

    sequence_uses : (free : ℕ) (s : Sequence) (place : ℕ) → UseTheirs (sequence_code site free s place)
    sequence_uses free (sequence s more) place =
        let first = statement_code site free s place in
        uses_more first (statements_code site free more (place + length first)) (statement_uses free s place)
        (statements_use free more (place + length first))

    statements_use : (free : ℕ) (s : Statements) (place : ℕ) → UseTheirs (statements_code site free s place)
    statements_use free no_statement place = tt
    statements_use free (next_statement line s more) place =
        let first = statement_code site free s place in
        uses_more first (statements_code site free more (place + length first)) (statement_uses free s place)
        (statements_use free more (place + length first))

    branch_uses : (free : ℕ) (b : Branch) (later : ℕ → List Instr) (place : ℕ) → ((m : ℕ) → UseTheirs (later m))
        → UseTheirs (branch_code site free b later place)
    branch_uses free (branch labels colon s) later place all =
        let found = place + label_tests_size labels + 1 in
        let inside = statement_code site (free + 1) s found in
        let next = found + length inside + 1 in
        let others = later next in
        let out = next + length others in
        uses_more (label_tests site free found labels) (jump next ∷ (inside ++ (jump out ∷ others))) (labels_use free found labels)
        (jump_uses next, uses_more inside (jump out ∷ others) (statement_uses (free + 1) s found) (jump_uses out, all next))

    branches_use : (free : ℕ) (b : Branches) (place : ℕ) → UseTheirs (branches_code site free b place)
    branches_use free no_branch place = no_branch_uses (place + 3)
    branches_use free (next_branch line b more) place =
        branch_uses free b (branches_code site free more) place (λ m. branches_use free more m)

-- ---- Routines

ending_uses : (o : Owner) → UsesItsOperands (ending o)
ending_uses OfProgram = bare_uses op.Halt
ending_uses OfRoutine = bare_uses op.Return

pub routine_uses : (r : Framed) (start : ℕ) → UseTheirs (routine_code r start)
routine_uses r start =
    uses_more (body_code (site_of r) (declared_words r.frame) (r.declared).body start) (ending r.owner ∷ [])
    (body_uses (site_of r) (declared_words r.frame) (r.declared).body start) (ending_uses r.owner, tt)

pub routines_use : (all : List Framed) (start : ℕ) → UseTheirs (instrs_from all start)
routines_use [] start = tt
routines_use (r ∷ more) start =
    let code = routine_code r start in
    uses_more code (instrs_from more (start + length code)) (routine_uses r start) (routines_use more (start + length code))

-- at each place
uses_at : (is : List Instr) → UseTheirs is → (x : ℕ) → x < length is → UsesItsOperands (slice_index_or is x no_instr)
uses_at [] all x low = absurd (omega (arith, low))
uses_at (i ∷ is) all zero low = all.0
uses_at (i ∷ is) all (suc x) low = uses_at is all.1 x (omega (arith, low))

pub operands_used : (p : Program) (x : ℕ) → x < length (code_of p).instrs → UsesItsOperands (instr_at (code_of p) x)
unfolding code_of
operands_used p x low = uses_at (instrs_from (all_framed p) 0) (routines_use (all_framed p) 0) x low

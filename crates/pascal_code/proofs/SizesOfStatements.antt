-- How many instructions statements and programs have.
use Rattle.std.proofs.Common.{◌≡◌, ℕ, ◌+◌, ◌*◌, List, [], ◌∷◌, ◌++◌, length, arith, refl, ap, ◌∙◌, length-append, Option, Some, None}
use Rattle.stack_code.specs.declared.table.Op.TheVariants as op
use Rattle.stack_code.specs.declared.instr.Instr.{Instr}
use Rattle.pascal_tree.specs.declared.constant.Constant.{Constant}
use Rattle.pascal_tree.specs.Word.{NameAt}
use Rattle.pascal_tree.specs.Expression.{Arguments}
use Rattle.pascal_tree.specs.Statement.{Labels, Statement, empty, assign, call, compound, if_then, if_else, while_do, repeat_until, for_do, case_of, Body, body, Sequence, sequence, Statements, no_statement, next_statement, Branch, branch, Branches, no_branch, next_branch}
use Rattle.pascal_mean.specs.Calls.{passing_named}
use Rattle.pascal_code.specs.Instructions.{bare, tick}
use Rattle.pascal_mean.specs.Scope.{Scope}
use Rattle.pascal_code.specs.Senses.{AreSenses, sense, Site}
use Rattle.pascal_code.specs.Names.{store_code, store_element_code}
use Rattle.pascal_code.specs.Calls.{passing_of, given_arguments, call_code}
use Rattle.pascal_code.specs.Expressions.{expr_code, index_code, arguments_code}
use Rattle.pascal_code.specs.Statements.{load_own, store_own, jump, jump_if_false, call_statement_code, reach_op, before_op, counter_test, counter_step, more_label_tests, label_tests, label_tests_size, statement_code, body_code, sequence_code, statements_code, branch_code, branches_code}
use Rattle.pascal_code.specs.Size.{store_size, array_size, call_statement_size, labels_size, statement_size, body_size, sequence_size, statements_size, branch_size, branches_size}
use Rattle.pascal_code.proofs.SensesAgree.{passing_alike}
use Rattle.pascal_code.proofs.SizesOfNames.{store_sized, store_element_sized, call_sized, bare_call_sized}
use Rattle.pascal_code.proofs.SizesOfExpressions.{two, expr_sized, index_sized, arguments_sized}

tests_sized : (site : Site) (selector found : ℕ) (more : List (ℕ × Constant))
    → length (more_label_tests site selector found more) ≡ 4 * length more
tests_sized site selector found [] = refl
tests_sized site selector found (l ∷ more) = omega (arith, tests_sized site selector found more)

pub labels_sized : (site : Site) (selector found : ℕ) (l : Labels)
    → length (label_tests site selector found l) ≡ labels_size l
labels_sized site selector found l = omega (arith, tests_sized site selector found l.rest)

module _ (site : Site) (scope : Scope) (are : AreSenses scope site.names) where
  control_sized : (x : List ℕ) → length (store_code site.result (site.names x)) ≡ store_size (scope x)
  control_sized x =
      ap (λ s. length (store_code site.result s)) (are x).1 ∙ store_sized site.result (scope x) (are x).0

  call_statement_sized : (x : NameAt) (a : Option Arguments)
      → length (call_statement_code site x a) ≡ call_statement_size scope x a
  call_statement_sized x None =
      ap (λ s. length (call_code site.result s [])) (are x.letters).1
      ∙ bare_call_sized site.result (scope x.letters) (are x.letters).0
  call_statement_sized x (Some a) =
      let m = scope x.letters in let s = site.names x.letters in let n = (are x.letters).0 in
      let is : s ≡ sense m n = (are x.letters).1 in
      two (arguments_code site s (passing_of s) a) (call_code site.result s (given_arguments site a)) _ _
      (ap (λ p. length (arguments_code site s p a)) (ap passing_of is ∙ passing_alike m n)
      ∙ arguments_sized site scope are m s (n, is) (passing_named m) a)
      (ap (λ c. length (call_code site.result c (given_arguments site a))) is ∙ call_sized site scope are m n a)

  mutual
    pub statement_sized : (s : Statement) (free place : ℕ)
        → length (statement_code site free s place) ≡ statement_size scope s
    statement_sized empty free place = refl
    statement_sized (assign x None becomes e) free place =
        omega (
          arith,
          length-append (expr_code site e) (store_code site.result (site.names x.letters)),
          expr_sized site scope are e,
          control_sized x.letters,
        )
    statement_sized (assign x (Some i) becomes e) free place =
        let s = site.names x.letters in
        let stored : length (store_element_code s) ≡ array_size (scope x.letters) =
        ap (λ t. length (store_element_code t)) (are x.letters).1
        ∙ store_element_sized (scope x.letters) (are x.letters).0 in
        omega (
          arith,
          length-append (index_code site s i) (expr_code site e ++ store_element_code s),
          length-append (expr_code site e) (store_element_code s),
          index_sized site scope are (scope x.letters) s (are x.letters) i,
          expr_sized site scope are e,
          stored,
        )
    statement_sized (call x a) free place = omega (arith, call_statement_sized x a)
    statement_sized (compound b) free place = body_sized b free place
    statement_sized (if_then line e then_line s) free place =
        let test = expr_code site e in
        let first = place + length test + 2 in
        let inside = statement_code site free s first in
        omega (
          arith,
          length-append test (jump_if_false (first + length inside) ∷ inside),
          expr_sized site scope are e,
          statement_sized s free first,
        )
    statement_sized (if_else line e then_line s else_line t) free place =
        let test = expr_code site e in
        let first = place + length test + 2 in
        let inside = statement_code site free s first in
        let otherwise = first + length inside + 1 in
        let others = statement_code site free t otherwise in
        let behind = jump (otherwise + length others) ∷ others in
        omega (
          arith,
          length-append test (jump_if_false otherwise ∷ (inside ++ behind)),
          length-append inside behind,
          expr_sized site scope are e,
          statement_sized s free first,
          statement_sized t free otherwise,
        )
    statement_sized (while_do line e do_line s) free place =
        let test = expr_code site e in
        let first = (place + 1) + length test + 2 in
        let inside = statement_code site free s first in
        let behind = inside ++ jump (place + 1) ∷ [] in
        omega (
          arith,
          length-append test (jump_if_false (first + length inside + 1) ∷ behind),
          length-append inside (jump (place + 1) ∷ []),
          expr_sized site scope are e,
          statement_sized s free first,
        )
    statement_sized (repeat_until line s until_line e) free place =
        let test = expr_code site e in
        let first = (place + 2) + length test + 3 in
        let inside = sequence_code site free s first in
        let behind = inside ++ jump (place + 2) ∷ [] in
        omega (
          arith,
          length-append test (bare op.Not ∷ (jump_if_false (first + length inside + 1) ∷ behind)),
          length-append inside (jump (place + 2) ∷ []),
          expr_sized site scope are e,
          sequence_sized s free first,
        )
    statement_sized (for_do line x becomes from way way_line to do_line s) free place =
        let lower = expr_code site from in
        let upper = expr_code site to in
        let control = store_code site.result (site.names x.letters) in
        let turn = place + length lower + length upper + 7 in
        let first = turn + length control + 2 in
        let inside = statement_code site (free + 2) s first in
        let out = first + length inside + 8 in
        let ending = counter_test site (before_op way) free out ++ counter_step site way free turn in
        let behind = tick line ∷ (load_own site free ∷ (control ++ (inside ++ ending))) in
        let later = counter_test site (reach_op way) free out ++ behind in
        omega (
          arith,
          length-append lower (store_own site free ∷ (upper ++ (store_own site (free + 1) ∷ later))),
          length-append upper (store_own site (free + 1) ∷ later),
          length-append control (inside ++ ending),
          length-append inside ending,
          expr_sized site scope are from,
          expr_sized site scope are to,
          control_sized x.letters,
          statement_sized s (free + 2) first,
        )
    statement_sized (case_of line e of_line b more end_line) free place =
        let selector = expr_code site e in
        let first = place + length selector + 2 in
        let branches = branch_code site free b (branches_code site free more) first in
        omega (
          arith,
          length-append selector (store_own site free ∷ branches),
          expr_sized site scope are e,
          branch_sized b free (branches_code site free more) (branches_size scope more) (branches_sized more free) first,
        )

    pub body_sized : (b : Body) (free place : ℕ) → length (body_code site free b place) ≡ body_size scope b
    body_sized (body begin s end) free place = sequence_sized s free place

    sequence_sized : (s : Sequence) (free place : ℕ)
        → length (sequence_code site free s place) ≡ sequence_size scope s
    sequence_sized (sequence s more) free place =
        let first = statement_code site free s place in
        two first (statements_code site free more (place + length first)) _ _
        (statement_sized s free place) (statements_sized more free (place + length first))

    statements_sized : (s : Statements) (free place : ℕ)
        → length (statements_code site free s place) ≡ statements_size scope s
    statements_sized no_statement free place = refl
    statements_sized (next_statement line s more) free place =
        let first = statement_code site free s place in
        two first (statements_code site free more (place + length first)) _ _
        (statement_sized s free place) (statements_sized more free (place + length first))

    branch_sized : (b : Branch) (free : ℕ) (later : ℕ → List Instr) (n : ℕ)
        → ((q : ℕ) → length (later q) ≡ n) → (place : ℕ)
        → length (branch_code site free b later place) ≡ branch_size scope b + n
    branch_sized (branch labels colon s) free later n each place =
        let found = place + label_tests_size labels + 1 in
        let inside = statement_code site (free + 1) s found in
        let next = found + length inside + 1 in
        let others = later next in
        let behind = jump (next + length others) ∷ others in
        omega (
          arith,
          length-append (label_tests site free found labels) (jump next ∷ (inside ++ behind)),
          length-append inside behind,
          labels_sized site free found labels,
          statement_sized s (free + 1) found,
          each next,
        )

    branches_sized : (b : Branches) (free place : ℕ)
        → length (branches_code site free b place) ≡ branches_size scope b
    branches_sized no_branch free place = refl
    branches_sized (next_branch line b more) free place =
        branch_sized b free (branches_code site free more) (branches_size scope more) (branches_sized more free) place

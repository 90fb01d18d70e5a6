use Rattle.std.proofs.Common.{◌≡◌, ℕ, ◌+◌, ◌<◌, ◌++◌, ◌&&◌, [], Some, None, drop, length, refl, ap, sym, subst, ◌∙◌, arith, rules}
use Rattle.std.specs.Result.{OnOk}
use Rattle.std.proofs.lemmas.Result.{IfErr-weaker}
use Rattle.pascal_tree.specs.Scopes.{is_scalar}
use Rattle.pascal_tree.specs.SeenExpression.{seen_expr}
use Rattle.pascal_tree.specs.SeenStatement.{seen_labels, seen_case, seen_statement, seen_sequence, seen_statements, seen_branch, seen_branches}
use Rattle.pascal_tree.specs.ExpressionRules.{judged_expr, expr_type}
use Rattle.pascal_tree.specs.StatementRules.{judged_statement, judged_sequence, judged_statements, judged_branch, judged_branches, judged_labels, judged_control, values_of_branch}
use Rattle.pascal_tree.specs.DeclarationRules.{first_broken}
use Rattle.pascal_tree.specs.declared.scalar.Scalar.TheVariants as scalar
use Rattle.pascal_tree.specs.declared.statement.If.{out-If}
use Rattle.pascal_tree.specs.declared.statement.While.{out-While}
use Rattle.pascal_tree.specs.declared.statement.Repeat.{out-Repeat}
use Rattle.pascal_tree.specs.declared.statement.For.{out-For}
use Rattle.pascal_tree.specs.declared.statement.Case.{out-Case}
use Rattle.pascal_tree.specs.declared.statement.Branch.{out-Branch}
use Rattle.pascal_tree.specs.declared.statement.Statements.{out-Statements}
use Rattle.pascal_check.specs.Faults.{IsFault}
use Rattle.pascal_check.specs.declared.fault.CheckFault.TheVariants as fault
use Rattle.pascal_check.proofs.Firsts.{first_behind}
use Rattle.pascal_check.proofs.Turns.{next_item}
use Rattle.pascal_check.proofs.Faulty.{err_is, fault_here, fault_same}
use Rattle.pascal_check.proofs.SeenParts.{seen_otherwise, seen_while_is, seen_repeat_is, seen_for_is, seen_case_is, seen_sequence_is}
use Rattle.pascal_check.proofs.JudgedStatements.{if_nodes, if_test, else_test, for_control, case_nodes, case_behind, branch_nodes}
use Rattle.pascal_check.proofs.Judging.{test_of, test_kept, test_broken, otherwise_of, fault_in, fault_second, fault_third, behind_two}
use Rattle.pascal_check.proofs.statements.+judge_statement.Goals as goal

-- ---- WHILE

pub judge_while-returns-in_err-test-clause-broken : goal.judge_while-returns-in_err-test-clause-broken
judge_while-returns-in_err-test-clause-broken t c =
    let s = c.args.scope.now in
    let k = out-While c.args.repeated.now in
    let e = seen_expr k.test in
    let x = seen_statement k.turn in
    let b = c.in_err-test.field-0.0 in
    err_is c.from_residual.result _ _ c.from_residual.ensures.1
    (fault_in s (fault.Semantic b.line b.rule) (seen_while_is c.args.repeated.now)
    (fault_here (judged_expr s e) (judged_statement s x ++ test_of s e k.line) (fault.Semantic b.line b.rule) c.in_err-test.ensures.broken))

pub judge_while-returns-in_err-judge_statement-clause-broken : goal.judge_while-returns-in_err-judge_statement-clause-broken
judge_while-returns-in_err-judge_statement-clause-broken t c =
    let s = c.args.scope.now in
    let k = out-While c.args.repeated.now in
    let e = seen_expr k.test in
    let f = c.in_err-judge_statement.field-0.0 in
    err_is c.from_residual-in_err-judge_statement.result _ _ c.from_residual-in_err-judge_statement.ensures.1
    (fault_in s f (seen_while_is c.args.repeated.now)
    (fault_second (judged_expr s e) (judged_statement s (seen_statement k.turn)) (test_of s e k.line) f c.in_ok-test.ensures.ok
    c.in_err-judge_statement.ensures.broken))

pub judge_while-returns-in_err-judge_test-clause-broken : goal.judge_while-returns-in_err-judge_test-clause-broken
judge_while-returns-in_err-judge_test-clause-broken t c =
    let s = c.args.scope.now in
    let k = out-While c.args.repeated.now in
    let e = seen_expr k.test in
    let b = c.in_err-judge_test.field-0.0 in
    err_is c.from_residual-in_err-judge_test.result _ _ c.from_residual-in_err-judge_test.ensures.1
    (ap (λ x. first_broken (judged_statement s x)) (seen_while_is c.args.repeated.now)
    ∙ behind_two (judged_expr s e) (judged_statement s (seen_statement k.turn)) (test_of s e k.line) c.in_ok-test.ensures.ok c.in_ok-judge_statement.ensures.ok
    ∙ test_broken s e k.line c.in_ok-test.test b c.in_ok-test.ensures.typed c.in_err-judge_test.ensures.broken)

pub judge_while-returns-clause-ok : goal.judge_while-returns-clause-ok
judge_while-returns-clause-ok t c =
    let s = c.args.scope.now in
    let k = out-While c.args.repeated.now in
    let e = seen_expr k.test in
    ap (λ x. first_broken (judged_statement s x)) (seen_while_is c.args.repeated.now)
    ∙ behind_two (judged_expr s e) (judged_statement s (seen_statement k.turn)) (test_of s e k.line) c.in_ok-test.ensures.ok c.in_ok-judge_statement.ensures.ok
    ∙ test_kept s e k.line c.in_ok-test.test c.in_ok-test.ensures.typed c.in_ok-judge_test.ensures.ok

-- ---- REPEAT

pub judge_repeat-returns-in_err-judge_sequence-clause-broken : goal.judge_repeat-returns-in_err-judge_sequence-clause-broken
judge_repeat-returns-in_err-judge_sequence-clause-broken t c =
    let s = c.args.scope.now in
    let k = out-Repeat c.args.repeated.now in
    let e = seen_expr k.test in
    let f = c.in_err-judge_sequence.field-0.0 in
    err_is c.from_residual.result _ _ c.from_residual.ensures.1
    (fault_in s f (seen_repeat_is c.args.repeated.now)
    (fault_here (judged_sequence s (seen_sequence k.turn)) (judged_expr s e ++ test_of s e k.until) f c.in_err-judge_sequence.ensures.broken))

pub judge_repeat-returns-in_err-test-clause-broken : goal.judge_repeat-returns-in_err-test-clause-broken
judge_repeat-returns-in_err-test-clause-broken t c =
    let s = c.args.scope.now in
    let k = out-Repeat c.args.repeated.now in
    let e = seen_expr k.test in
    let b = c.in_err-test.field-0.0 in
    err_is c.from_residual-in_err-test.result _ _ c.from_residual-in_err-test.ensures.1
    (fault_in s (fault.Semantic b.line b.rule) (seen_repeat_is c.args.repeated.now)
    (fault_second (judged_sequence s (seen_sequence k.turn)) (judged_expr s e) (test_of s e k.until) (fault.Semantic b.line b.rule)
    c.in_ok-judge_sequence.ensures.ok c.in_err-test.ensures.broken))

pub judge_repeat-returns-in_err-judge_test-clause-broken : goal.judge_repeat-returns-in_err-judge_test-clause-broken
judge_repeat-returns-in_err-judge_test-clause-broken t c =
    let s = c.args.scope.now in
    let k = out-Repeat c.args.repeated.now in
    let e = seen_expr k.test in
    let b = c.in_err-judge_test.field-0.0 in
    err_is c.from_residual-in_err-judge_test.result _ _ c.from_residual-in_err-judge_test.ensures.1
    (ap (λ x. first_broken (judged_statement s x)) (seen_repeat_is c.args.repeated.now)
    ∙ behind_two (judged_sequence s (seen_sequence k.turn)) (judged_expr s e) (test_of s e k.until) c.in_ok-judge_sequence.ensures.ok c.in_ok-test.ensures.ok
    ∙ test_broken s e k.until c.in_ok-test.test b c.in_ok-test.ensures.typed c.in_err-judge_test.ensures.broken)

pub judge_repeat-returns-clause-ok : goal.judge_repeat-returns-clause-ok
judge_repeat-returns-clause-ok t c =
    let s = c.args.scope.now in
    let k = out-Repeat c.args.repeated.now in
    let e = seen_expr k.test in
    ap (λ x. first_broken (judged_statement s x)) (seen_repeat_is c.args.repeated.now)
    ∙ behind_two (judged_sequence s (seen_sequence k.turn)) (judged_expr s e) (test_of s e k.until) c.in_ok-judge_sequence.ensures.ok c.in_ok-test.ensures.ok
    ∙ test_kept s e k.until c.in_ok-test.test c.in_ok-test.ensures.typed c.in_ok-judge_test.ensures.ok

-- ---- IF

pub judge_if-returns-in_err-test-clause-broken : goal.judge_if-returns-in_err-test-clause-broken
judge_if-returns-in_err-test-clause-broken t c =
    let s = c.args.scope.now in
    let i = c.args.conditional.now in
    let k = out-If i in
    let e = seen_expr k.test in
    let b = c.in_err-test.field-0.0 in
    let later = judged_statement s (seen_statement k.first) ++ (otherwise_of s (seen_otherwise k.otherwise) ++ test_of s e k.line) in
    err_is c.from_residual.result _ _ c.from_residual.ensures.1
    (subst (λ j. IsFault j (fault.Semantic b.line b.rule)) (sym (if_nodes s i k.otherwise refl))
    (fault_here (judged_expr s e) later (fault.Semantic b.line b.rule) c.in_err-test.ensures.broken))

pub judge_if-returns-in_err-judge_statement-clause-broken : goal.judge_if-returns-in_err-judge_statement-clause-broken
judge_if-returns-in_err-judge_statement-clause-broken t c =
    let s = c.args.scope.now in
    let i = c.args.conditional.now in
    let k = out-If i in
    let e = seen_expr k.test in
    let f = c.in_err-judge_statement.field-0.0 in
    let later = otherwise_of s (seen_otherwise k.otherwise) ++ test_of s e k.line in
    err_is c.from_residual-in_err-judge_statement.result _ _ c.from_residual-in_err-judge_statement.ensures.1
    (subst (λ j. IsFault j f) (sym (if_nodes s i k.otherwise refl))
    (fault_second (judged_expr s e) (judged_statement s (seen_statement k.first)) later f c.in_ok-test.ensures.ok c.in_err-judge_statement.ensures.broken))

pub judge_if-returns-in_err-judge_statement-in-Some-clause-broken : goal.judge_if-returns-in_err-judge_statement-in-Some-clause-broken
judge_if-returns-in_err-judge_statement-in-Some-clause-broken t c =
    let s = c.args.scope.now in
    let i = c.args.conditional.now in
    let k = out-If i in
    let e = seen_expr k.test in
    let f = c.in_err-judge_statement-in-Some.field-0.0 in
    let second : k.otherwise ≡ Some (c.in-Some.field-0-0, c.in-Some.second) = search rules in
    err_is c.from_residual-in_err-judge_statement-in-Some.result _ _ c.from_residual-in_err-judge_statement-in-Some.ensures.1
    (subst (λ j. IsFault j f) (sym (if_nodes s i (Some (c.in-Some.field-0-0, c.in-Some.second)) second))
    (fault_third (judged_expr s e) (judged_statement s (seen_statement k.first)) (judged_statement s (seen_statement c.in-Some.second)) (test_of s e k.line) f
    c.in_ok-test.ensures.ok c.in_ok-judge_statement.ensures.ok c.in_err-judge_statement-in-Some.ensures.broken))

pub judge_if-returns-in_err-judge_test-in-None-clause-broken : goal.judge_if-returns-in_err-judge_test-in-None-clause-broken
judge_if-returns-in_err-judge_test-in-None-clause-broken t c =
    let s = c.args.scope.now in
    let i = c.args.conditional.now in
    let b = c.in_err-judge_test-in-None.field-0.0 in
    err_is c.from_residual-in_err-judge_test-in-None.result _ _ c.from_residual-in_err-judge_test-in-None.ensures.1
    (if_test s i c.in-None.is c.in_ok-test.ensures.ok c.in_ok-judge_statement.ensures.ok
    ∙ test_broken s (seen_expr (out-If i).test) (out-If i).line c.in_ok-test.test b c.in_ok-test.ensures.typed c.in_err-judge_test-in-None.ensures.broken)

pub judge_if-returns-in_err-judge_test-in-Some-clause-broken : goal.judge_if-returns-in_err-judge_test-in-Some-clause-broken
judge_if-returns-in_err-judge_test-in-Some-clause-broken t c =
    let s = c.args.scope.now in
    let i = c.args.conditional.now in
    let b = c.in_err-judge_test-in-Some.field-0.0 in
    let second : (out-If i).otherwise ≡ Some (c.in-Some.field-0-0, c.in-Some.second) = search rules in
    err_is c.from_residual-in_err-judge_test-in-Some.result _ _ c.from_residual-in_err-judge_test-in-Some.ensures.1
    (else_test s i c.in-Some.field-0-0 c.in-Some.second second c.in_ok-test.ensures.ok c.in_ok-judge_statement.ensures.ok
    c.in_ok-judge_statement-in-Some.ensures.ok
    ∙ test_broken s (seen_expr (out-If i).test) (out-If i).line c.in_ok-test.test b c.in_ok-test.ensures.typed c.in_err-judge_test-in-Some.ensures.broken)

pub judge_if-returns-in_ok-judge_test-in-None-clause-ok : goal.judge_if-returns-in_ok-judge_test-in-None-clause-ok
judge_if-returns-in_ok-judge_test-in-None-clause-ok t c =
    let s = c.args.scope.now in
    let i = c.args.conditional.now in
    if_test s i c.in-None.is c.in_ok-test.ensures.ok c.in_ok-judge_statement.ensures.ok
    ∙ test_kept s (seen_expr (out-If i).test) (out-If i).line c.in_ok-test.test c.in_ok-test.ensures.typed c.in_ok-judge_test-in-None.ensures.ok

pub judge_if-returns-in_ok-judge_test-in-Some-clause-ok : goal.judge_if-returns-in_ok-judge_test-in-Some-clause-ok
judge_if-returns-in_ok-judge_test-in-Some-clause-ok t c =
    let s = c.args.scope.now in
    let i = c.args.conditional.now in
    let second : (out-If i).otherwise ≡ Some (c.in-Some.field-0-0, c.in-Some.second) = search rules in
    else_test s i c.in-Some.field-0-0 c.in-Some.second second c.in_ok-test.ensures.ok c.in_ok-judge_statement.ensures.ok
    c.in_ok-judge_statement-in-Some.ensures.ok
    ∙ test_kept s (seen_expr (out-If i).test) (out-If i).line c.in_ok-test.test c.in_ok-test.ensures.typed c.in_ok-judge_test-in-Some.ensures.ok

-- ---- FOR

pub judge_for-returns-in_err-from-clause-broken : goal.judge_for-returns-in_err-from-clause-broken
judge_for-returns-in_err-from-clause-broken t c =
    let s = c.args.scope.now in
    let k = out-For c.args.repeated.now in
    let e = seen_expr k.from in
    let u = seen_expr k.to in
    let last = judged_control s k.control (is_scalar (expr_type s e) scalar.Integer && is_scalar (expr_type s u) scalar.Integer) k.line in
    let b = c.in_err-from.field-0.0 in
    err_is c.from_residual.result _ _ c.from_residual.ensures.1
    (fault_in s (fault.Semantic b.line b.rule) (seen_for_is c.args.repeated.now)
    (fault_here (judged_expr s e) (judged_expr s u ++ (judged_statement s (seen_statement k.turn) ++ last)) (fault.Semantic b.line b.rule)
    c.in_err-from.ensures.broken))

pub judge_for-returns-in_err-to-clause-broken : goal.judge_for-returns-in_err-to-clause-broken
judge_for-returns-in_err-to-clause-broken t c =
    let s = c.args.scope.now in
    let k = out-For c.args.repeated.now in
    let e = seen_expr k.from in
    let u = seen_expr k.to in
    let last = judged_control s k.control (is_scalar (expr_type s e) scalar.Integer && is_scalar (expr_type s u) scalar.Integer) k.line in
    let b = c.in_err-to.field-0.0 in
    err_is c.from_residual-in_err-to.result _ _ c.from_residual-in_err-to.ensures.1
    (fault_in s (fault.Semantic b.line b.rule) (seen_for_is c.args.repeated.now)
    (fault_second (judged_expr s e) (judged_expr s u) (judged_statement s (seen_statement k.turn) ++ last) (fault.Semantic b.line b.rule)
    c.in_ok-from.ensures.ok c.in_err-to.ensures.broken))

pub judge_for-returns-in_err-judge_statement-clause-broken : goal.judge_for-returns-in_err-judge_statement-clause-broken
judge_for-returns-in_err-judge_statement-clause-broken t c =
    let s = c.args.scope.now in
    let k = out-For c.args.repeated.now in
    let e = seen_expr k.from in
    let u = seen_expr k.to in
    let last = judged_control s k.control (is_scalar (expr_type s e) scalar.Integer && is_scalar (expr_type s u) scalar.Integer) k.line in
    let f = c.in_err-judge_statement.field-0.0 in
    err_is c.from_residual-in_err-judge_statement.result _ _ c.from_residual-in_err-judge_statement.ensures.1
    (fault_in s f (seen_for_is c.args.repeated.now)
    (fault_third (judged_expr s e) (judged_expr s u) (judged_statement s (seen_statement k.turn)) last f
    c.in_ok-from.ensures.ok c.in_ok-to.ensures.ok c.in_err-judge_statement.ensures.broken))

pub judge_for-returns-in_err-judge_control-clause-broken : goal.judge_for-returns-in_err-judge_control-clause-broken
judge_for-returns-in_err-judge_control-clause-broken t c =
    err_is c.from_residual-in_err-judge_control.result _ _ c.from_residual-in_err-judge_control.ensures.1
    (for_control c.args.scope.now c.args.repeated.now c.in_ok-from.from c.in_ok-to.to c.in_ok-from.ensures.ok c.in_ok-from.ensures.typed
    c.in_ok-to.ensures.ok c.in_ok-to.ensures.typed c.in_ok-judge_statement.ensures.ok
    ∙ c.in_err-judge_control.ensures.broken)

pub judge_for-returns-clause-ok : goal.judge_for-returns-clause-ok
judge_for-returns-clause-ok t c =
    for_control c.args.scope.now c.args.repeated.now c.in_ok-from.from c.in_ok-to.to c.in_ok-from.ensures.ok c.in_ok-from.ensures.typed
    c.in_ok-to.ensures.ok c.in_ok-to.ensures.typed c.in_ok-judge_statement.ensures.ok
    ∙ c.in_ok-judge_control.ensures.ok

-- ---- CASE

pub judge_case-returns-in_err-selector-clause-broken : goal.judge_case-returns-in_err-selector-clause-broken
judge_case-returns-in_err-selector-clause-broken t c =
    let s = c.args.scope.now in
    let k = out-Case c.args.choice.now in
    let e = seen_expr k.selector in
    let first = seen_branch k.first in
    let later = judged_branches s (expr_type s e) (values_of_branch s [] first) (seen_branches k.rest.items) in
    let b = c.in_err-selector.field-0.0 in
    err_is c.from_residual.result _ _ c.from_residual.ensures.1
    (fault_in s (fault.Semantic b.line b.rule) (seen_case_is c.args.choice.now)
    (fault_here (judged_expr s e) (judged_branch s (expr_type s e) [] first ++ later) (fault.Semantic b.line b.rule) c.in_err-selector.ensures.broken))

pub judge_case-returns-in_err-judge_branch-clause-broken : goal.judge_case-returns-in_err-judge_branch-clause-broken
judge_case-returns-in_err-judge_branch-clause-broken t c =
    let s = c.args.scope.now in
    let k = out-Case c.args.choice.now in
    let o = Some c.in_ok-selector.selector in
    let first = seen_branch k.first in
    let later = judged_branches s o (values_of_branch s [] first) (seen_branches k.rest.items) in
    let f = c.in_err-judge_branch.field-0.0 in
    err_is c.from_residual-in_err-judge_branch.result _ _ c.from_residual-in_err-judge_branch.ensures.1
    (subst (λ j. IsFault j f) (sym (case_nodes s c.args.choice.now c.in_ok-selector.selector c.in_ok-selector.ensures.typed))
    (fault_second (judged_expr s (seen_expr k.selector)) (judged_branch s o [] first) later f c.in_ok-selector.ensures.ok
    (subst (λ v. IsFault (judged_branch s o v first) f) c.new-earlier.ensures.empty c.in_err-judge_branch.ensures.broken)))

pub judge_case-returns-clause-ok : goal.judge_case-returns-clause-ok
judge_case-returns-clause-ok t c =
    let same = case_behind c.args.scope.now c.args.choice.now c.in_ok-selector.selector c.new-earlier.result c.judge_branch.new.earlier
    c.new-earlier.ensures.empty c.in_ok-judge_branch.ensures.values c.in_ok-selector.ensures.ok c.in_ok-selector.ensures.typed c.in_ok-judge_branch.ensures.ok
    ∙ ap (λ l. first_broken (judged_branches c.args.scope.now (Some c.in_ok-selector.selector) c.judge_branch.new.earlier (seen_branches l)))
    (sym c.deref.ensures.value) in
    subst (λ o. OnOk c.judge_branches.result (o ≡ None)) (sym same) c.judge_branches.ensures.ok

pub judge_case-returns-clause-broken : goal.judge_case-returns-clause-broken
judge_case-returns-clause-broken t c =
    let s = c.args.scope.now in
    let o = Some c.in_ok-selector.selector in
    let keys = c.judge_branch.new.earlier in
    let inner = judged_branches s o keys (seen_branches c.deref.result.now) in
    let outer = judged_statement s (seen_case c.args.choice.now) in
    let same = case_behind s c.args.choice.now c.in_ok-selector.selector c.new-earlier.result keys
    c.new-earlier.ensures.empty c.in_ok-judge_branch.ensures.values c.in_ok-selector.ensures.ok c.in_ok-selector.ensures.typed c.in_ok-judge_branch.ensures.ok
    ∙ ap (λ l. first_broken (judged_branches s o keys (seen_branches l))) (sym c.deref.ensures.value) in
    IfErr-weaker c.judge_branches.result (IsFault inner) (IsFault outer) (λ f is. fault_same outer inner f same is) c.judge_branches.ensures.broken

-- ---- Branches

pub judge_branch-returns-in_err-judge_labels-clause-broken : goal.judge_branch-returns-in_err-judge_labels-clause-broken
judge_branch-returns-in_err-judge_labels-clause-broken t c =
    let s = c.args.scope.now in
    let o = Some c.args.selector in
    let keys = c.args.earlier.now in
    let k = out-Branch c.args.branch.now in
    let f = c.in_err-judge_labels.field-0.0 in
    err_is c.from_residual.result _ _ c.from_residual.ensures.1
    (subst (λ j. IsFault j f) (sym (branch_nodes s o keys c.args.branch.now))
    (fault_here (judged_labels s o keys (seen_labels k.labels)) (judged_statement s (seen_statement k.statement)) f c.in_err-judge_labels.ensures.broken))

branch_behind : {t : ℕ} (c : goal.judge_branch-After-judge_statement t)
    → first_broken (judged_branch c.args.scope.now (Some c.args.selector) c.args.earlier.now (seen_branch c.args.branch.now))
    ≡ first_broken (judged_statement c.args.scope.now (seen_statement (out-Branch c.args.branch.now).statement))
branch_behind c =
    let s = c.args.scope.now in
    let o = Some c.args.selector in
    let keys = c.args.earlier.now in
    let k = out-Branch c.args.branch.now in
    ap first_broken (branch_nodes s o keys c.args.branch.now)
    ∙ first_behind (judged_labels s o keys (seen_labels k.labels)) (judged_statement s (seen_statement k.statement)) c.in_ok-judge_labels.ensures.ok

pub judge_branch-returns-clause-ok : goal.judge_branch-returns-clause-ok
judge_branch-returns-clause-ok t c = subst (λ o. OnOk c.judge_statement.result (o ≡ None)) (sym (branch_behind c)) c.judge_statement.ensures.ok

pub judge_branch-returns-clause-broken : goal.judge_branch-returns-clause-broken
judge_branch-returns-clause-broken t c =
    let s = c.args.scope.now in
    let inner = judged_statement s (seen_statement (out-Branch c.args.branch.now).statement) in
    let outer = judged_branch s (Some c.args.selector) c.args.earlier.now (seen_branch c.args.branch.now) in
    IfErr-weaker c.judge_statement.result (IsFault inner) (IsFault outer) (λ f is. fault_same outer inner f (branch_behind c) is)
    c.judge_statement.ensures.broken

pub judge_branches-returns-in_err-judge_branch-clause-broken : goal.judge_branches-returns-in_err-judge_branch-clause-broken
judge_branches-returns-in_err-judge_branch-clause-broken t c =
    let s = c.args.scope.now in
    let o = Some c.args.selector in
    let bs = c.args.branches.now in
    let k = c.loop-branch.branch-index in
    let x = c.loop-branch-item.result in
    let keys = c.loop-branch.earlier in
    let below : k < length bs = omega arith in
    let here = judged_branch s o keys (seen_branch x.1) in
    let more = judged_branches s o (values_of_branch s keys (seen_branch x.1)) (seen_branches (drop (k + 1) bs)) in
    let same = sym c.loop-branch.invariant ∙ ap (λ l. first_broken (judged_branches s o keys (seen_branches l)))
    (next_item bs k x c.loop-branch-item.is below) in
    let f = c.in_err-judge_branch.field-0.0 in
    err_is c.from_residual.result _ _ c.from_residual.ensures.1
    (fault_same (judged_branches s o c.args.earlier.now (seen_branches bs)) (here ++ more) f same
    (fault_here here more f c.in_err-judge_branch.ensures.broken))

pub judge_branches-loop-branch-preserved : goal.judge_branches-loop-branch-preserved
judge_branches-loop-branch-preserved t c =
    let s = c.args.scope.now in
    let o = Some c.args.selector in
    let bs = c.args.branches.now in
    let k = c.loop-branch.branch-index in
    let x = c.loop-branch-item.result in
    let keys = c.loop-branch.earlier in
    let below : k < length bs = omega arith in
    let rest = seen_branches (drop (k + 1) bs) in
    ap (λ v. first_broken (judged_branches s o v rest)) c.in_ok-judge_branch.ensures.values
    ∙ sym (first_behind (judged_branch s o keys (seen_branch x.1)) (judged_branches s o (values_of_branch s keys (seen_branch x.1)) rest)
    c.in_ok-judge_branch.ensures.ok)
    ∙ sym (ap (λ l. first_broken (judged_branches s o keys (seen_branches l))) (next_item bs k x c.loop-branch-item.is below))
    ∙ c.loop-branch.invariant

-- ---- Sequences

pub judge_sequence-returns-in_err-judge_statement-clause-broken : goal.judge_sequence-returns-in_err-judge_statement-clause-broken
judge_sequence-returns-in_err-judge_statement-clause-broken t c =
    let s = c.args.scope.now in
    let k = out-Statements c.args.sequence.now in
    let f = c.in_err-judge_statement.field-0.0 in
    err_is c.from_residual.result _ _ c.from_residual.ensures.1
    (subst (λ q. IsFault (judged_sequence s q) f) (sym (seen_sequence_is c.args.sequence.now))
    (fault_here (judged_statement s (seen_statement k.first)) (judged_statements s (seen_statements k.rest.items)) f c.in_err-judge_statement.ensures.broken))

sequence_behind : {t : ℕ} (c : goal.judge_sequence-After-judge_statements t)
    → first_broken (judged_sequence c.args.scope.now (seen_sequence c.args.sequence.now))
    ≡ first_broken (judged_statements c.args.scope.now (seen_statements c.deref.result.now))
sequence_behind c =
    let s = c.args.scope.now in
    let k = out-Statements c.args.sequence.now in
    ap (λ q. first_broken (judged_sequence s q)) (seen_sequence_is c.args.sequence.now)
    ∙ first_behind (judged_statement s (seen_statement k.first)) (judged_statements s (seen_statements k.rest.items)) c.in_ok-judge_statement.ensures.ok
    ∙ ap (λ l. first_broken (judged_statements s (seen_statements l))) (sym c.deref.ensures.value)

pub judge_sequence-returns-clause-ok : goal.judge_sequence-returns-clause-ok
judge_sequence-returns-clause-ok t c = subst (λ o. OnOk c.judge_statements.result (o ≡ None)) (sym (sequence_behind c)) c.judge_statements.ensures.ok

pub judge_sequence-returns-clause-broken : goal.judge_sequence-returns-clause-broken
judge_sequence-returns-clause-broken t c =
    let s = c.args.scope.now in
    let inner = judged_statements s (seen_statements c.deref.result.now) in
    let outer = judged_sequence s (seen_sequence c.args.sequence.now) in
    IfErr-weaker c.judge_statements.result (IsFault inner) (IsFault outer) (λ f is. fault_same outer inner f (sequence_behind c) is)
    c.judge_statements.ensures.broken

pub judge_statements-returns-in_err-judge_statement-clause-broken : goal.judge_statements-returns-in_err-judge_statement-clause-broken
judge_statements-returns-in_err-judge_statement-clause-broken t c =
    let s = c.args.scope.now in
    let xs = c.args.statements.now in
    let k = c.loop-statement.statement-index in
    let x = c.loop-statement-item.result in
    let below : k < length xs = omega arith in
    let here = judged_statement s (seen_statement x.1) in
    let more = judged_statements s (seen_statements (drop (k + 1) xs)) in
    let same = sym c.loop-statement.invariant ∙ ap (λ l. first_broken (judged_statements s (seen_statements l)))
    (next_item xs k x c.loop-statement-item.is below) in
    let f = c.in_err-judge_statement.field-0.0 in
    err_is c.from_residual.result _ _ c.from_residual.ensures.1
    (fault_same (judged_statements s (seen_statements xs)) (here ++ more) f same (fault_here here more f c.in_err-judge_statement.ensures.broken))

pub judge_statements-loop-statement-preserved : goal.judge_statements-loop-statement-preserved
judge_statements-loop-statement-preserved t c =
    let s = c.args.scope.now in
    let xs = c.args.statements.now in
    let k = c.loop-statement.statement-index in
    let x = c.loop-statement-item.result in
    let below : k < length xs = omega arith in
    sym (first_behind (judged_statement s (seen_statement x.1)) (judged_statements s (seen_statements (drop (k + 1) xs))) c.in_ok-judge_statement.ensures.ok)
    ∙ sym (ap (λ l. first_broken (judged_statements s (seen_statements l))) (next_item xs k x c.loop-statement-item.is below))
    ∙ c.loop-statement.invariant

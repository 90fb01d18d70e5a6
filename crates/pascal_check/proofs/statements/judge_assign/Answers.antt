use Rattle.std.proofs.Common.{◌≡◌, ◌∙◌, Some, None, ap, sym, subst, rules}
use Rattle.std.specs.Result.{IfErr, OnOk}
use Rattle.pascal_tree.specs.Expression.{index}
use Rattle.pascal_tree.specs.SeenExpression.{seen_expr}
use Rattle.pascal_tree.specs.Statement.{assign}
use Rattle.pascal_tree.specs.SeenStatement.{seen_assign}
use Rattle.pascal_tree.specs.StatementRules.{judged_statement, judged_target}
use Rattle.pascal_tree.specs.DeclarationRules.{first_broken}
use Rattle.pascal_tree.specs.declared.expression.Index.{out-Index, the_lemmas}
use Rattle.pascal_check.specs.Parts.{judged_element_set}
use Rattle.pascal_check.proofs.Faulty.{err_is}
use Rattle.pascal_check.proofs.Judging.{assign_here, assign_behind, index_here, value_here, element_set_behind}
use Rattle.pascal_check.proofs.statements.judge_assign.Goals as goal

-- ---- Without an index

pub returns-in_err-value-in-None-clause-broken : goal.returns-in_err-value-in-None-clause-broken
returns-in_err-value-in-None-clause-broken c =
    let s = c.args.scope.now in
    let a = c.args.assign.now in
    let e = seen_expr a.value in
    let made : seen_assign a ≡ assign a.target None a.becomes e = search (rules, the_lemmas) in
    err_is c.from_residual.result _ _ c.from_residual.ensures.1
    (ap (λ x. first_broken (judged_statement s x)) made
    ∙ assign_here s a.target a.becomes e c.in_err-value-in-None.field-0.0 c.in_err-value-in-None.ensures.broken)

target_as : (c : goal.After-judge_target)
    → first_broken (judged_statement c.args.scope.now (seen_assign c.args.assign.now))
    ≡ first_broken (judged_target c.args.scope.now c.args.assign.now.target (Some c.in_ok-value-in-None.value) c.args.assign.now.becomes)
target_as c =
    let s = c.args.scope.now in
    let a = c.args.assign.now in
    let e = seen_expr a.value in
    let made : seen_assign a ≡ assign a.target None a.becomes e = search (rules, the_lemmas) in
    ap (λ x. first_broken (judged_statement s x)) made
    ∙ assign_behind s a.target a.becomes e c.in_ok-value-in-None.value c.in_ok-value-in-None.ensures.ok c.in_ok-value-in-None.ensures.typed

pub returns-in_ok-value-in-None-clause-ok : goal.returns-in_ok-value-in-None-clause-ok
returns-in_ok-value-in-None-clause-ok c = subst (λ o. OnOk c.judge_target.result (o ≡ None)) (sym (target_as c)) c.judge_target.ensures.ok

pub returns-in_ok-value-in-None-clause-broken : goal.returns-in_ok-value-in-None-clause-broken
returns-in_ok-value-in-None-clause-broken c = subst (λ o. IfErr c.judge_target.result (λ b. o ≡ Some b)) (sym (target_as c)) c.judge_target.ensures.broken

-- ---- With an index

pub returns-in_err-index-in-Some-clause-broken : goal.returns-in_err-index-in-Some-clause-broken
returns-in_err-index-in-Some-clause-broken c =
    let s = c.args.scope.now in
    let a = c.args.assign.now in
    let e = seen_expr a.value in
    let k = out-Index c.deref.result.now in
    let made : seen_assign a ≡ assign a.target (Some (index k.opening (seen_expr k.place) k.closing)) a.becomes e = search (rules, the_lemmas) in
    err_is c.from_residual-in_err-index-in-Some.result _ _ c.from_residual-in_err-index-in-Some.ensures.1
    (ap (λ x. first_broken (judged_statement s x)) made
    ∙ index_here s a.target k.opening k.closing a.becomes (seen_expr k.place) e c.in_err-index-in-Some.field-0.0 c.in_err-index-in-Some.ensures.broken)

pub returns-in_err-value-in-Some-clause-broken : goal.returns-in_err-value-in-Some-clause-broken
returns-in_err-value-in-Some-clause-broken c =
    let s = c.args.scope.now in
    let a = c.args.assign.now in
    let e = seen_expr a.value in
    let k = out-Index c.deref.result.now in
    let made : seen_assign a ≡ assign a.target (Some (index k.opening (seen_expr k.place) k.closing)) a.becomes e = search (rules, the_lemmas) in
    err_is c.from_residual-in_err-value-in-Some.result _ _ c.from_residual-in_err-value-in-Some.ensures.1
    (ap (λ x. first_broken (judged_statement s x)) made
    ∙ value_here s a.target k.opening k.closing a.becomes (seen_expr k.place) e c.in_err-value-in-Some.field-0.0 c.in_ok-index-in-Some.ensures.ok
    c.in_err-value-in-Some.ensures.broken)

element_as : (c : goal.After-judge_element)
    → first_broken (judged_statement c.args.scope.now (seen_assign c.args.assign.now))
    ≡ first_broken (judged_element_set c.args.scope.now c.args.assign.now.target (Some c.in_ok-index-in-Some.index) (Some c.in_ok-value-in-Some.value)
    c.args.assign.now.becomes)
element_as c =
    let s = c.args.scope.now in
    let a = c.args.assign.now in
    let e = seen_expr a.value in
    let k = out-Index c.deref.result.now in
    let made : seen_assign a ≡ assign a.target (Some (index k.opening (seen_expr k.place) k.closing)) a.becomes e = search (rules, the_lemmas) in
    ap (λ x. first_broken (judged_statement s x)) made
    ∙ element_set_behind s a.target k.opening k.closing a.becomes (seen_expr k.place) e c.in_ok-index-in-Some.index c.in_ok-value-in-Some.value
    c.in_ok-index-in-Some.ensures.ok c.in_ok-index-in-Some.ensures.typed c.in_ok-value-in-Some.ensures.ok c.in_ok-value-in-Some.ensures.typed

pub returns-in_ok-value-in-Some-clause-ok : goal.returns-in_ok-value-in-Some-clause-ok
returns-in_ok-value-in-Some-clause-ok c = subst (λ o. OnOk c.judge_element.result (o ≡ None)) (sym (element_as c)) c.judge_element.ensures.ok

pub returns-in_ok-value-in-Some-clause-broken : goal.returns-in_ok-value-in-Some-clause-broken
returns-in_ok-value-in-Some-clause-broken c = subst (λ o. IfErr c.judge_element.result (λ b. o ≡ Some b)) (sym (element_as c)) c.judge_element.ensures.broken

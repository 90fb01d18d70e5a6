use Rattle.std.proofs.Common.{◌≡◌, ◌+◌, ◌∙◌, Some, None, length, ap, sym, subst, rules}
use Rattle.std.specs.Result.{IfErr, OnOk}
use Rattle.pascal_tree.specs.Expression.{arguments}
use Rattle.pascal_tree.specs.SeenExpression.{seen_expr, seen_exprs, seen_arguments}
use Rattle.pascal_tree.specs.Statement.{call}
use Rattle.pascal_tree.specs.SeenStatement.{seen_call}
use Rattle.pascal_tree.specs.Scopes.{means_of}
use Rattle.pascal_tree.specs.ExpressionRules.{parameters_of, count_arguments}
use Rattle.pascal_tree.specs.StatementRules.{judged_statement, judged_call}
use Rattle.pascal_tree.specs.DeclarationRules.{first_broken}
use Rattle.pascal_tree.specs.declared.expression.Arguments.{out-Arguments, the_lemmas}
use Rattle.pascal_check.proofs.Faulty.{err_is}
use Rattle.pascal_check.proofs.Expressed.{counted}
use Rattle.pascal_check.proofs.Judging.{passing_here, passing_behind}
use Rattle.pascal_check.proofs.statements.judge_call_statement.Goals as goal

pub returns-in_err-suit-in-Some-clause-broken : goal.returns-in_err-suit-in-Some-clause-broken
returns-in_err-suit-in-Some-clause-broken c =
    let s = c.args.scope.now in
    let x = c.args.call.now.name in
    let a = seen_arguments c.deref.result.now in
    let made : seen_call c.args.call.now ≡ call x (Some a) = search (rules, the_lemmas) in
    let are : c.parameters_of-parameters.result.now ≡ parameters_of (means_of s x.letters) = c.parameters_of-parameters.ensures
    ∙ ap parameters_of c.meaning.ensures in
    err_is c.from_residual.result _ _ c.from_residual.ensures.1
    (ap (λ y. first_broken (judged_statement s y)) made
    ∙ passing_here s x a c.parameters_of-parameters.result.now c.in_err-suit-in-Some.field-0.0 are c.in_err-suit-in-Some.ensures.broken)

call_as : (c : goal.After-judge_call-in-Some)
    → first_broken (judged_statement c.args.scope.now (seen_call c.args.call.now))
    ≡ first_broken (judged_call c.args.scope.now c.args.call.now.name (c.len.result + 1) c.in_ok-suit-in-Some.suit)
call_as c =
    let s = c.args.scope.now in
    let x = c.args.call.now.name in
    let a = seen_arguments c.deref.result.now in
    let k = out-Arguments c.deref.result.now in
    let made : seen_call c.args.call.now ≡ call x (Some a) = search (rules, the_lemmas) in
    let opened : a ≡ arguments k.opening (seen_expr k.first) (seen_exprs k.rest.items) k.closing = search (rules, the_lemmas) in
    let are : c.parameters_of-parameters.result.now ≡ parameters_of (means_of s x.letters) = c.parameters_of-parameters.ensures
    ∙ ap parameters_of c.meaning.ensures in
    let long : c.len.result ≡ length k.rest.items = search rules in
    let counts : c.len.result + 1 ≡ count_arguments a = ap (λ n. n + 1) (long ∙ sym (counted k.rest.items)) ∙ ap count_arguments (sym opened) in
    ap (λ y. first_broken (judged_statement s y)) made
    ∙ passing_behind s x a c.parameters_of-parameters.result.now (c.len.result + 1) c.in_ok-suit-in-Some.suit are
    c.in_ok-suit-in-Some.ensures.ok counts c.in_ok-suit-in-Some.ensures.suit

pub returns-in_ok-suit-in-Some-clause-ok : goal.returns-in_ok-suit-in-Some-clause-ok
returns-in_ok-suit-in-Some-clause-ok c = subst (λ o. OnOk c.judge_call-in-Some.result (o ≡ None)) (sym (call_as c)) c.judge_call-in-Some.ensures.ok

pub returns-in_ok-suit-in-Some-clause-broken : goal.returns-in_ok-suit-in-Some-clause-broken
returns-in_ok-suit-in-Some-clause-broken c =
    subst (λ o. IfErr c.judge_call-in-Some.result (λ b. o ≡ Some b)) (sym (call_as c)) c.judge_call-in-Some.ensures.broken

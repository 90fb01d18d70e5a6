use Rattle.std.proofs.Common.{◌≡◌, ℕ, ◌+◌, true, false, not, ◌&&◌, List, Option, Some, None, Box, drop, length, ◌<◌, sym, ap, subst, ◌∙◌, arith, rules}
use Rattle.std.specs.Prelude.{option_map}
use Rattle.std.specs.Global.{Global}
use Rattle.std.specs.Result.{IfErr, OnOk}
use Rattle.std.proofs.lemmas.Result.{IfOk-weaker}
use Rattle.pascal_tree.specs.Expression.{simple, term, element, called, negated, index, arguments}
use Rattle.pascal_tree.specs.SeenExpression.{expr_of, seen_expr, seen_comparison, seen_simple, seen_term, seen_factor, seen_arguments, seen_addends, seen_multipliers, seen_exprs}
use Rattle.pascal_tree.specs.Scopes.{Scope, or_else, means_of, same_scalar}
use Rattle.pascal_tree.specs.ExpressionRules.{breaks, judged_expr, judged_simple, judged_term, judged_factor, judged_addends, judged_adding, judged_multipliers, judged_multiplying, judged_arguments, judged_exprs, judged_called, judged_element_of, simple_type, term_type, count_arguments, addends_type, multipliers_type, adding_type, multiplying_type, parameters_of, first_parameter, later_parameters, all_suit}
use Rattle.pascal_tree.specs.DeclarationRules.{first_broken}
use Rattle.pascal_tree.specs.declared.parameter.Parameter.{Parameter}
use Rattle.pascal_tree.specs.declared.expression.Expr.{out-Expr, the_lemmas}
use Rattle.pascal_tree.specs.declared.expression.Comparison.{out-Comparison}
use Rattle.pascal_tree.specs.declared.expression.Comparison as comparisons
use Rattle.pascal_tree.specs.declared.expression.Simple.{out-Simple}
use Rattle.pascal_tree.specs.declared.expression.Term.{out-Term}
use Rattle.pascal_tree.specs.declared.expression.Index.{out-Index}
use Rattle.pascal_tree.specs.declared.expression.Arguments.{out-Arguments}
use Rattle.pascal_tree.specs.declared.expression.Arguments as argument_lists
use Rattle.pascal_check.specs.Parts.{judged_right, judged_argument}
use Rattle.pascal_check.proofs.Faulty.{err_is}
use Rattle.pascal_check.proofs.Firsts.{first_behind, first_here}
use Rattle.pascal_check.proofs.Wholes.{simple_whole, simple_typed, term_whole, term_typed}
use Rattle.pascal_check.proofs.Turns.{next_item}
use Rattle.pascal_check.proofs.SeenParts.{opened_comparison, seen_comparison_is, seen_simple_is, seen_term_is, seen_arguments_is}
use Rattle.pascal_check.proofs.Expressed.{suit_step, expr_here, expr_behind, right_here, right_behind, adding_step, multiplying_step, element_here, element_behind, call_here, call_behind, not_here, not_behind, counted, arguments_here, arguments_behind, exprs_here, exprs_behind}
use Rattle.pascal_check.proofs.expressions.+judge_expression.Goals as goal
use Rattle.pascal_check.proofs.expressions.+judge_expression.Goals.{judge_later_arguments-then-all, judge_later_arguments-else-all}

-- ---- Relations

pub judge_expr-returns-in_err-left-clause-broken : goal.judge_expr-returns-in_err-left-clause-broken
judge_expr-returns-in_err-left-clause-broken t c =
    let s = c.args.scope.now in
    let e = out-Expr c.args.expr.now in
    let r = option_map (λ (b : Box comparisons.Comparison Global). seen_comparison b.value) e.right in
    let made : seen_expr c.args.expr.now ≡ expr_of (seen_simple e.left) r = search (rules, the_lemmas) in
    err_is c.from_residual.result _ _ c.from_residual.ensures.1
    (ap (λ e. first_broken (judged_expr s e)) made ∙ expr_here s (seen_simple e.left) r c.in_err-left.field-0.0 c.in_err-left.ensures.broken)

right_as : {t : ℕ} (c : goal.judge_expr-After-judge_comparison t)
    → first_broken (judged_expr c.args.scope.now (seen_expr c.args.expr.now))
    ≡ first_broken (judged_right c.args.scope.now (Some c.in_ok-left.left) (seen_comparison c.deref.result.now))
right_as c =
    let s = c.args.scope.now in
    let x = seen_simple (out-Expr c.args.expr.now).left in
    let r = seen_comparison c.deref.result.now in
    let made : seen_expr c.args.expr.now ≡ expr_of x (Some r) = search (rules, the_lemmas) in
    ap (λ e. first_broken (judged_expr s e)) made ∙ expr_behind s x r c.in_ok-left.left c.in_ok-left.ensures.ok c.in_ok-left.ensures.typed

pub judge_expr-returns-in-Some-clause-ok : goal.judge_expr-returns-in-Some-clause-ok
judge_expr-returns-in-Some-clause-ok t c = subst (λ o. OnOk c.judge_comparison.result (o ≡ None)) (sym (right_as c)) c.judge_comparison.ensures.ok

pub judge_expr-returns-in-Some-clause-broken : goal.judge_expr-returns-in-Some-clause-broken
judge_expr-returns-in-Some-clause-broken t c =
    subst (λ o. IfErr c.judge_comparison.result (λ b. o ≡ Some b)) (sym (right_as c)) c.judge_comparison.ensures.broken

pub judge_comparison-returns-in_err-right-clause-broken : goal.judge_comparison-returns-in_err-right-clause-broken
judge_comparison-returns-in_err-right-clause-broken t c =
    let r = opened_comparison c.args.comparison.now in
    err_is c.from_residual.result _ _ c.from_residual.ensures.1
    (ap (λ r. first_broken (judged_right c.args.scope.now (Some c.args.left) r)) (seen_comparison_is c.args.comparison.now)
    ∙ right_here c.args.scope.now (Some c.args.left) r c.in_err-right.field-0.0 c.in_err-right.ensures.broken)

pub judge_comparison-returns-then-is_same-clause-ok : goal.judge_comparison-returns-then-is_same-clause-ok
judge_comparison-returns-then-is_same-clause-ok t c =
    let s = c.args.scope.now in
    let left = c.args.left in
    ap (λ r. first_broken (judged_right s (Some left) r)) (seen_comparison_is c.args.comparison.now)
    ∙ right_behind s left c.in_ok-right.right (opened_comparison c.args.comparison.now) true c.in_ok-right.ensures.ok c.in_ok-right.ensures.typed
    c.if-is_same.ensures

pub judge_comparison-returns-else-is_same-clause-broken : goal.judge_comparison-returns-else-is_same-clause-broken
judge_comparison-returns-else-is_same-clause-broken t c =
    let s = c.args.scope.now in
    let left = c.args.left in
    ap (λ r. first_broken (judged_right s (Some left) r)) (seen_comparison_is c.args.comparison.now)
    ∙ right_behind s left c.in_ok-right.right (opened_comparison c.args.comparison.now) false c.in_ok-right.ensures.ok c.in_ok-right.ensures.typed
    c.if-is_same.ensures

-- ---- Terms

pub judge_simple-returns-in_err-first-clause-broken : goal.judge_simple-returns-in_err-first-clause-broken
judge_simple-returns-in_err-first-clause-broken t c =
    let s = c.args.scope.now in
    err_is c.from_residual.result _ _ c.from_residual.ensures.1
    (ap (λ x. first_broken (judged_simple s x)) (seen_simple_is c.args.simple.now)
    ∙ first_here (judged_term s (seen_term (out-Simple c.args.simple.now).first)) _ c.in_err-first.field-0.0 c.in_err-first.ensures.broken)

pub judge_simple-returns-in_err-judge_addends-clause-broken : goal.judge_simple-returns-in_err-judge_addends-clause-broken
judge_simple-returns-in_err-judge_addends-clause-broken t c =
    let s = c.args.scope.now in
    let k = out-Simple c.args.simple.now in
    let at : first_broken (judged_addends s (seen_addends k.rest.items)) ≡ Some c.in_err-judge_addends.field-0.0 = rw (← c.deref.ensures.value)
    c.in_err-judge_addends.ensures.broken in
    err_is c.from_residual-in_err-judge_addends.result _ _ c.from_residual-in_err-judge_addends.ensures.1
    (ap (λ x. first_broken (judged_simple s x)) (seen_simple_is c.args.simple.now)
    ∙ first_behind (judged_term s (seen_term k.first)) _ c.in_ok-first.ensures.ok
    ∙ first_here (judged_addends s (seen_addends k.rest.items)) _ c.in_err-judge_addends.field-0.0 at)

simple_clash : {t : ℕ} (c : goal.judge_simple-After-whole t)
    → first_broken (judged_simple c.args.scope.now (seen_simple c.args.simple.now)) ≡ c.judge_addends.new.operands.clash
simple_clash c =
    let s = c.args.scope.now in
    let k = out-Simple c.args.simple.now in
    let more = seen_addends c.deref.result.now in
    ap (λ x. first_broken (judged_simple s x)) (seen_simple_is c.args.simple.now)
    ∙ ap (λ items. first_broken (judged_simple s (simple k.sign (seen_term k.first) (seen_addends items)))) (sym c.deref.ensures.value)
    ∙ simple_whole s k.sign (seen_term k.first) more c.in_ok-first.first c.signed-operands.result.type_ c.in_ok-first.ensures.ok c.in_ok-first.ensures.typed
    c.in_ok-judge_addends.ensures.ok c.signed-operands.ensures.typed
    ∙ ap (λ o. or_else o (first_broken (judged_adding s (Some c.signed-operands.result.type_) more))) c.signed-operands.ensures.clash
    ∙ sym c.in_ok-judge_addends.ensures.clash

pub judge_simple-returns-clause-ok : goal.judge_simple-returns-clause-ok
judge_simple-returns-clause-ok t c = subst (λ o. OnOk c.whole.result (o ≡ None)) (sym (simple_clash c)) c.whole.ensures.ok

pub judge_simple-returns-clause-typed : goal.judge_simple-returns-clause-typed
judge_simple-returns-clause-typed t c =
    let s = c.args.scope.now in
    let k = out-Simple c.args.simple.now in
    let typed = ap (simple_type s) (seen_simple_is c.args.simple.now)
    ∙ ap (λ items. simple_type s (simple k.sign (seen_term k.first) (seen_addends items))) (sym c.deref.ensures.value)
    ∙ simple_typed s k.sign (seen_term k.first) (seen_addends c.deref.result.now) c.in_ok-first.first c.signed-operands.result.type_
    c.in_ok-first.ensures.typed c.signed-operands.ensures.typed
    ∙ c.in_ok-judge_addends.ensures.typed in
    IfOk-weaker c.whole.result (λ u. u ≡ c.judge_addends.new.operands.type_) (λ u. simple_type s (seen_simple c.args.simple.now) ≡ Some u)
    (λ u is. typed ∙ ap Some (sym is)) c.whole.ensures.typed

pub judge_simple-returns-clause-broken : goal.judge_simple-returns-clause-broken
judge_simple-returns-clause-broken t c = subst (λ o. IfErr c.whole.result (λ b. o ≡ Some b)) (sym (simple_clash c)) c.whole.ensures.broken

pub judge_addends-returns-in_err-right-clause-broken : goal.judge_addends-returns-in_err-right-clause-broken
judge_addends-returns-in_err-right-clause-broken t c =
    let s = c.args.scope.now in
    let k = c.loop-adding.adding-index in
    let x = c.loop-adding-item.result in
    let below : k < length c.args.addends.now = omega arith in
    let step = ap seen_addends (next_item c.args.addends.now k x c.loop-adding-item.is below) in
    err_is c.from_residual.result _ _ c.from_residual.ensures.1
    (sym c.loop-adding.invariant.judged
    ∙ ap (λ more. first_broken (judged_addends s more)) step
    ∙ first_here (judged_term s (seen_term x.2)) (judged_addends s (seen_addends (drop (k + 1) c.args.addends.now))) c.in_err-right.field-0.0
    c.in_err-right.ensures.broken)

pub judge_addends-loop-adding-preserved : goal.judge_addends-loop-adding-preserved
judge_addends-loop-adding-preserved t c =
    let s = c.args.scope.now in
    let k = c.loop-adding.adding-index in
    let x = c.loop-adding-item.result in
    let below : k < length c.args.addends.now = omega arith in
    let step = ap seen_addends (next_item c.args.addends.now k x c.loop-adding-item.is below) in
    let more = seen_addends (drop (k + 1) c.args.addends.now) in
    let old = c.loop-adding.operands in
    let new = c.push.new.self in
    let right = c.in_ok-right.right in
    let is : new.type_ ≡ adding_type x.0 = c.push.ensures.typed ∙ c.adding_type.ensures in
    let clash = c.push.ensures.clash
    ∙ ap (λ w. or_else old.clash (breaks 8 (not (same_scalar old.type_ w && same_scalar right w)) x.1)) (sym c.push.ensures.typed) in
    record {
      judged = sym (first_behind (judged_term s (seen_term x.2)) (judged_addends s more) c.in_ok-right.ensures.ok)
          ∙ sym (ap (λ m. first_broken (judged_addends s m)) step) ∙ c.loop-adding.invariant.judged;
      clash = adding_step s old.type_ new.type_ right x.0 x.1 (seen_term x.2) more old.clash new.clash c.in_ok-right.ensures.typed is clash
          ∙ sym (ap (λ m. or_else old.clash (first_broken (judged_adding s (Some old.type_) m))) step) ∙ c.loop-adding.invariant.clash;
      typed = ap (λ w. addends_type (Some w) more) is ∙ sym (ap (addends_type (Some old.type_)) step) ∙ c.loop-adding.invariant.typed;
    }

-- ---- Factors behind each other

pub judge_term-returns-in_err-first-clause-broken : goal.judge_term-returns-in_err-first-clause-broken
judge_term-returns-in_err-first-clause-broken t c =
    let s = c.args.scope.now in
    err_is c.from_residual.result _ _ c.from_residual.ensures.1
    (ap (λ x. first_broken (judged_term s x)) (seen_term_is c.args.term.now)
    ∙ first_here (judged_factor s (seen_factor (out-Term c.args.term.now).first)) _ c.in_err-first.field-0.0 c.in_err-first.ensures.broken)

pub judge_term-returns-in_err-judge_multipliers-clause-broken : goal.judge_term-returns-in_err-judge_multipliers-clause-broken
judge_term-returns-in_err-judge_multipliers-clause-broken t c =
    let s = c.args.scope.now in
    let k = out-Term c.args.term.now in
    let at : first_broken (judged_multipliers s (seen_multipliers k.rest.items)) ≡ Some c.in_err-judge_multipliers.field-0.0
    = rw (← c.deref.ensures.value) c.in_err-judge_multipliers.ensures.broken in
    err_is c.from_residual-in_err-judge_multipliers.result _ _ c.from_residual-in_err-judge_multipliers.ensures.1
    (ap (λ x. first_broken (judged_term s x)) (seen_term_is c.args.term.now)
    ∙ first_behind (judged_factor s (seen_factor k.first)) _ c.in_ok-first.ensures.ok
    ∙ first_here (judged_multipliers s (seen_multipliers k.rest.items)) _ c.in_err-judge_multipliers.field-0.0 at)

term_clash : {t : ℕ} (c : goal.judge_term-After-whole t)
    → first_broken (judged_term c.args.scope.now (seen_term c.args.term.now)) ≡ c.judge_multipliers.new.operands.clash
term_clash c =
    let s = c.args.scope.now in
    let k = out-Term c.args.term.now in
    let more = seen_multipliers c.deref.result.now in
    let first = c.first-operands in
    ap (λ x. first_broken (judged_term s x)) (seen_term_is c.args.term.now)
    ∙ ap (λ items. first_broken (judged_term s (term (seen_factor k.first) (seen_multipliers items)))) (sym c.deref.ensures.value)
    ∙ term_whole s (seen_factor k.first) more c.in_ok-first.first c.in_ok-first.ensures.ok c.in_ok-first.ensures.typed c.in_ok-judge_multipliers.ensures.ok
    ∙ ap (λ v. first_broken (judged_multiplying s (Some v) more)) (sym first.ensures.typed)
    ∙ ap (λ o. or_else o (first_broken (judged_multiplying s (Some first.result.type_) more))) (sym first.ensures.clash)
    ∙ sym c.in_ok-judge_multipliers.ensures.clash

pub judge_term-returns-clause-ok : goal.judge_term-returns-clause-ok
judge_term-returns-clause-ok t c = subst (λ o. OnOk c.whole.result (o ≡ None)) (sym (term_clash c)) c.whole.ensures.ok

pub judge_term-returns-clause-typed : goal.judge_term-returns-clause-typed
judge_term-returns-clause-typed t c =
    let s = c.args.scope.now in
    let k = out-Term c.args.term.now in
    let typed = ap (term_type s) (seen_term_is c.args.term.now)
    ∙ ap (λ items. term_type s (term (seen_factor k.first) (seen_multipliers items))) (sym c.deref.ensures.value)
    ∙ term_typed s (seen_factor k.first) (seen_multipliers c.deref.result.now) c.in_ok-first.first c.in_ok-first.ensures.typed
    ∙ ap (λ v. multipliers_type (Some v) (seen_multipliers c.deref.result.now)) (sym c.first-operands.ensures.typed)
    ∙ c.in_ok-judge_multipliers.ensures.typed in
    IfOk-weaker c.whole.result (λ u. u ≡ c.judge_multipliers.new.operands.type_) (λ u. term_type s (seen_term c.args.term.now) ≡ Some u)
    (λ u is. typed ∙ ap Some (sym is)) c.whole.ensures.typed

pub judge_term-returns-clause-broken : goal.judge_term-returns-clause-broken
judge_term-returns-clause-broken t c = subst (λ o. IfErr c.whole.result (λ b. o ≡ Some b)) (sym (term_clash c)) c.whole.ensures.broken

pub judge_multipliers-returns-in_err-right-clause-broken : goal.judge_multipliers-returns-in_err-right-clause-broken
judge_multipliers-returns-in_err-right-clause-broken t c =
    let s = c.args.scope.now in
    let k = c.loop-multiplying.multiplying-index in
    let x = c.loop-multiplying-item.result in
    let below : k < length c.args.multipliers.now = omega arith in
    let step = ap seen_multipliers (next_item c.args.multipliers.now k x c.loop-multiplying-item.is below) in
    err_is c.from_residual.result _ _ c.from_residual.ensures.1
    (sym c.loop-multiplying.invariant.judged
    ∙ ap (λ more. first_broken (judged_multipliers s more)) step
    ∙ first_here (judged_factor s (seen_factor x.2)) (judged_multipliers s (seen_multipliers (drop (k + 1) c.args.multipliers.now)))
    c.in_err-right.field-0.0 c.in_err-right.ensures.broken)

pub judge_multipliers-loop-multiplying-preserved : goal.judge_multipliers-loop-multiplying-preserved
judge_multipliers-loop-multiplying-preserved t c =
    let s = c.args.scope.now in
    let k = c.loop-multiplying.multiplying-index in
    let x = c.loop-multiplying-item.result in
    let below : k < length c.args.multipliers.now = omega arith in
    let step = ap seen_multipliers (next_item c.args.multipliers.now k x c.loop-multiplying-item.is below) in
    let more = seen_multipliers (drop (k + 1) c.args.multipliers.now) in
    let old = c.loop-multiplying.operands in
    let new = c.push.new.self in
    let right = c.in_ok-right.right in
    let is : new.type_ ≡ multiplying_type x.0 = c.push.ensures.typed ∙ c.multiplying_type.ensures in
    let clash = c.push.ensures.clash
    ∙ ap (λ w. or_else old.clash (breaks 8 (not (same_scalar old.type_ w && same_scalar right w)) x.1)) (sym c.push.ensures.typed) in
    record {
      judged = sym (first_behind (judged_factor s (seen_factor x.2)) (judged_multipliers s more) c.in_ok-right.ensures.ok)
          ∙ sym (ap (λ m. first_broken (judged_multipliers s m)) step) ∙ c.loop-multiplying.invariant.judged;
      clash = multiplying_step s old.type_ new.type_ right x.0 x.1 (seen_factor x.2) more old.clash new.clash c.in_ok-right.ensures.typed is clash
          ∙ sym (ap (λ m. or_else old.clash (first_broken (judged_multiplying s (Some old.type_) m))) step) ∙ c.loop-multiplying.invariant.clash;
      typed = ap (λ w. multipliers_type (Some w) more) is ∙ sym (ap (multipliers_type (Some old.type_)) step) ∙ c.loop-multiplying.invariant.typed;
    }

-- ---- Factors

pub judge_factor-returns-in_err-index-in-Element-clause-broken : goal.judge_factor-returns-in_err-index-in-Element-clause-broken
judge_factor-returns-in_err-index-in-Element-clause-broken t c =
    let s = c.args.scope.now in
    let k = out-Index c.deref.result.now in
    let made : seen_factor c.args.factor.now ≡ element c.in-Element.name (index k.opening (seen_expr k.place) k.closing) = search (rules, the_lemmas) in
    err_is c.from_residual.result _ _ c.from_residual.ensures.1
    (ap (λ f. first_broken (judged_factor s f)) made
    ∙ element_here s c.in-Element.name k.opening k.closing (seen_expr k.place) c.in_err-index-in-Element.field-0.0 c.in_err-index-in-Element.ensures.broken)

element_as : {t : ℕ} (c : goal.judge_factor-After-judge_element_of t)
    → first_broken (judged_factor c.args.scope.now (seen_factor c.args.factor.now))
    ≡ first_broken (judged_element_of c.args.scope.now c.in-Element.name (Some c.in_ok-index-in-Element.index))
element_as c =
    let s = c.args.scope.now in
    let k = out-Index c.deref.result.now in
    let made : seen_factor c.args.factor.now ≡ element c.in-Element.name (index k.opening (seen_expr k.place) k.closing) = search (rules, the_lemmas) in
    ap (λ f. first_broken (judged_factor s f)) made
    ∙ element_behind s c.in-Element.name k.opening k.closing (seen_expr k.place) c.in_ok-index-in-Element.index
    c.in_ok-index-in-Element.ensures.ok c.in_ok-index-in-Element.ensures.typed

pub judge_factor-returns-in_ok-index-in-Element-clause-ok : goal.judge_factor-returns-in_ok-index-in-Element-clause-ok
judge_factor-returns-in_ok-index-in-Element-clause-ok t c =
    subst (λ o. OnOk c.judge_element_of.result (o ≡ None)) (sym (element_as c)) c.judge_element_of.ensures.ok

pub judge_factor-returns-in_ok-index-in-Element-clause-broken : goal.judge_factor-returns-in_ok-index-in-Element-clause-broken
judge_factor-returns-in_ok-index-in-Element-clause-broken t c =
    subst (λ o. IfErr c.judge_element_of.result (λ b. o ≡ Some b)) (sym (element_as c)) c.judge_element_of.ensures.broken

pub judge_factor-returns-in_err-suit-in-Call-clause-broken : goal.judge_factor-returns-in_err-suit-in-Call-clause-broken
judge_factor-returns-in_err-suit-in-Call-clause-broken t c =
    let s = c.args.scope.now in
    let a = seen_arguments c.deref-in-Call.result.now in
    let made : seen_factor c.args.factor.now ≡ called c.in-Call.name a = search (rules, the_lemmas) in
    let are : c.parameters_of-parameters.result.now ≡ parameters_of (means_of s c.in-Call.name.letters) = c.parameters_of-parameters.ensures
    ∙ ap parameters_of c.meaning.ensures in
    err_is c.from_residual-in_err-suit-in-Call.result _ _ c.from_residual-in_err-suit-in-Call.ensures.1
    (ap (λ f. first_broken (judged_factor s f)) made
    ∙ call_here s c.in-Call.name a c.parameters_of-parameters.result.now c.in_err-suit-in-Call.field-0.0 are c.in_err-suit-in-Call.ensures.broken)

called_as : {t : ℕ} (c : goal.judge_factor-After-judge_called t)
    → first_broken (judged_factor c.args.scope.now (seen_factor c.args.factor.now))
    ≡ first_broken (judged_called c.args.scope.now c.in-Call.name (c.len.result + 1) c.in_ok-suit-in-Call.suit)
called_as c =
    let s = c.args.scope.now in
    let a = seen_arguments c.deref-in-Call.result.now in
    let k = out-Arguments c.deref-in-Call.result.now in
    let made : seen_factor c.args.factor.now ≡ called c.in-Call.name a = search (rules, the_lemmas) in
    let opened : a ≡ arguments k.opening (seen_expr k.first) (seen_exprs k.rest.items) k.closing = search (rules, the_lemmas) in
    let are : c.parameters_of-parameters.result.now ≡ parameters_of (means_of s c.in-Call.name.letters) = c.parameters_of-parameters.ensures
    ∙ ap parameters_of c.meaning.ensures in
    let long : c.len.result ≡ length k.rest.items = search rules in
    let counts : c.len.result + 1 ≡ count_arguments a = ap (λ n. n + 1) (long ∙ sym (counted k.rest.items)) ∙ ap count_arguments (sym opened) in
    ap (λ f. first_broken (judged_factor s f)) made
    ∙ call_behind s c.in-Call.name a c.parameters_of-parameters.result.now (c.len.result + 1) c.in_ok-suit-in-Call.suit are
    c.in_ok-suit-in-Call.ensures.ok counts c.in_ok-suit-in-Call.ensures.suit

pub judge_factor-returns-in_ok-suit-in-Call-clause-ok : goal.judge_factor-returns-in_ok-suit-in-Call-clause-ok
judge_factor-returns-in_ok-suit-in-Call-clause-ok t c = subst (λ o. OnOk c.judge_called.result (o ≡ None)) (sym (called_as c)) c.judge_called.ensures.ok

pub judge_factor-returns-in_ok-suit-in-Call-clause-broken : goal.judge_factor-returns-in_ok-suit-in-Call-clause-broken
judge_factor-returns-in_ok-suit-in-Call-clause-broken t c =
    subst (λ o. IfErr c.judge_called.result (λ b. o ≡ Some b)) (sym (called_as c)) c.judge_called.ensures.broken

pub judge_factor-returns-in_err-found-in-Not-clause-broken : goal.judge_factor-returns-in_err-found-in-Not-clause-broken
judge_factor-returns-in_err-found-in-Not-clause-broken t c =
    let s = c.args.scope.now in
    let f = seen_factor c.deref-in-Not.result.now in
    let made : seen_factor c.args.factor.now ≡ negated c.in-Not.line f = search (rules, the_lemmas) in
    err_is c.from_residual-in_err-found-in-Not.result _ _ c.from_residual-in_err-found-in-Not.ensures.1
    (ap (λ f. first_broken (judged_factor s f)) made ∙ not_here s c.in-Not.line f c.in_err-found-in-Not.field-0.0 c.in_err-found-in-Not.ensures.broken)

pub judge_factor-returns-then-is_same-clause-ok : goal.judge_factor-returns-then-is_same-clause-ok
judge_factor-returns-then-is_same-clause-ok t c =
    let s = c.args.scope.now in
    let f = seen_factor c.deref-in-Not.result.now in
    let made : seen_factor c.args.factor.now ≡ negated c.in-Not.line f = search (rules, the_lemmas) in
    ap (λ f. first_broken (judged_factor s f)) made
    ∙ not_behind s c.in-Not.line f c.in_ok-found-in-Not.found true c.in_ok-found-in-Not.ensures.ok c.in_ok-found-in-Not.ensures.typed c.if-is_same.ensures

pub judge_factor-returns-else-is_same-clause-broken : goal.judge_factor-returns-else-is_same-clause-broken
judge_factor-returns-else-is_same-clause-broken t c =
    let s = c.args.scope.now in
    let f = seen_factor c.deref-in-Not.result.now in
    let made : seen_factor c.args.factor.now ≡ negated c.in-Not.line f = search (rules, the_lemmas) in
    ap (λ f. first_broken (judged_factor s f)) made
    ∙ not_behind s c.in-Not.line f c.in_ok-found-in-Not.found false c.in_ok-found-in-Not.ensures.ok c.in_ok-found-in-Not.ensures.typed c.if-is_same.ensures

-- ---- Arguments

pub judge_arguments-returns-in_err-suits-clause-broken : goal.judge_arguments-returns-in_err-suits-clause-broken
judge_arguments-returns-in_err-suits-clause-broken t c =
    let s = c.args.scope.now in
    let k = out-Arguments c.args.arguments.now in
    let ps = c.args.parameters.now in
    err_is c.from_residual.result _ _ c.from_residual.ensures.1
    (ap (λ a. first_broken (judged_arguments s a ps)) (seen_arguments_is c.args.arguments.now)
    ∙ arguments_here s k.opening k.closing (seen_expr k.first) (seen_exprs k.rest.items) ps c.first.result c.in_err-suits.field-0.0 c.first.ensures
    c.in_err-suits.ensures.broken)

-- the later arguments decide, where the first breaks no rule
later_as : (s : Scope) (a : argument_lists.Arguments) (ps qs : List Parameter) (p : Option Parameter) → p ≡ first_parameter ps → qs ≡ later_parameters ps
    → first_broken (judged_argument s (seen_expr (out-Arguments a).first) p) ≡ None
    → first_broken (judged_arguments s (seen_arguments a) ps) ≡ first_broken (judged_exprs s (seen_exprs (out-Arguments a).rest.items) qs)
later_as s a ps qs p is are none =
    let k = out-Arguments a in
    ap (λ a. first_broken (judged_arguments s a ps)) (seen_arguments_is a)
    ∙ arguments_behind s k.opening k.closing (seen_expr k.first) (seen_exprs k.rest.items) ps qs p is are none

pub judge_arguments-returns-in_err-later_suit-clause-broken : goal.judge_arguments-returns-in_err-later_suit-clause-broken
judge_arguments-returns-in_err-later_suit-clause-broken t c =
    let s = c.args.scope.now in
    let qs = c.later.result.now in
    err_is c.from_residual-in_err-later_suit.result _ _ c.from_residual-in_err-later_suit.ensures.1
    (later_as s c.args.arguments.now c.args.parameters.now qs c.first.result c.first.ensures c.later.ensures c.in_ok-suits.ensures.ok
    ∙ ap (λ items. first_broken (judged_exprs s (seen_exprs items) qs)) (sym c.deref.ensures.value)
    ∙ c.in_err-later_suit.ensures.broken)

pub judge_arguments-returns-then-suits-clause-ok : goal.judge_arguments-returns-then-suits-clause-ok
judge_arguments-returns-then-suits-clause-ok t c =
    let s = c.args.scope.now in
    let qs = c.later.result.now in
    later_as s c.args.arguments.now c.args.parameters.now qs c.first.result c.first.ensures c.later.ensures c.in_ok-suits.ensures.ok
    ∙ ap (λ items. first_broken (judged_exprs s (seen_exprs items) qs)) (sym c.deref.ensures.value)
    ∙ c.in_ok-later_suit.ensures.ok

pub judge_arguments-returns-else-suits-clause-ok : goal.judge_arguments-returns-else-suits-clause-ok
judge_arguments-returns-else-suits-clause-ok t c =
    let s = c.args.scope.now in
    let qs = c.later.result.now in
    later_as s c.args.arguments.now c.args.parameters.now qs c.first.result c.first.ensures c.later.ensures c.in_ok-suits.ensures.ok
    ∙ ap (λ items. first_broken (judged_exprs s (seen_exprs items) qs)) (sym c.deref.ensures.value)
    ∙ c.in_ok-later_suit.ensures.ok

pub judge_later_arguments-returns-in_err-suits-clause-broken : goal.judge_later_arguments-returns-in_err-suits-clause-broken
judge_later_arguments-returns-in_err-suits-clause-broken t c =
    let s = c.args.scope.now in
    let es = c.args.arguments.now in
    let k = c.loop-expr.expr-index in
    let x = c.loop-expr-item.result in
    let ps = c.loop-expr.left.now in
    let below : k < length es = omega arith in
    let step = ap seen_exprs (next_item es k x c.loop-expr-item.is below) in
    err_is c.from_residual.result _ _ c.from_residual.ensures.1
    (sym c.loop-expr.invariant.judged
    ∙ ap (λ more. first_broken (judged_exprs s more ps)) step
    ∙ exprs_here s x.0 (seen_expr x.1) (seen_exprs (drop (k + 1) es)) ps c.first.result c.in_err-suits.field-0.0 c.first.ensures c.in_err-suits.ensures.broken)

pub judge_later_arguments-loop-expr-preserved : goal.judge_later_arguments-loop-expr-preserved
judge_later_arguments-loop-expr-preserved t c =
    let s = c.args.scope.now in
    let es = c.args.arguments.now in
    let k = c.loop-expr.expr-index in
    let x = c.loop-expr-item.result in
    let ps = c.loop-expr.left.now in
    let qs = c.later-left.result.now in
    let below : k < length es = omega arith in
    let step = ap seen_exprs (next_item es k x c.loop-expr-item.is below) in
    let more = seen_exprs (drop (k + 1) es) in
    let all = c.loop-expr.all in
    let both : c.if-all.all ≡ (all && c.in_ok-suits.suits) =
    elim c.if-all.branch [ judge_later_arguments-then-all w ↦ search rules | judge_later_arguments-else-all w ↦ search rules ] in
    record {
      judged = sym (exprs_behind s x.0 (seen_expr x.1) more ps qs c.first.result c.first.ensures c.later-left.ensures c.in_ok-suits.ensures.ok)
          ∙ sym (ap (λ m. first_broken (judged_exprs s m ps)) step) ∙ c.loop-expr.invariant.judged;
      suit = suit_step s x.0 (seen_expr x.1) more ps qs c.first.result all c.in_ok-suits.suits c.if-all.all c.first.ensures c.later-left.ensures
          c.in_ok-suits.ensures.suit both
          ∙ sym (ap (λ m. all && all_suit s m ps) step) ∙ c.loop-expr.invariant.suit;
    }

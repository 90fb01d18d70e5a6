use Rattle.std.proofs.Common.{◌<◌, ◌+◌, ◌++◌, ◌∙◌, Some, drop, length, ap, sym, arith}
use Rattle.pascal_tree.specs.StatementRules.{value_of, with_value, more_values, judged_label, judged_more_labels}
use Rattle.pascal_tree.specs.DeclarationRules.{first_broken}
use Rattle.pascal_check.proofs.Firsts.{first_behind}
use Rattle.pascal_check.proofs.Turns.{next_item}
use Rattle.pascal_check.proofs.Faulty.{err_is, fault_here, fault_same}
use Rattle.pascal_check.proofs.constants.judge_more_labels.Goals as goal

pub returns-in_err-judge_label-clause-broken : goal.returns-in_err-judge_label-clause-broken
returns-in_err-judge_label-clause-broken c =
    let s = c.args.scope.now in
    let t = Some c.args.selector in
    let ls = c.args.labels.now in
    let k = c.loop-label.label-index in
    let x = c.loop-label-item.result in
    let keys = c.loop-label.earlier in
    let below : k < length ls = omega arith in
    let here = judged_label s t keys x.1 in
    let more = judged_more_labels s t (with_value (value_of s x.1) keys) (drop (k + 1) ls) in
    let same = sym c.loop-label.invariant.judged ∙ ap (λ l. first_broken (judged_more_labels s t keys l)) (next_item ls k x c.loop-label-item.is below) in
    let f = c.in_err-judge_label.field-0.0 in
    err_is c.from_residual.result _ _ c.from_residual.ensures.1
    (fault_same (judged_more_labels s t c.args.earlier.now ls) (here ++ more) f same (fault_here here more f c.in_err-judge_label.ensures.broken))

pub loop-label-preserved : goal.loop-label-preserved
loop-label-preserved c =
    let s = c.args.scope.now in
    let t = Some c.args.selector in
    let ls = c.args.labels.now in
    let k = c.loop-label.label-index in
    let x = c.loop-label-item.result in
    let keys = c.loop-label.earlier in
    let below : k < length ls = omega arith in
    let step = next_item ls k x c.loop-label-item.is below in
    let rest = drop (k + 1) ls in
    let kept = c.in_ok-judge_label.ensures.values in
    record {
      judged = ap (λ v. first_broken (judged_more_labels s t v rest)) kept
          ∙ sym (first_behind (judged_label s t keys x.1) (judged_more_labels s t (with_value (value_of s x.1) keys) rest) c.in_ok-judge_label.ensures.ok)
          ∙ sym (ap (λ l. first_broken (judged_more_labels s t keys l)) step)
          ∙ c.loop-label.invariant.judged;
      values = ap (λ v. more_values s v rest) kept ∙ sym (ap (more_values s keys) step) ∙ c.loop-label.invariant.values;
    }

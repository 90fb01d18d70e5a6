use Rattle.std.proofs.Common.{Some}
use Rattle.pascal_tree.specs.StatementRules.{value_of, with_value, judged_label, judged_more_labels}
use Rattle.pascal_check.proofs.Faulty.{err_is, fault_here}
use Rattle.pascal_check.proofs.constants.judge_labels.Goals as goal

pub returns-in_err-judge_label-clause-broken : goal.returns-in_err-judge_label-clause-broken
returns-in_err-judge_label-clause-broken c =
    let s = c.args.scope.now in
    let keys = c.args.earlier.now in
    let labels = c.args.labels.now in
    err_is c.from_residual.result _ _ c.from_residual.ensures.1
    (fault_here (judged_label s (Some c.args.selector) keys labels.first)
    (judged_more_labels s (Some c.args.selector) (with_value (value_of s labels.first) keys) labels.rest.items)
    c.in_err-judge_label.field-0.0 c.in_err-judge_label.ensures.broken)

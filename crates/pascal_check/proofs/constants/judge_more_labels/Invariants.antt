use Rattle.std.proofs.Common.{◌≡◌, Some, drop}
use Rattle.pascal_tree.specs.StatementRules.{judged_more_labels, more_values}
use Rattle.pascal_tree.specs.DeclarationRules.{first_broken}
use Rattle.pascal_check.proofs.constants.judge_more_labels.Given as goal

abbrev pub invariant-loop-label : goal.invariant-loop-label
invariant-loop-label l = record {
  judged : first_broken (judged_more_labels l.scope (Some l.selector) l.earlier (drop l.label-index l.labels))
      ≡ first_broken (judged_more_labels l.scope (Some l.selector) l.fn.earlier l.labels);
  values : more_values l.scope l.earlier (drop l.label-index l.labels) ≡ more_values l.scope l.fn.earlier l.labels;
}

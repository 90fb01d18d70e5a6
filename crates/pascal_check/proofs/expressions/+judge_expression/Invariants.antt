use Rattle.std.proofs.Common.{◌≡◌, ◌&&◌, Some, drop}
use Rattle.pascal_tree.specs.Scopes.{or_else}
use Rattle.pascal_tree.specs.SeenExpression.{seen_addends, seen_multipliers, seen_exprs}
use Rattle.pascal_tree.specs.ExpressionRules.{judged_addends, judged_adding, addends_type, judged_multipliers, judged_multiplying, multipliers_type, judged_exprs, all_suit}
use Rattle.pascal_tree.specs.DeclarationRules.{first_broken}
use Rattle.pascal_check.proofs.expressions.+judge_expression.Given as goal

abbrev pub invariant-judge_addends-loop-adding : goal.invariant-judge_addends-loop-adding
invariant-judge_addends-loop-adding l = record {
  judged : first_broken (judged_addends l.scope (seen_addends (drop l.adding-index l.addends)))
      ≡ first_broken (judged_addends l.scope (seen_addends l.addends));
  clash : or_else l.operands.clash (first_broken (judged_adding l.scope (Some l.operands.type_) (seen_addends (drop l.adding-index l.addends))))
      ≡ or_else l.fn.operands.clash (first_broken (judged_adding l.scope (Some l.fn.operands.type_) (seen_addends l.addends)));
  typed : addends_type (Some l.operands.type_) (seen_addends (drop l.adding-index l.addends))
      ≡ addends_type (Some l.fn.operands.type_) (seen_addends l.addends);
}

abbrev pub invariant-judge_multipliers-loop-multiplying : goal.invariant-judge_multipliers-loop-multiplying
invariant-judge_multipliers-loop-multiplying l = record {
  judged : first_broken (judged_multipliers l.scope (seen_multipliers (drop l.multiplying-index l.multipliers)))
      ≡ first_broken (judged_multipliers l.scope (seen_multipliers l.multipliers));
  clash : or_else l.operands.clash (first_broken (judged_multiplying l.scope (Some l.operands.type_)
      (seen_multipliers (drop l.multiplying-index l.multipliers))))
      ≡ or_else l.fn.operands.clash (first_broken (judged_multiplying l.scope (Some l.fn.operands.type_) (seen_multipliers l.multipliers)));
  typed : multipliers_type (Some l.operands.type_) (seen_multipliers (drop l.multiplying-index l.multipliers))
      ≡ multipliers_type (Some l.fn.operands.type_) (seen_multipliers l.multipliers);
}

abbrev pub invariant-judge_later_arguments-loop-expr : goal.invariant-judge_later_arguments-loop-expr
invariant-judge_later_arguments-loop-expr l = record {
  judged : first_broken (judged_exprs l.scope (seen_exprs (drop l.expr-index l.arguments)) l.left)
      ≡ first_broken (judged_exprs l.scope (seen_exprs l.arguments) l.parameters);
  suit : (l.all && all_suit l.scope (seen_exprs (drop l.expr-index l.arguments)) l.left) ≡ all_suit l.scope (seen_exprs l.arguments) l.parameters;
}

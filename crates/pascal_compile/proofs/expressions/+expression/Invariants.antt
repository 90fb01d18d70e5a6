use Rattle.std.proofs.Common.{◌≡◌, ◌++◌, map, drop}
use Rattle.pascal_tree.specs.SeenExpression.{seen_addends, seen_multipliers, seen_exprs}
use Rattle.pascal_code.specs.Expressions.{addends_code, multipliers_code, exprs_code}
use Rattle.pascal_compile.specs.Seen.{seen_sense, seen_passing}
use Rattle.pascal_compile.specs.SeenSite.{seen_site}
use Rattle.pascal_compile.proofs.expressions.+expression.Given as goal

abbrev pub invariant-addends-loop-adding : goal.invariant-addends-loop-adding
invariant-addends-loop-adding l =
    l.code ++ addends_code (seen_site l.site) (seen_addends (drop l.adding-index l.rest)) ≡ l.fn.code ++ addends_code (seen_site l.site) (seen_addends l.rest)

abbrev pub invariant-multipliers-loop-multiplying : goal.invariant-multipliers-loop-multiplying
invariant-multipliers-loop-multiplying l =
    l.code ++ multipliers_code (seen_site l.site) (seen_multipliers (drop l.multiplying-index l.rest))
    ≡ l.fn.code ++ multipliers_code (seen_site l.site) (seen_multipliers l.rest)

abbrev pub invariant-more_arguments-loop-e : goal.invariant-more_arguments-loop-e
invariant-more_arguments-loop-e l =
    l.code ++ exprs_code (seen_site l.site) (seen_sense l.callee) (map seen_passing l.left) (seen_exprs (drop l.e-index l.rest))
    ≡ l.fn.code ++ exprs_code (seen_site l.site) (seen_sense l.callee) (map seen_passing l.passing) (seen_exprs l.rest)

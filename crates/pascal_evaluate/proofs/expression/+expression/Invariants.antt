use Rattle.std.proofs.Common.{◌≡◌, ◌++◌, map, drop}
use Rattle.pascal_tree.specs.SeenExpression.{seen_addends, seen_multipliers, seen_exprs}
use Rattle.pascal_mean.specs.Situation.{Gives, and_then}
use Rattle.pascal_mean.specs.Expressions.{addends_value, multipliers_value, exprs_given}
use Rattle.pascal_evaluate.specs.SeenStore.{situation, seen_passing, all_given}
use Rattle.pascal_evaluate.specs.SeenSetting.{seen_setting}
use Rattle.pascal_evaluate.proofs.expression.+expression.Given as goal

abbrev pub invariant-addends-loop-adding : goal.invariant-addends-loop-adding
invariant-addends-loop-adding g l =
    let c = seen_setting g.L.Level.free l.setting in
    addends_value c (seen_addends (drop l.adding-index l.rest)) l.left (situation l.run) ≡ addends_value c (seen_addends l.rest) l.fn.first (situation l.fn.run)

abbrev pub invariant-multipliers-loop-multiplying : goal.invariant-multipliers-loop-multiplying
invariant-multipliers-loop-multiplying g l =
    let c = seen_setting g.L.Level.free l.setting in
    multipliers_value c (seen_multipliers (drop l.multiplying-index l.rest)) l.left (situation l.run)
    ≡ multipliers_value c (seen_multipliers l.rest) l.fn.first (situation l.fn.run)

abbrev pub invariant-more_arguments-loop-place : goal.invariant-more_arguments-loop-place
invariant-more_arguments-loop-place g l =
    let c = seen_setting g.L.Level.free l.setting in
    and_then (exprs_given c (map seen_passing (drop l.place l.passing)) (seen_exprs (drop l.place l.rest)) (situation l.run))
    (λ more then_is. Gives (all_given l.given.items ++ more) then_is)
    ≡ and_then (exprs_given c (map seen_passing l.passing) (seen_exprs l.rest) (situation l.fn.run))
    (λ more then_is. Gives (all_given l.fn.given.items ++ more) then_is)

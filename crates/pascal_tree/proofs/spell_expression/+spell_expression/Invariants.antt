use Rattle.std.proofs.Common.{◌≡◌, ◌++◌, drop}
use Rattle.pascal_tree.specs.SeenExpression.{seen_addends, seen_multipliers, seen_exprs}
use Rattle.pascal_tree.specs.SpellExpression.{spelled_addends, spelled_multipliers, spelled_exprs}
use Rattle.pascal_tree.proofs.spell_expression.+spell_expression.Given as goal

abbrev pub invariant-spell_addends-loop-adding : goal.invariant-spell_addends-loop-adding
invariant-spell_addends-loop-adding l =
    l.out.items ++ spelled_addends (seen_addends (drop l.adding-index l.addends)) ≡ l.fn.out.items ++ spelled_addends (seen_addends l.addends)

abbrev pub invariant-spell_exprs-loop-line : goal.invariant-spell_exprs-loop-line
invariant-spell_exprs-loop-line l =
    l.out.items ++ spelled_exprs (seen_exprs (drop l.line-index l.exprs)) ≡ l.fn.out.items ++ spelled_exprs (seen_exprs l.exprs)

abbrev pub invariant-spell_multipliers-loop-multiplying : goal.invariant-spell_multipliers-loop-multiplying
invariant-spell_multipliers-loop-multiplying l =
    l.out.items ++ spelled_multipliers (seen_multipliers (drop l.multiplying-index l.multipliers)) ≡ l.fn.out.items ++ spelled_multipliers (seen_multipliers l.multipliers)

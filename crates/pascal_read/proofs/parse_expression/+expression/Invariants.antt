use Rattle.std.proofs.Common.{◌≡◌, ◌+◌, ◌*◌, ◌∷◌, ◌++◌, List, length}
use Rattle.pascal_tree.specs.SeenExpression.{seen_addends, seen_multipliers, seen_exprs}
use Rattle.pascal_tree.specs.SpellExpression.{spelled_addends, spelled_multipliers, spelled_exprs}
use Rattle.pascal_tree.specs.Limits.{AddendsFit, MultipliersFit, ExprsFit}
use Rattle.pascal_read.specs.ParseWants.{Want, report}
use Rattle.pascal_read.specs.ParseWants as want
use Rattle.pascal_read.proofs.parse_expression.+expression.Given as goal

abbrev pub decreases-named : goal.decreases-named
decreases-named l = 10 * l.levels

abbrev pub decreases-factor : goal.decreases-factor
decreases-factor l = 10 * l.levels + 1

abbrev pub decreases-multipliers : goal.decreases-multipliers
decreases-multipliers l = 10 * l.levels + 2

abbrev pub decreases-term : goal.decreases-term
decreases-term l = 10 * l.levels + 3

abbrev pub decreases-addends : goal.decreases-addends
decreases-addends l = 10 * l.levels + 4

abbrev pub decreases-simple : goal.decreases-simple
decreases-simple l = 10 * l.levels + 5

abbrev pub decreases-comparison : goal.decreases-comparison
decreases-comparison l = 10 * l.levels + 6

abbrev pub decreases-expr : goal.decreases-expr
decreases-expr l = 10 * l.levels + 7

abbrev pub decreases-group : goal.decreases-group
decreases-group l = 10 * l.levels + 8

abbrev pub decreases-more_exprs : goal.decreases-more_exprs
decreases-more_exprs l = 10 * l.levels + 8

abbrev pub decreases-index : goal.decreases-index
decreases-index l = 10 * l.levels + 8

abbrev pub decreases-arguments : goal.decreases-arguments
decreases-arguments l = 10 * l.levels + 9

abbrev pub invariant-addends-loop-adding : goal.invariant-addends-loop-adding
invariant-addends-loop-adding l =
    (l.initial.reader ≡ spelled_addends (seen_addends l.rest.items) ++ l.reader) × AddendsFit (seen_addends l.rest.items) l.levels
    × ((y : Want) (more : List Want) → report l.initial.reader (want.addends l.levels ∷ (y ∷ more)) ≡ report l.reader (want.addends l.levels ∷ (y ∷ more)))

abbrev pub decreases-addends-loop-adding : goal.decreases-addends-loop-adding
decreases-addends-loop-adding l = length l.reader

abbrev pub invariant-more_exprs-loop-line : goal.invariant-more_exprs-loop-line
invariant-more_exprs-loop-line l =
    (l.initial.reader ≡ spelled_exprs (seen_exprs l.rest.items) ++ l.reader) × ExprsFit (seen_exprs l.rest.items) l.levels
    × ((y : Want) (more : List Want) → report l.initial.reader (want.more_exprs l.levels ∷ (y ∷ more)) ≡ report l.reader (want.more_exprs l.levels ∷ (y ∷ more)))

abbrev pub decreases-more_exprs-loop-line : goal.decreases-more_exprs-loop-line
decreases-more_exprs-loop-line l = length l.reader

abbrev pub invariant-multipliers-loop-multiplying : goal.invariant-multipliers-loop-multiplying
invariant-multipliers-loop-multiplying l =
    (l.initial.reader ≡ spelled_multipliers (seen_multipliers l.rest.items) ++ l.reader) × MultipliersFit (seen_multipliers l.rest.items) l.levels
    × ((y : Want) (more : List Want) → report l.initial.reader (want.multipliers l.levels ∷ (y ∷ more)) ≡ report l.reader (want.multipliers l.levels ∷ (y ∷ more)))

abbrev pub decreases-multipliers-loop-multiplying : goal.decreases-multipliers-loop-multiplying
decreases-multipliers-loop-multiplying l = length l.reader

use Rattle.std.proofs.Common.{◌≡◌, ◌∷◌, ◌++◌, List, length}
use Rattle.pascal_tree.specs.SpellConstant.{spelled_more_labels}
use Rattle.pascal_read.specs.ParseWants.{Want, report}
use Rattle.pascal_read.specs.ParseWants as want
use Rattle.pascal_read.proofs.parse_constant.more_labels.Given as goal

abbrev pub invariant-loop-line : goal.invariant-loop-line
invariant-loop-line l =
    (l.initial.reader ≡ spelled_more_labels l.rest.items ++ l.reader) × ((y : Want) (more : List Want) → report l.initial.reader (want.more_labels ∷ (y ∷ more)) ≡ report l.reader (want.more_labels ∷ (y ∷ more)))

abbrev pub decreases-loop-line : goal.decreases-loop-line
decreases-loop-line l = length l.reader

use Rattle.std.proofs.Common.{◌≡◌, ◌∷◌, ◌++◌, List, length}
use Rattle.pascal_tree.specs.SpellProgram.{spelled_definitions}
use Rattle.pascal_read.specs.ParseWants.{Want, report}
use Rattle.pascal_read.specs.ParseWants as want
use Rattle.pascal_read.proofs.parse_declaration.more_definitions.Given as goal

abbrev pub invariant-loop-name : goal.invariant-loop-name
invariant-loop-name l =
    (l.initial.reader ≡ spelled_definitions l.rest.items ++ l.reader) × ((y : Want) (more : List Want) → report l.initial.reader (want.more_definitions ∷ (y ∷ more)) ≡ report l.reader (want.more_definitions ∷ (y ∷ more)))

abbrev pub decreases-loop-name : goal.decreases-loop-name
decreases-loop-name l = length l.reader

use Rattle.std.proofs.Common.{◌≡◌, ◌∷◌, ◌++◌, List, length}
use Rattle.pascal_tree.specs.SpellProgram.{spelled_more_names}
use Rattle.pascal_read.specs.ParseWants.{Want, report}
use Rattle.pascal_read.specs.ParseWants as want
use Rattle.pascal_read.proofs.parse_declaration.names.Given as goal

abbrev pub invariant-loop-rest : goal.invariant-loop-rest
invariant-loop-rest l =
    (l.initial.reader ≡ spelled_more_names l.rest.items ++ l.reader) × ((y : Want) (more : List Want) → report l.initial.reader (want.more_names ∷ (y ∷ more)) ≡ report l.reader (want.more_names ∷ (y ∷ more)))

abbrev pub decreases-loop-rest : goal.decreases-loop-rest
decreases-loop-rest l = length l.reader

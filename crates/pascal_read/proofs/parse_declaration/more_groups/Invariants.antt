use Rattle.std.proofs.Common.{◌≡◌, ◌∷◌, ◌++◌, List, length, map}
use Rattle.pascal_tree.specs.SeenProgram.{seen_group}
use Rattle.pascal_tree.specs.SpellProgram.{spelled_groups}
use Rattle.pascal_read.specs.ParseWants.{Want, report}
use Rattle.pascal_read.specs.ParseWants as want
use Rattle.pascal_read.proofs.parse_declaration.more_groups.Given as goal

abbrev pub invariant-loop-name : goal.invariant-loop-name
invariant-loop-name l =
    (l.initial.reader ≡ spelled_groups (map seen_group l.rest.items) ++ l.reader) × ((y : Want) (more : List Want) → report l.initial.reader (want.more_groups ∷ (y ∷ more)) ≡ report l.reader (want.more_groups ∷ (y ∷ more)))

abbrev pub decreases-loop-name : goal.decreases-loop-name
decreases-loop-name l = length l.reader

use Rattle.std.proofs.Common.{◌≡◌, ◌∷◌, ◌++◌, List, length, map}
use Rattle.pascal_tree.specs.SeenProgram.{seen_parameter_group}
use Rattle.pascal_tree.specs.SpellProgram.{spelled_parameter_groups}
use Rattle.pascal_read.specs.ParseWants.{Want, report}
use Rattle.pascal_read.specs.ParseWants as want
use Rattle.pascal_read.proofs.parse_declaration.more_parameters.Given as goal

abbrev pub invariant-loop-line : goal.invariant-loop-line
invariant-loop-line l =
    (l.initial.reader ≡ spelled_parameter_groups (map (λ g. (g.0, seen_parameter_group g.1)) l.rest.items) ++ l.reader) × ((y : Want) (more : List Want) → report l.initial.reader (want.more_parameters ∷ (y ∷ more)) ≡ report l.reader (want.more_parameters ∷ (y ∷ more)))

abbrev pub decreases-loop-line : goal.decreases-loop-line
decreases-loop-line l = length l.reader

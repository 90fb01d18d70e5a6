use Rattle.std.proofs.Common.{◌≡◌, ◌∷◌, ◌++◌, List, length, map}
use Rattle.pascal_tree.specs.SeenProgram.{seen_routine}
use Rattle.pascal_tree.specs.SpellProgram.{spelled_routines}
use Rattle.pascal_tree.specs.Limits.{RoutinesFit}
use Rattle.pascal_read.specs.ParseWants.{Want, report}
use Rattle.pascal_read.specs.ParseWants as want
use Rattle.pascal_read.proofs.parse_program.routines.Given as goal

abbrev pub invariant-loop-routines : goal.invariant-loop-routines
invariant-loop-routines l =
    (l.initial.reader ≡ spelled_routines (map seen_routine l.routines.items) ++ l.reader) × RoutinesFit (map seen_routine l.routines.items)
    × ((y : Want) (more : List Want) → report l.initial.reader (want.routines ∷ (y ∷ more)) ≡ report l.reader (want.routines ∷ (y ∷ more)))

abbrev pub decreases-loop-routines : goal.decreases-loop-routines
decreases-loop-routines l = length l.reader

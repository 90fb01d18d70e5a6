use Rattle.std.proofs.Common.{◌≡◌, ◌++◌, drop, map}
use Rattle.pascal_tree.specs.SeenProgram.{seen_routine}
use Rattle.pascal_compile.specs.Seen.{seen_passing}
use Rattle.pascal_compile.specs.Passings.{heading_passing}
use Rattle.pascal_compile.proofs.routines.all_passings.Given as goal

abbrev pub invariant-loop-routine : goal.invariant-loop-routine
invariant-loop-routine l =
    map (λ v. map seen_passing v.items) l.all.items ++ map heading_passing (map seen_routine (drop l.routine-index l.routines))
    ≡ map heading_passing (map seen_routine l.routines)

use Rattle.std.proofs.Common.{◌≡◌, ◌++◌, drop, map}
use Rattle.pascal_tree.specs.SeenProgram.{seen_routine}
use Rattle.pascal_tree.specs.SpellProgram.{spelled_routines}
use Rattle.pascal_tree.proofs.spelling.spell_routines.Given as goal

abbrev pub invariant-loop-routine : goal.invariant-loop-routine
invariant-loop-routine l =
    l.out.items ++ spelled_routines (map seen_routine (drop l.routine-index l.routines)) ≡ l.fn.out.items ++ spelled_routines (map seen_routine l.routines)

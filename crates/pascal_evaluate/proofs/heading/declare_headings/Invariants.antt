use Rattle.std.proofs.Common.{◌≡◌, ◌+◌, drop, map}
use Rattle.pascal_tree.specs.SeenProgram.{seen_routine}
use Rattle.pascal_mean.specs.Declarations.{declared_headings}
use Rattle.pascal_evaluate.specs.SeenNames.{seen_items}
use Rattle.pascal_evaluate.proofs.heading.declare_headings.Given as goal

abbrev pub invariant-loop-place : goal.invariant-loop-place
invariant-loop-place l =
    declared_headings (l.place + 1) (map seen_routine (drop l.place l.routines)) (seen_items l.items.items)
    ≡ declared_headings 1 (map seen_routine l.routines) (seen_items l.fn.items.items)

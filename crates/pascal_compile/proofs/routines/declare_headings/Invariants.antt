use Rattle.std.proofs.Common.{◌+◌, drop, map}
use Rattle.pascal_tree.specs.SeenProgram.{seen_routine}
use Rattle.pascal_compile.specs.declared.frame.Frame as frame_type
use Rattle.pascal_compile.specs.Holds.{HeadingsHeld}
use Rattle.pascal_compile.proofs.routines.declare_headings.Given as goal

-- who declares the headings that are left has declared all
abbrev pub invariant-loop-place : goal.invariant-loop-place
invariant-loop-place l =
    (after : frame_type.Frame) → HeadingsHeld l.frame after (1 + l.place) (map seen_routine (drop l.place l.routines))
    → HeadingsHeld l.fn.frame after 1 (map seen_routine l.routines)

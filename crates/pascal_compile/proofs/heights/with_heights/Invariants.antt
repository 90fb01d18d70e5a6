use Rattle.std.proofs.Common.{◌≡◌, ◌++◌, drop}
use Rattle.pascal_compile.specs.WithHeights.{called_in, with_heights, HaveHeights}
use Rattle.pascal_compile.proofs.heights.with_heights.Given as goal

abbrev pub invariant-loop-place : goal.invariant-loop-place
invariant-loop-place l = record {
  heights : l.list.items ++ with_heights (called_in l.routines) l.instrs (drop l.place l.routines)
      ≡ with_heights (called_in l.routines) l.instrs l.routines;
  have : HaveHeights (called_in l.routines) l.instrs (drop l.place l.routines);
}

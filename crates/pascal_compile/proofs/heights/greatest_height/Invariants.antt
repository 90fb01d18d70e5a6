use Rattle.std.proofs.Common.{◌≡◌, ◌≤◌, max, drop}
use Rattle.pascal_code.specs.Code.{greatest_height}
use Rattle.pascal_compile.specs.WithHeights.{called_in}
use Rattle.pascal_compile.proofs.heights.greatest_height.Given as goal

abbrev pub invariant-loop-instr : goal.invariant-loop-instr
invariant-loop-instr l = record {
  greatest : max l.greatest (greatest_height (called_in l.routines) l.height (drop l.instr-index l.instrs))
      ≡ greatest_height (called_in l.routines) 0 l.instrs;
  within : l.height ≤ l.greatest;
}

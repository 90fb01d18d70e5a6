use Rattle.std.proofs.Common.{drop}
use Rattle.solo_base.specs.LineList.{AreLines}
use Rattle.pascal_compile.proofs.compiler.each_is_a_line.Given as goal

abbrev pub invariant-loop-place : goal.invariant-loop-place
invariant-loop-place l = AreLines (drop l.place l.cards) → AreLines l.cards

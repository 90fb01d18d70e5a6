use Rattle.pascal_compile.proofs.Compiled.{lines_behind}
use Rattle.pascal_compile.proofs.compiler.each_is_a_line.Goals as goal

pub loop-place-preserved : goal.loop-place-preserved
loop-place-preserved c = λ more.
    c.loop-place.invariant (lines_behind c.args.cards.now c.loop-place.place c.get-line.result c.get-line.ensures c.bytes.ensures.line more)

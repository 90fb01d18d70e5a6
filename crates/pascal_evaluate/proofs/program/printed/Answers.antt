use Rattle.std.proofs.Common.{◌<◌, length, ◌∙◌, arith}
use Rattle.pascal_evaluate.proofs.Ended.{printed_behind}
use Rattle.pascal_evaluate.proofs.program.printed.Goals as goal

pub loop-place-preserved : goal.loop-place-preserved
loop-place-preserved c =
    let within : c.loop-place.place < length c.args.made.now = omega arith in
    printed_behind c.loop-place.output c.print.new.output c.args.made.now c.loop-place.place _ within c.in_ok-print.ensures ∙ c.loop-place.invariant

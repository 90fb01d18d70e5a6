use Rattle.std.proofs.Common.{◌<◌, length, ◌∙◌, arith}
use Rattle.pascal_check.proofs.Wants.{want_behind}
use Rattle.pascal_check.proofs.parameters.want_more.Goals as goal

pub loop-place-preserved : goal.loop-place-preserved
loop-place-preserved c =
    let within : c.loop-place.place < length c.args.names.now = omega arith in
    rw c.in_ok-push.ensures
    (want_behind c.loop-place.wanted c.args.parameter c.args.names.now c.loop-place.place within ∙ c.loop-place.invariant)

use Rattle.std.proofs.Common.{◌≡◌, ◌+◌, ◌<◌, ◌++◌, ◌∷◌, [], length, take, get_or, ap, sym, ◌∙◌}
use Rattle.std.proofs.lemmas.List.{take_more}
use Rattle.std.proofs.lemmas.Option.{get_or_from_slice_get}
use Rattle.batch_job.proofs.RunLines.{run-begins, run-fed}
use Rattle.batch_job.proofs.report.push_run.Goals as goal

pub loop-place-init : goal.loop-place-init
loop-place-init c = λ t stands is_open. run-begins t c.args.lines.now c.args.program stands is_open

pub loop-place-preserved : goal.loop-place-preserved
loop-place-preserved c = λ t stands is_open.
    let below : c.loop-place.place < length c.args.input.now = rw (← c.len-place-end.ensures) c.loop-place-test.true in
    let got : get_or c.args.input.now c.loop-place.place c.get.result ≡ c.get.result =
    get_or_from_slice_get c.args.input.now c.loop-place.place c.get.result c.get.result c.get.ensures in
    let more : take (c.loop-place.place + 1) c.args.input.now ≡ take c.loop-place.place c.args.input.now ++ c.get.result ∷ [] =
    take_more c.args.input.now c.loop-place.place c.get.result below ∙ ap (λ line. take c.loop-place.place c.args.input.now ++ line ∷ []) got in
    run-fed t c.args.lines.now c.loop-place.lines c.push_made.new.lines (take c.loop-place.place c.args.input.now)
    (take (c.loop-place.place + 1) c.args.input.now) c.get.result c.loop-place.program c.push_made.new.program c.feed.new.self (sym more)
    (c.loop-place.invariant t stands is_open) c.in_ok-push_made.ensures.made c.feed.ensures

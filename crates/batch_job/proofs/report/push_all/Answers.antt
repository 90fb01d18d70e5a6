use Rattle.std.proofs.Common.{◌≡◌, ◌+◌, ◌<◌, ◌++◌, ◌∷◌, [], length, take, get_or, append_assoc, ap, sym, ◌∙◌}
use Rattle.std.proofs.lemmas.List.{take_more}
use Rattle.std.proofs.lemmas.Option.{get_or_from_slice_get}
use Rattle.batch_job.proofs.report.push_all.Goals as goal

pub loop-place-preserved : goal.loop-place-preserved
loop-place-preserved c =
    let below : c.loop-place.place < length c.args.more.now = rw (← c.len-place-end.ensures) c.loop-place-test.true in
    let got : get_or c.args.more.now c.loop-place.place c.get.result ≡ c.get.result =
    get_or_from_slice_get c.args.more.now c.loop-place.place c.get.result c.get.result c.get.ensures in
    let more : take (c.loop-place.place + 1) c.args.more.now ≡ take c.loop-place.place c.args.more.now ++ c.get.result ∷ [] =
    take_more c.args.more.now c.loop-place.place c.get.result below ∙ ap (λ line. take c.loop-place.place c.args.more.now ++ line ∷ []) got in
    c.in_ok-push.ensures.ok
    ∙ ap (λ lines. lines ++ c.get.result ∷ []) c.loop-place.invariant
    ∙ append_assoc c.args.lines.now (take c.loop-place.place c.args.more.now) (c.get.result ∷ [])
    ∙ ap (λ lines. c.args.lines.now ++ lines) (sym more)

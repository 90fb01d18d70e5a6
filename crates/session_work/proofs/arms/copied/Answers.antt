use Rattle.std.proofs.Common.{◌≡◌, ◌+◌, ◌<◌, ◌≤◌, ◌++◌, ◌∷◌, [], length, take, get_or, ap, sym, ◌∙◌, arith}
use Rattle.std.proofs.lemmas.List.{take_more, length-take-le}
use Rattle.std.proofs.lemmas.Option.{get_or_from_slice_get}
use Rattle.session_work.proofs.arms.copied.Goals as goal

pub push-requires : goal.push-requires
push-requires c =
    let below : c.copying.place < length c.args.args.now = rw (← c.len-place-end.ensures.count) c.copying-test.true in
    let long : length (take c.copying.place c.args.args.now) ≡ c.copying.place = length-take-le c.copying.place c.args.args.now (omega (arith, below)) in
    omega (arith, below, long, ap length c.copying.invariant, c.len-place-end.ensures.most)

pub copying-preserved : goal.copying-preserved
copying-preserved c =
    let below : c.copying.place < length c.args.args.now = rw (← c.len-place-end.ensures.count) c.copying-test.true in
    let got : get_or c.args.args.now c.copying.place c.get.result ≡ c.get.result =
    get_or_from_slice_get c.args.args.now c.copying.place c.get.result c.get.result c.get.ensures in
    let more : take (c.copying.place + 1) c.args.args.now ≡ take c.copying.place c.args.args.now ++ c.get.result ∷ [] =
    take_more c.args.args.now c.copying.place c.get.result below ∙ ap (λ arg. take c.copying.place c.args.args.now ++ arg ∷ []) got in
    c.push.ensures ∙ ap (λ args. args ++ c.get.result ∷ []) c.copying.invariant ∙ sym more

use Rattle.std.proofs.Common.{◌≡◌, ◌+◌, ◌-◌, ◌<◌, [], ◌∷◌, ◌++◌, length, replicate, take, ap, ◌∙◌, append_assoc, arith}
use Rattle.std.proofs.lemmas.List.{take_more_set, length-set, replicate_more}
use Rattle.pipeline.proofs.blocks.fill_up.Goals as goal

pub loop-place-preserved : goal.loop-place-preserved
loop-place-preserved g c =
    let items = c.loop-place.items in let place = c.loop-place.place in let filler = c.args.filler in let filled = c.args.filled in
    let from = take filled c.args.items.now in
    let low = c.loop-place.invariant.1 in
    let same = c.loop-place.invariant.0 in let more = c.loop-place-test.true in
    let within : place < length items = omega arith in
    let one : place - filled + 1 ≡ place + 1 - filled = omega arith in (
      length-set items place filler ∙ c.loop-place.invariant.0,
      omega arith,
      take_more_set items place filler within ∙ ap (λ t. t ++ filler ∷ []) c.loop-place.invariant.2
          ∙ append_assoc from (replicate (place - filled) filler) (filler ∷ []) ∙ ap (λ more. from ++ more) (replicate_more (place - filled) filler ∙ ap (λ n. replicate n filler) one),
    )

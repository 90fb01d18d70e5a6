use Rattle.std.proofs.Common.{◌<◌, ◌++◌, length, ap, ◌∙◌}
use Rattle.solo_base.specs.Text.{line_text}
use Rattle.made_deck.proofs.Texts.{line_more}
use Rattle.made_deck.proofs.deck.put_all.Goals as goal

pub loop-place-preserved : goal.loop-place-preserved
loop-place-preserved c =
    let below : c.loop-place.place < length c.args.cards.now = rw (← c.len-place-end.ensures) c.loop-place-test.true in
    c.in_ok-put.ensures
    ∙ ap (λ before. before ++ line_text c.get.result) c.loop-place.invariant
    ∙ line_more c.args.deck.now.items c.args.cards.now c.loop-place.place c.get.result below c.get.ensures

use Rattle.std.proofs.Common.{◌≡◌, ◌+◌, [], ◌∷◌, ◌++◌, drop, ◌∙◌, ap}
use Rattle.solo_base.specs.Text.{text}
use Rattle.pascal_mean.proofs.CardsRead.{one_card_more}
use Rattle.pascal_mean.proofs.input.text_of.Goals as goal

pub loop-place-preserved : goal.loop-place-preserved
loop-place-preserved c =
    let card : c.extend_from_slice.new.self.items ≡ c.loop-place.text.items ++ c.get.result = c.in_ok-extend_from_slice.ensures.items
    ∙ ap (λ l. c.loop-place.text.items ++ l) c.bytes.ensures.bytes in
    let items : c.push.new.self.items ≡ (c.loop-place.text.items ++ c.get.result) ++ 10 ∷ [] = c.in_ok-push.ensures.items ∙ ap (λ l. l ++ 10 ∷ []) card in
    ap (λ l. l ++ text (drop (c.loop-place.place + 1) c.args.cards.now)) items
    ∙ one_card_more c.args.cards.now c.loop-place.place c.get.result c.loop-place.text.items c.get.ensures c.loop-place.invariant

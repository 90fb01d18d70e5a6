use Rattle.std.proofs.Common.{◌++◌, ◌∙◌, refl, ap}
use Rattle.solo_base.specs.declared.item.Item.TheVariants.{Line, Spoiled}
use Rattle.solo_devices.specs.CardUnit.{item_of}
use Rattle.solo_cli.specs.Tallies.{role_of}
use Rattle.solo_cli.proofs.deck_numbers.next_role.Goals as goal

pub returns-in-Card-clause-next : goal.returns-in-Card-clause-next
returns-in-Card-clause-next c = λ items are. (
    let taken = c.read-read.ensures.next.told items are in
    let card = Line c.in-Card.card in
    let first = taken.items_are ∙ ap (λ answer. item_of answer ++ taken.rest) c.in-Card.is in
    let same = c.role_of.ensures ∙ ap (λ bytes. role_of (Line bytes)) c.bytes.ensures.bytes in
    (card, taken.rest, first, same, taken.now_are)
    )

pub returns-in-Spoiled-clause-next : goal.returns-in-Spoiled-clause-next
returns-in-Spoiled-clause-next c = λ items are. (
    let taken = c.read-read.ensures.next.told items are in
    (Spoiled, taken.rest, taken.items_are ∙ ap (λ answer. item_of answer ++ taken.rest) c.in-Spoiled.is, refl, taken.now_are)
    )

pub returns-in-End-clause-next : goal.returns-in-End-clause-next
returns-in-End-clause-next c = λ items are. ((c.read-read.ensures.next.told items are).end c.in-End.is)

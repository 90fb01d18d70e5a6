use Rattle.std.proofs.Common.{◌≡◌, ◌++◌, arith, subst, sym}
use Rattle.disk_contents.specs.Contents.{IsText}
use Rattle.file_commands.proofs.Printed.{card-added, cards-added, text-goes-on}
use Rattle.file_commands.proofs.texts.text_of_cards.Goals as goal

pub loop-place-preserved : goal.loop-place-preserved
loop-place-preserved c = (
  card-added c.args.cards.now c.loop-place.place c.get.result c.loop-place.bytes.items c.add_card.new.bytes.items c.get.ensures c.loop-place.invariant.0
      c.in_ok-add_card.ensures.added,
  subst IsText (sym c.in_ok-add_card.ensures.added) (text-goes-on c.loop-place.bytes.items c.get.result c.loop-place.invariant.1 c.add_card.ensures.line),
)

pub returns-clause-text : goal.returns-clause-text
returns-clause-text c =
    cards-added c.args.cards.now c.loop-place.place c.loop-place.bytes.items (omega (arith, c.loop-place-test.false)) c.loop-place.invariant.0

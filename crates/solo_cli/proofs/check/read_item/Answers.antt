use Rattle.std.proofs.Common.{refl}
use Rattle.solo_cli.proofs.ReadingItems.{nothing_more}
use Rattle.solo_cli.proofs.check.read_item.Goals as goal

pub returns-in-End-clause-whole : goal.returns-in-End-clause-whole
returns-in-End-clause-whole g c = λ is text stands.
    nothing_more _ _ stands.rest stands.cards_are ((c.in-End.ensures.next.told stands.rest stands.ahead).end refl)

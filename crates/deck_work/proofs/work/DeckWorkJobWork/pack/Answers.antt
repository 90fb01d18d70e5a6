use Rattle.deck_work.proofs.Works.{none-first, packs-ok}
use Rattle.deck_work.proofs.work.DeckWorkJobWork.pack.Goals as goal

pub returns-in-Some : goal.returns-in-Some
returns-in-Some c = λ told keeps none.
    absurd (none-first c.args.self.now.stream c.wants.result c.in-Some._wanted c.wants.ensures.first c.in-Some.is told keeps none)

pub returns-in-None : goal.returns-in-None
returns-in-None c =
    packs-ok c.pack.result c.args.self.now.stream c.pack.new.self c.args.packer.now c.pack.new.packer c.pack.new.due c.pack.ensures.packs

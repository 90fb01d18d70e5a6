use Rattle.deck_work.proofs.Works.{begins}
use Rattle.deck_work.proofs.work.DeckWorkJobWork.begin.Goals as goal

pub returns : goal.returns
returns c = begins c.new.result c.new.ensures.new c.new.ensures.stands c.new.ensures.spent

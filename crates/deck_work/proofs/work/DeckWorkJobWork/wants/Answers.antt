use Rattle.deck_work.proofs.Works.{wants}
use Rattle.deck_work.proofs.work.DeckWorkJobWork.wants.Goals as goal

pub returns : goal.returns
returns c = wants c.args.self.now.stream c.wants.result c.wants.ensures.first

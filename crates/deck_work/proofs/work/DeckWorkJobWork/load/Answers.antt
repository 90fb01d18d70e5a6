use Rattle.deck_work.proofs.Works.{loads}
use Rattle.deck_work.proofs.work.DeckWorkJobWork.load.Goals as goal

pub returns : goal.returns
returns c = loads c.args.self.now.stream c.load.new.self c.args.load c.load.ensures.loaded c.load.ensures.stands

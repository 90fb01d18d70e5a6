use Rattle.deck_work.proofs.Works.{feeds-ok}
use Rattle.deck_work.proofs.work.DeckWorkJobWork.feed.Goals as goal

pub returns : goal.returns
returns c = feeds-ok c.feed.result c.args.self.now.stream c.feed.new.self c.args.items c.feed.ensures.fed c.feed.ensures.stands

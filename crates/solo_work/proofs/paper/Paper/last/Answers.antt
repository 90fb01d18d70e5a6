use Rattle.solo_work.proofs.Pages.{last-printed}
use Rattle.solo_work.proofs.paper.Paper.last.Goals as goal

pub returns : goal.returns
returns c = λ pages hand is. last-printed c.args.self c.finish.result pages hand c.if-not-printed.false c.finish.ensures.page is

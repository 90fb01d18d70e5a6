use Rattle.solo_procs.proofs.PageSteps.{last-is}
use Rattle.solo_procs.proofs.page_streams.is_last.Goals as goal

pub returns : goal.returns
returns c = last-is c.last.result c.args.page.now c.last.ensures

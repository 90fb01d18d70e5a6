use Rattle.disk_system.proofs.Clearing.{wrote_apart}
use Rattle.disk_system.proofs.formatting.write.Goals as goal

pub returns-in-Done-clause-kept : goal.returns-in-Done-clause-kept
returns-in-Done-clause-kept g c = wrote_apart _ _ c.args.n c.write.result c.args.page.now.0 c.requires.apart c.write.ensures.page

pub returns-in-Failed-clause-kept : goal.returns-in-Failed-clause-kept
returns-in-Failed-clause-kept g c = wrote_apart _ _ c.args.n c.write.result c.args.page.now.0 c.requires.apart c.write.ensures.page

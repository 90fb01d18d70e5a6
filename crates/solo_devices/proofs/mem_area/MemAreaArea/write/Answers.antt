use Rattle.solo_devices.proofs.Spoiling.{spoiled}
use Rattle.solo_devices.proofs.mem_area.MemAreaArea.write.Goals as goal

pub returns-then-fails-clause-page : goal.returns-then-fails-clause-page
returns-then-fails-clause-page c = spoiled _ _ c.args.n _ _ c.args.page.now.0 c.write.ensures.page

use Rattle.disk_files.proofs.Kept.{stays_written}
use Rattle.disk_files.proofs.transfer.write.Goals as goal

pub returns-in-Done-clause-stays : goal.returns-in-Done-clause-stays
returns-in-Done-clause-stays g c =
    stays_written _ _ c.args.n _ _ c.write.result c.args.page.now.0 c.write.ensures.page c.write.ensures.size

pub returns-in-Failed-clause-stays : goal.returns-in-Failed-clause-stays
returns-in-Failed-clause-stays g c =
    stays_written _ _ c.args.n _ _ c.write.result c.args.page.now.0 c.write.ensures.page c.write.ensures.size

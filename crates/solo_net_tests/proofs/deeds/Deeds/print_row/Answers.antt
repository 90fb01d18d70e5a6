use Rattle.solo_net_tests.proofs.Fit.{row_put, row_kept}
use Rattle.solo_net_tests.proofs.deeds.Deeds.print_row.Goals as goal

pub returns-in-Some : goal.returns-in-Some
returns-in-Some c = row_put c.args.self.now.paper c.print.new.self c.line_of.result c.print.result c.in-Some.page c.print.ensures c.in-Some.is

pub returns-in-None : goal.returns-in-None
returns-in-None c =
    row_kept c.args.self.now.paper c.print.new.self c.line_of.result c.line_of-in-None.result c.print.result c.print.ensures c.in-None.is

use Rattle.solo_net_tests.proofs.Fit.{page_printed, all_printed}
use Rattle.solo_net_tests.proofs.deeds.Deeds.go_on.Goals as goal

pub returns-in-Some : goal.returns-in-Some
returns-in-Some c =
    page_printed c.args.self.now.paper c.hear.new.self.paper c.print.new.paper c.hear.new.self.printing.lines c.hear.new.self.printing.next
    c.print.new.self.next c.print.result c.in-Some.page c.hear.ensures c.print.ensures.prints c.in-Some.is

pub returns-in-None : goal.returns-in-None
returns-in-None c =
    all_printed c.args.self.now.paper c.hear.new.self.paper c.print.new.paper c.deed.new.self.paper c.hear.new.self.printing.lines
    c.hear.new.self.printing.next c.print.new.self.next c.print.result c.deed.result c.hear.ensures c.print.ensures.prints c.in-None.is
    c.deed.ensures

use Rattle.std.proofs.Common.{refl, sym, subst, ap}
use Rattle.solo_work.specs.Printing.{PrintsPage}
use Rattle.session_work.specs.declared.session.Session.{Session}
use Rattle.session_work.proofs.Answering.{page-printed, printed-all}
use Rattle.session_work.proofs.session.Session.print.Goals as goal

pub returns-in-Some-clause-worked : goal.returns-in-Some-clause-worked
returns-in-Some-clause-worked c = λ before pages hand is.
    page-printed pages hand c.args.printing c.print.new.self c.in-Some.page c.set.new.self before
    (subst (PrintsPage c.args.printing.lines c.args.printing.next pages hand c.in-Some.page c.print.new.self.next)
    (sym (ap (λ (s : Session). s.paper) c.set.ensures)) (c.in-Some.ensures.prints pages hand is)) c.print.ensures.lines c.print.ensures.answers
    (ap (λ (s : Session). s.under_way) c.set.ensures)

pub returns-in-None-clause-worked : goal.returns-in-None-clause-worked
returns-in-None-clause-worked c = λ before pages hand is.
    let all = c.in-None.ensures.prints pages hand is in
    printed-all pages hand c.args.printing c.print.new.self c.print.new.paper c.end.result c.end.new.self before all c.print.ensures.answers
    (c.end.ensures.worked before pages all.last all.hand_is)

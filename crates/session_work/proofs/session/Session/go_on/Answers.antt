use Rattle.std.proofs.Common.{sym, subst, ◌∙◌}
use Rattle.solo_law.specs.Work.{OfNothing}
use Rattle.session_work.proofs.Pieces.{PassesOver, passed-over, nothing-passed, prints-on, runs-on}
use Rattle.session_work.proofs.session.Session.go_on.Goals as goal

pub returns-in-Prints-clause-piece : goal.returns-in-Prints-clause-piece
returns-in-Prints-clause-piece g c =
    prints-on c.in-Prints.printing c.args.self.now c.print.new.self (g.A.Area.pages c.args.files.now.area) (g.A.Area.pages c.args.files.now.area) _ (sym c.replace.ensures.value ∙ c.in-Prints.is)
    (λ pages hand is. c.print.ensures.worked (g.A.Area.pages c.args.files.now.area) pages hand is)

pub returns-in-GoesOn-clause-piece : goal.returns-in-GoesOn-clause-piece
returns-in-GoesOn-clause-piece g c =
    runs-on c.in-GoesOn.program c.args.self.now c.run_on.new.self (g.A.Area.pages c.args.files.now.area) (g.A.Area.pages c.run_on.new.files.area) c.run_on.result (sym c.replace.ensures.value ∙ c.in-GoesOn.is)
    c.run_on.ensures.worked

pub returns-in_default-clause-piece : goal.returns-in_default-clause-piece
returns-in_default-clause-piece g c =
    passed-over OfNothing c.args.self.now c.pass_over.new.self (g.A.Area.pages c.args.files.now.area) c.pass_over.result
    (subst (PassesOver OfNothing) c.replace.ensures.value
    (nothing-passed c.replace.result c.in_default.not-Prints c.in_default.not-GoesOn)) c.pass_over.ensures.over

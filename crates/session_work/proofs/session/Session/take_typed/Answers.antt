use Rattle.std.proofs.Common.{sym, subst, ◌∙◌}
use Rattle.solo_law.specs.Work.{OfTyped}
use Rattle.session_work.proofs.Pieces.{PassesOver, passed-over, typed-passed, accepts-the-line}
use Rattle.session_work.proofs.session.Session.take_typed.Goals as goal

pub returns-in-AcceptsLine-clause-piece : goal.returns-in-AcceptsLine-clause-piece
returns-in-AcceptsLine-clause-piece g c =
    accepts-the-line c.in-AcceptsLine.program c.args.typed.now c.args.self.now c.accept.new.self (g.A.Area.pages c.args.files.now.area)
    (g.A.Area.pages c.accept.new.files.area) c.accept.result (sym c.replace.ensures.value ∙ c.in-AcceptsLine.is) c.accept.ensures.worked

pub returns-in_default-clause-piece : goal.returns-in_default-clause-piece
returns-in_default-clause-piece g c =
    passed-over (OfTyped c.args.typed.now) c.args.self.now c.pass_over.new.self (g.A.Area.pages c.args.files.now.area) c.pass_over.result
    (subst (PassesOver (OfTyped c.args.typed.now)) c.replace.ensures.value
    (typed-passed c.args.typed.now c.replace.result c.in_default.not-AcceptsLine)) c.pass_over.ensures.over

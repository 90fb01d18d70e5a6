use Rattle.std.proofs.Common.{refl, sym, subst, ap, ◌∙◌}
use Rattle.session_work.specs.declared.session.Session.{Session}
use Rattle.session_work.specs.Pausing.{MayGoOn}
use Rattle.session_work.proofs.Programs.{ran-needs, ran-ends, ran-not, ran-may}
use Rattle.session_work.proofs.session.Session.run_on.Goals as goal

pub returns-in-Ok-Needs-clause-worked : goal.returns-in-Ok-Needs-clause-worked
returns-in-Ok-Needs-clause-worked g c = λ pages hand is.
    ran-needs pages hand (g.A.Area.pages c.args.files.now.area) (g.A.Area.pages c.go_on.new.files.area) c.args.program c.go_on.new.self c.in-Ok-Needs.field-0 c.in-Ok-Needs.need
    c.go_on.new.paper c.set.new.self c.in-Ok-Needs.field-0-is (c.in-Ok-Needs.ensures.came pages hand is)
    (ap (λ (s : Session). s.under_way) c.set.ensures ∙ c.awaiting.ensures) (ap (λ (s : Session). s.paper) c.set.ensures)

pub returns-in-Ok-Ends-clause-worked : goal.returns-in-Ok-Ends-clause-worked
returns-in-Ok-Ends-clause-worked g c = λ pages hand is.
    ran-ends pages hand (g.A.Area.pages c.args.files.now.area) (g.A.Area.pages c.go_on.new.files.area) c.args.program c.go_on.new.self c.in-Ok-Ends.field-0 c.in-Ok-Ends.printing
    c.go_on.new.paper c.print.result c.print.new.self c.in-Ok-Ends.field-0-is (c.in-Ok-Ends.ensures.came pages hand is)
    (λ lines line. c.print.ensures.worked (g.A.Area.pages c.go_on.new.files.area) pages lines line)

pub returns-in-Err-clause-worked : goal.returns-in-Err-clause-worked
returns-in-Err-clause-worked g c = λ pages hand is.
    rw c.as_work.ensures (ran-not pages hand (g.A.Area.pages c.args.files.now.area) (g.A.Area.pages c.go_on.new.files.area) c.args.program c.go_on.new.self c.in-Err.fault
    c.go_on.new.paper (record { alloc = c.args.self.now.alloc; paper = c.go_on.new.paper; under_way = c.args.self.now.under_way })
    (c.in-Err.ensures.came pages hand is))

pub returns-in-Ok-Needs-clause-may : goal.returns-in-Ok-Needs-clause-may
returns-in-Ok-Needs-clause-may g c =
    subst MayGoOn (sym (ap (λ (s : Session). s.under_way) c.set.ensures ∙ c.awaiting.ensures)) (ran-may c.in-Ok-Needs.field-0 c.in-Ok-Needs.need c.go_on.new.self c.in-Ok-Needs.field-0-is c.in-Ok-Needs.ensures.may)

use Rattle.std.proofs.Common.{sym, subst}
use Rattle.stack_machine.specs.Standing.{Standing}
use Rattle.stack_machine.specs.History.{StandsFor, CameTo}
use Rattle.stack_machine.specs.Shown.{shown}
use Rattle.stack_machine.proofs.Histories.{stands_further}
use Rattle.stack_machine.proofs.machine.Machine.run.Goals as goal

pub returns-clause-history : goal.returns-clause-history
returns-clause-history g c = λ replies calls before asked came stands.
    let m : Standing = record { code = c.self.inside.code; limit = c.self.inside.limit; state = shown c.self.inside.store } in
    stands_further m (shown c.run.new.self) replies calls before asked
    (subst (λ (n : Standing). CameTo n.code n.limit n.state replies calls (shown c.run.new.self)) (sym c.self.view_is) came)
    (subst (λ (n : Standing). StandsFor n before asked) (sym c.self.view_is) stands)

use Rattle.std.proofs.Common.{sym, subst}
use Rattle.stack_machine.specs.Run.{Runs}
use Rattle.stack_machine.specs.Standing.{Standing}
use Rattle.stack_machine.specs.History.{StandsFor, outcome_at}
use Rattle.stack_machine.specs.Shown.{shown}
use Rattle.stack_machine.proofs.Histories.{stands_on_pause}
use Rattle.stack_machine.proofs.machine.Machine.go.Goals as goal

pub returns-clause-runs : goal.returns-clause-runs
returns-clause-runs c =
    λ replies calls stands.
    let before : Standing = record { code = c.self.inside.code; limit = c.self.inside.limit; state = shown c.self.inside.store } in
    let on = stands_on_pause before c.go.result (shown c.go.new.self) replies calls c.go.ensures.pauses (subst (λ m. StandsFor m replies calls) (sym c.self.view_is) stands) in
    subst (λ (m : Standing). Runs m.code m.limit replies (outcome_at c.go.result calls)) c.self.view_is on.0

pub returns-clause-history : goal.returns-clause-history
returns-clause-history c =
    λ replies calls stands.
    let before : Standing = record { code = c.self.inside.code; limit = c.self.inside.limit; state = shown c.self.inside.store } in
    (stands_on_pause before c.go.result (shown c.go.new.self) replies calls c.go.ensures.pauses (subst (λ m. StandsFor m replies calls) (sym c.self.view_is) stands)).1

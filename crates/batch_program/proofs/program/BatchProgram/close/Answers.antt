use Rattle.std.proofs.Common.{sym, subst}
use Rattle.batch_program.specs.contracts.program.BatchProgram.{the_view}
use Rattle.batch_program.specs.Told.{IsAt}
use Rattle.batch_program.proofs.Steps.{stands_closed}
use Rattle.batch_program.proofs.program.BatchProgram.close.Goals as goal

pub returns-clause-stands : goal.returns-clause-stands
returns-clause-stands c =
    λ w given at. rw c.close.ensures (stands_closed (the_view c.self.inside) w given (subst (λ p. IsAt p w given) (sym c.self.view_is) at))

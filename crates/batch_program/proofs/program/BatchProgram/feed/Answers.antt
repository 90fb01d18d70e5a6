use Rattle.std.proofs.Common.{sym, subst}
use Rattle.batch_program.specs.contracts.program.BatchProgram.{the_view}
use Rattle.batch_program.specs.Progress.{NeedsCard}
use Rattle.batch_program.specs.Told.{IsAt}
use Rattle.batch_program.proofs.Steps.{stands_fed}
use Rattle.batch_program.proofs.program.BatchProgram.feed.Goals as goal

pub returns-clause-stands : goal.returns-clause-stands
returns-clause-stands c =
    let needs = subst NeedsCard (sym c.self.view_is) c.requires in
    λ w given at.
    rw c.feed.ensures.fed (stands_fed (the_view c.self.inside) w given c.args.card.now needs c.feed.ensures.line
    (subst (λ p. IsAt p w given) (sym c.self.view_is) at))

use Rattle.solo_devices.proofs.Harming.{gave, harmed_here, harmed_elsewhere}
use Rattle.solo_devices.proofs.hurt_area.HurtAreaArea.read.Goals as goal

pub returns-then-self-clause-harmed : goal.returns-then-self-clause-harmed
returns-then-self-clause-harmed c = rw (← c.self.view_is)
    (λ all page told found.
    harmed_here record { read = c.self.inside.read; at = c.self.inside.at; byte = c.self.inside.byte } c.saturating_add-self-inside.result page c.read.new.page.0
    (gave all c.args.n c.read.result page c.read.new.page.0 (c.read.ensures.page.told all told) c.read.ensures.cause.failed found) c.if-self.true)

pub returns-else-self-clause-harmed : goal.returns-else-self-clause-harmed
returns-else-self-clause-harmed c = rw (← c.self.view_is)
    (λ all page told found.
    harmed_elsewhere record { read = c.self.inside.read; at = c.self.inside.at; byte = c.self.inside.byte } c.saturating_add-self-inside.result page c.read.new.page.0
    (gave all c.args.n c.read.result page c.read.new.page.0 (c.read.ensures.page.told all told) c.read.ensures.cause.failed found) c.if-self.false)

use Rattle.std.proofs.Common.{sym, subst}
use Rattle.batch_job.specs.Places.{IsPart, Adds}
use Rattle.batch_job.proofs.Account.{holds-none}
use Rattle.batch_job.proofs.Adding.{adds-outside, adds-dropped}
use Rattle.batch_job.proofs.taking.add.Goals as goal

pub returns-in-Stretch : goal.returns-in-Stretch
returns-in-Stretch c = λ place at.
    adds-outside c.in-Stretch.count c.counted.result c.args.item.now place c.clear.new.self c.counted.ensures (holds-none c.clear.new.self c.clear.ensures)
    (subst (λ p. IsPart p place) c.in-Stretch.is at)

pub returns-in-Dropped : goal.returns-in-Dropped
returns-in-Dropped c = λ place at.
    subst (λ p. Adds place c.args.item.now c.clear-in-Dropped.new.self p) (sym c.in-Dropped.is)
    (adds-dropped c.args.item.now place c.clear-in-Dropped.new.self (holds-none c.clear-in-Dropped.new.self c.clear-in-Dropped.ensures)
    (subst (λ p. IsPart p place) c.in-Dropped.is at))

use Rattle.access_check.proofs.Climbing.{when_accepted}
use Rattle.access_check.proofs.judge.check.Goals as goal

pub returns-in-Ok-clause-no_cycle : goal.returns-in-Ok-clause-no_cycle
returns-in-Ok-clause-no_cycle c = when_accepted c.args.items.now c.in-Ok.answer c.in-Ok.ensures

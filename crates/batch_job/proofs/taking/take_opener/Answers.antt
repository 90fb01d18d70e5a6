use Rattle.std.proofs.Common.{refl}
use Rattle.batch_job.proofs.Account.{opens-by}
use Rattle.batch_job.proofs.taking.take_opener.Goals as goal

pub returns-clause-opens : goal.returns-clause-opens
returns-clause-opens c = λ place load left at is.
    opens-by place c.args.opener c.args.loads.now.given left load c.take_for-load.result _ c.in_ok-name.then c.in_ok-ending.ending c.in_ok-name.name
    c.heading.result is (c.take_for-load.ensures.load load left is).0 c.in_ok-name.ensures.part (c.in_ok-ending.ensures.lines place at)
    c.in_ok-name.ensures.name c.heading.ensures refl

use Rattle.solo_base.specs.declared.item.Item.TheVariants.{Spoiled}
use Rattle.solo_procs.proofs.JobNeeds.{begins, leaves, listens-on, same-commands}
use Rattle.solo_procs.proofs.job_proc.JobProc.listen.Goals as goal

pub returns-in-Card-clause-ready : goal.returns-in-Card-clause-ready
returns-in-Card-clause-ready g c = λ kept. rw c.in-Card.is (c.begin_command.ensures.ready kept)

pub returns-in-Spoiled-clause-ready : goal.returns-in-Spoiled-clause-ready
returns-in-Spoiled-clause-ready g c = λ kept. rw (c.in-Spoiled.is, c.toil.ensures) (begins g.C.Commands.awaits c.args.self.now Spoiled kept)

pub returns-in-End-clause-ready : goal.returns-in-End-clause-ready
returns-in-End-clause-ready g c = λ kept. rw c.in-End.is (leaves g.C.Commands.awaits c.args.self.now kept)

pub returns-in_default-clause-ready : goal.returns-in_default-clause-ready
returns-in_default-clause-ready g c = λ kept.
    listens-on g.C.Commands.awaits c.args.self.now c.args.typed c.in_default.not-Card c.in_default.not-Spoiled c.in_default.not-End kept

pub returns-in-Spoiled-clause-kept : goal.returns-in-Spoiled-clause-kept
returns-in-Spoiled-clause-kept g c = same-commands _ _ c.toil.ensures

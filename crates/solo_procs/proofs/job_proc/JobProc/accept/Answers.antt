use Rattle.std.proofs.Common.{refl}
use Rattle.solo_base.specs.declared.item.Item.TheVariants.{Line, Spoiled}
use Rattle.solo_base.specs.declared.item.Feed.TheVariants as feed
use Rattle.solo_law.specs.Work.{OfTyped}
use Rattle.solo_procs.specs.declared.commands.Given.TheVariants as given
use Rattle.solo_procs.proofs.JobNeeds.{accepts, accepts-on, same-commands}
use Rattle.solo_procs.proofs.job_proc.JobProc.accept.Goals as goal

pub returns-in-Card-clause-ready : goal.returns-in-Card-clause-ready
returns-in-Card-clause-ready g c = λ pages kept.
    rw (c.in-Card.is, c.toil.ensures) (accepts g.C.Commands.awaits c.args.self.now (OfTyped (feed.Item (Line c.in-Card.line)))
    (given.Typed (feed.Item (Line c.in-Card.line))) pages refl refl kept)

pub returns-in-Spoiled-clause-ready : goal.returns-in-Spoiled-clause-ready
returns-in-Spoiled-clause-ready g c = λ pages kept.
    rw (c.in-Spoiled.is, c.toil-in-Spoiled.ensures) (accepts g.C.Commands.awaits c.args.self.now (OfTyped (feed.Item Spoiled))
    (given.Typed (feed.Item Spoiled)) pages refl refl kept)

pub returns-in-End-clause-ready : goal.returns-in-End-clause-ready
returns-in-End-clause-ready g c = λ pages kept.
    rw (c.in-End.is, c.toil-in-End.ensures) (accepts g.C.Commands.awaits c.args.self.now (OfTyped feed.End) (given.Typed feed.End) pages refl refl kept)

pub returns-in_default-clause-ready : goal.returns-in_default-clause-ready
returns-in_default-clause-ready g c = λ pages kept.
    accepts-on g.C.Commands.awaits c.args.self.now c.args.typed c.in_default.not-Card c.in_default.not-Spoiled c.in_default.not-End pages kept

pub returns-in-Card-clause-kept : goal.returns-in-Card-clause-kept
returns-in-Card-clause-kept g c = same-commands _ _ c.toil.ensures

pub returns-in-Spoiled-clause-kept : goal.returns-in-Spoiled-clause-kept
returns-in-Spoiled-clause-kept g c = same-commands _ _ c.toil-in-Spoiled.ensures

pub returns-in-End-clause-kept : goal.returns-in-End-clause-kept
returns-in-End-clause-kept g c = same-commands _ _ c.toil-in-End.ensures

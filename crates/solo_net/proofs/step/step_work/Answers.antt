use Rattle.solo_law.specs.Actions as act
use Rattle.solo_net.proofs.Working.{at-work, work-steps, work-kept}
use Rattle.solo_net.proofs.step.step_work.Goals as goal

pub returns-in-Ok-clause-steps : goal.returns-in-Ok-clause-steps
returns-in-Ok-clause-steps g c h work stands next =
    let did = c.work-reply.ensures in
    work-kept _ _ _ _ _ _ _ _ _ _ _ h work c.in-Ok.ensures.kept
    (work-steps g.C.Commands.awaits g.C.Commands.sound g.C.Commands.faults g.C.Commands.plans g.C.Commands.follows g.C.Commands.passes
    c.args.machine.now.process.commands c.work-reply.new.self.process.commands c.args.files.now c.work-reply.new.files c.work-reply.new.self h work
    (at-work h work next) c.work-reply.result c.give.new.self (did.works h work stands next) did.sound did.failed did.counts
    (did.follows h work stands next) (λ answer tracks fits told. c.in-Ok.ensures.ok h (act.Works work) answer tracks next fits told))

pub returns-in-Err-clause-steps : goal.returns-in-Err-clause-steps
returns-in-Err-clause-steps g c h work stands next =
    let did = c.work-reply.ensures in
    work-kept _ _ _ _ _ _ _ _ _ _ _ h work c.in-Err.ensures.kept
    (work-steps g.C.Commands.awaits g.C.Commands.sound g.C.Commands.faults g.C.Commands.plans g.C.Commands.follows g.C.Commands.passes
    c.args.machine.now.process.commands c.work-reply.new.self.process.commands c.args.files.now c.work-reply.new.files c.work-reply.new.self h work
    (at-work h work next) c.work-reply.result c.give.new.self (did.works h work stands next) did.sound did.failed did.counts
    (did.follows h work stands next)
    (λ answer tracks fits told. absurd (c.in-Err.ensures.err h (act.Works work) answer tracks next fits told).tracks.follows.1.1))

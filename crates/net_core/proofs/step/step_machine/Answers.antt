use Rattle.net_core.proofs.Stepping.{next-is, steps-delayed, steps-acted, steps-lacking}
use Rattle.net_core.proofs.step.step_machine.Goals as goal

pub returns-in-None : goal.returns-in-None
returns-in-None g c h action stands next =
    steps-delayed g.J.HasJobs.are_jobs _ _ _ c.args.shared.now c.perform.new.self c.args.p action c.next-action.result h
    (next-is _ action c.next-action.result (c.next-action.ensures.next h stands) next) c.in-None.ensures.performs c.in-None.ensures.causes
    (λ may. c.next-action.ensures.waits h action stands next may)

pub returns-in-Ok : goal.returns-in-Ok
returns-in-Ok g c h action stands next =
    steps-acted g.J.HasJobs.are_jobs _ _ _ c.args.shared.now c.perform.new.self c.args.p action c.next-action.result h
    (next-is _ action c.next-action.result (c.next-action.ensures.next h stands) next) c.goes-goes.result
    c.goes-goes.ensures c.in-Some.reply c.in-Some.ensures.performs
    c.in-Some.ensures.causes (λ fits. c.in-Ok.ensures.ok h action stands next fits)

pub returns-in-Err : goal.returns-in-Err
returns-in-Err g c h action stands next =
    steps-lacking g.J.HasJobs.are_jobs _ _ _ c.args.shared.now c.perform.new.self c.args.p action c.next-action.result h
    (next-is _ action c.next-action.result (c.next-action.ensures.next h stands) next) c.goes-goes.result
    c.goes-goes.ensures c.in-Some.reply c.in-Some.ensures.performs
    c.in-Some.ensures.causes (λ fits. c.in-Err.ensures.err h action stands next fits) (λ new. new.follows.1.1)

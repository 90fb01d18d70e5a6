use Rattle.twin_net.proofs.Stepping.{next-meant, steps-delayed, steps-acted, steps-lacking}
use Rattle.twin_net.proofs.step.step_machine.Goals as goal

pub returns-in-None : goal.returns-in-None
returns-in-None g c h action stands next =
    steps-delayed g.J.HasJobs.jobs g.P.TwinProc.process _ _ _ c.args.shared.now c.perform.new.self c.args.p action c.next-action.result h
    (next-meant _ action c.next-action.result (c.next-action.ensures.next h stands) next) c.in-None.ensures (c.next-action.ensures.waits h action stands)

pub returns-in-Ok : goal.returns-in-Ok
returns-in-Ok g c h action stands next =
    steps-acted g.J.HasJobs.jobs g.P.TwinProc.process _ _ _ c.args.shared.now c.perform.new.self c.args.p action c.next-action.result h
    (next-meant _ action c.next-action.result (c.next-action.ensures.next h stands) next) c.is_end-ends.result c.is_again-again.result c.stepped.result
    c.stepped.ensures c.is_end-ends.ensures (λ s stood place. c.is_again-again.ensures s stood place) c.in-Some.reply c.in-Some.ensures
    (λ fits. c.in-Ok.ensures.ok h action stands next fits)

pub returns-in-Err : goal.returns-in-Err
returns-in-Err g c h action stands next =
    steps-lacking g.J.HasJobs.jobs g.P.TwinProc.process _ _ _ c.args.shared.now c.perform.new.self c.args.p action c.next-action.result h
    (next-meant _ action c.next-action.result (c.next-action.ensures.next h stands) next) c.is_end-ends.result c.is_again-again.result
    c.stepped-in-Err.result c.stepped-in-Err.ensures c.is_end-ends.ensures (λ s stood place. c.is_again-again.ensures s stood place) c.in-Some.reply
    c.in-Some.ensures (λ fits. c.in-Err.ensures.err h action stands next fits)

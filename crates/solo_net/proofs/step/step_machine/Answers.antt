use Rattle.solo_net.proofs.Stepping.{next-said, may-unsaid, told-heard, steps-delayed, steps-acted, steps-lacking}
use Rattle.solo_net.proofs.step.step_machine.Goals as goal

pub perform-requires : goal.perform-requires
perform-requires g c = record {
  may =
      let m = c.requires.may in
      may-unsaid c.args.shared.now c.args.p c.next-action.result m.action
      (next-said _ c.next-action.result m.action (c.next-action.ensures.next m.history m.stands) m.next) m.no_work m.may;
}

pub returns-in-None-clause-steps : goal.returns-in-None-clause-steps
returns-in-None-clause-steps g c h action no_work stands next =
    steps-delayed _ _ c.args.shared.now c.perform.new.self c.args.p action c.next-action.result h
    (next-said _ c.next-action.result action (c.next-action.ensures.next h stands) next) no_work c.in-None.ensures.performs
    (λ may. c.next-action.ensures.waits h action stands next may)

pub returns-in-Ok-clause-steps : goal.returns-in-Ok-clause-steps
returns-in-Ok-clause-steps g c h action no_work stands next =
    steps-acted _ _ c.args.shared.now c.perform.new.self c.args.p action c.next-action.result h
    (next-said _ c.next-action.result action (c.next-action.ensures.next h stands) next) no_work c.goes-goes.result
    (λ s stood place. c.goes-goes.ensures c.args.p s stood place) c.in-Some.reply c.in-Some.ensures.performs
    (λ fits. c.in-Ok.ensures.ok h action _ stands.tracks next fits (told-heard _ _ _ g.P.Proc.came c.args.machine.now h c.in-Some.reply stands))

pub returns-in-Err-clause-steps : goal.returns-in-Err-clause-steps
returns-in-Err-clause-steps g c h action no_work stands next =
    steps-lacking _ _ c.args.shared.now c.perform.new.self c.args.p action c.next-action.result h
    (next-said _ c.next-action.result action (c.next-action.ensures.next h stands) next) no_work c.goes-goes.result
    (λ s stood place. c.goes-goes.ensures c.args.p s stood place) c.in-Some.reply
    c.in-Some.ensures.performs
    (λ fits. c.in-Err.ensures.err h action _ stands.tracks next fits (told-heard _ _ _ g.P.Proc.came c.args.machine.now h c.in-Some.reply stands))
    (λ new. new.tracks.follows.1.1)

use Rattle.std.proofs.Common.{Some, refl, sym, ◌∙◌, ap}
use Rattle.solo_net.proofs.NetSteps.{at-job}
use Rattle.solo_net.proofs.WorkStep.{work-sound, is-at-work, at-work_step}
use Rattle.solo_net.proofs.Stepped.{is-work, is-no_work, may-step, may-two, input-goes, job-goes, output-goes, no-work-one, no-work-three}
use Rattle.solo_net.proofs.Turning.{last-number}
use Rattle.solo_net.proofs.net.SoloNetNetwork.step.Goals as goal

pub step_machine-requires : goal.step_machine-requires
step_machine-requires g c = record {
  may =
      may-step _ _ c.args.self.now c.args.p 1 _ c.if-p-eq1.true c.requires.may c.requires.may.at.stands.input
      (no-work-one _ _ c.args.self.now c.args.p c.if-p-eq1.true c.requires.may);
}

pub step_work-requires : goal.step_work-requires
step_work-requires g c =
    let m = may-two _ _ c.args.self.now c.args.p c.if-p-eq2.true c.requires.may in
    let says = c.next-action.ensures.next (m.at.state.histories 2) m.at.stands.job in
    let is = is-work _ c.next-action.result m.may.action says m.may.next (sym c.is_work.ensures ∙ c.if-is_work.true) in
    let next = m.may.next ∙ ap Some is.is in
    record { sound = work-sound _ _ c.args.self.now m.at is.work next; at = is-at-work _ _ c.args.self.now m.at is.work next }

pub step_machine-requires-else-is_work : goal.step_machine-requires-else-is_work
step_machine-requires-else-is_work g c =
    let m = may-two _ _ c.args.self.now c.args.p c.if-p-eq2.true c.requires.may in
    let says = c.next-action.ensures.next (m.at.state.histories 2) m.at.stands.job in
    let none = is-no_work _ c.next-action.result m.may.action says m.may.next (sym c.is_work.ensures ∙ c.if-is_work.false) in
    record { may = may-step _ _ c.args.self.now 2 2 _ refl m m.at.stands.job none }

pub step_machine-requires-else-p-eq2 : goal.step_machine-requires-else-p-eq2
step_machine-requires-else-p-eq2 g c =
    let last = last-number c.args.p c.requires.may.may.one c.if-p-eq1.false c.if-p-eq2.false in
    record {
      may =
          may-step _ _ c.args.self.now c.args.p 3 _ last c.requires.may c.requires.may.at.stands.output
          (no-work-three _ _ c.args.self.now c.args.p last c.requires.may);
    }

pub returns-then-p-eq1 : goal.returns-then-p-eq1
returns-then-p-eq1 g c = record {
  steps =
      input-goes _ _ c.args.self.now c.args.p c.step_machine.new.machine c.step_machine.new.shared c.step_machine.result c.if-p-eq1.true
      c.step_machine.ensures.steps;
}

pub returns-then-is_work : goal.returns-then-is_work
returns-then-is_work g c = record {
  steps =
      job-goes _ _ c.args.self.now c.args.p _ c.step_work.result c.if-p-eq2.true (λ at may.
      let says = c.next-action.ensures.next (at.state.histories 2) at.stands.job in
      let is = is-work _ c.next-action.result may.action says may.next (sym c.is_work.ensures ∙ c.if-is_work.true) in
      let next = may.next ∙ ap Some is.is in
      at-work_step _ _ c.args.self.now at is.work next c.step_work.new.machine c.step_work.new.files
      (c.step_work.ensures.steps (at.state.histories 2) is.work at.stands.job next) c.step_work.result c.step_work.ensures.acted);
}

pub returns-else-is_work : goal.returns-else-is_work
returns-else-is_work g c = record {
  steps =
      job-goes _ _ c.args.self.now c.args.p _ c.step_machine-else-is_work.result c.if-p-eq2.true (λ at may.
      let says = c.next-action.ensures.next (at.state.histories 2) at.stands.job in
      let none = is-no_work _ c.next-action.result may.action says may.next (sym c.is_work.ensures ∙ c.if-is_work.false) in
      at-job _ _ c.args.self.now at c.step_machine-else-is_work.new.machine c.step_machine-else-is_work.new.shared c.step_machine-else-is_work.result may
      none c.step_machine-else-is_work.ensures.kept
      (c.step_machine-else-is_work.ensures.steps (at.state.histories 2) may.action none at.stands.job may.next));
}

pub returns-else-p-eq2 : goal.returns-else-p-eq2
returns-else-p-eq2 g c = record {
  steps =
      output-goes _ _ c.args.self.now c.args.p c.step_machine-else-p-eq2.new.machine c.step_machine-else-p-eq2.new.shared
      c.step_machine-else-p-eq2.result (last-number c.args.p c.requires.may.may.one c.if-p-eq1.false c.if-p-eq2.false)
      c.step_machine-else-p-eq2.ensures.steps;
}

use Rattle.twin_net.proofs.NetSteps.{may-step, steps-at, next-at, in-step, last-number, at-card, at-input, at-job_a, at-job_b, at-output, at-printer}
use Rattle.twin_net.proofs.net.TwinNetNetwork.step.Goals as goal

pub step_machine-requires : goal.step_machine-requires
step_machine-requires g c = record {
  may = may-step g.J.HasJobs.are_jobs g.J.JobWork.keeps _ c.args.self.now c.args.p 1 _ c.if-p-eq1.true c.requires.may c.requires.may.at.stands.is.card;
}

pub step_machine-requires-then-p-eq2 : goal.step_machine-requires-then-p-eq2
step_machine-requires-then-p-eq2 g c = record {
  may = may-step g.J.HasJobs.are_jobs g.J.JobWork.keeps _ c.args.self.now c.args.p 2 _ c.if-p-eq2.true c.requires.may c.requires.may.at.stands.is.input;
}

pub step_machine-requires-then-p-eq3 : goal.step_machine-requires-then-p-eq3
step_machine-requires-then-p-eq3 g c = record {
  may = may-step g.J.HasJobs.are_jobs g.J.JobWork.keeps _ c.args.self.now c.args.p 3 _ c.if-p-eq3.true c.requires.may c.requires.may.at.stands.is.job_a;
}

pub step_machine-requires-then-p-eq4 : goal.step_machine-requires-then-p-eq4
step_machine-requires-then-p-eq4 g c = record {
  may = may-step g.J.HasJobs.are_jobs g.J.JobWork.keeps _ c.args.self.now c.args.p 4 _ c.if-p-eq4.true c.requires.may c.requires.may.at.stands.is.job_b;
}

pub step_machine-requires-then-p-eq5 : goal.step_machine-requires-then-p-eq5
step_machine-requires-then-p-eq5 g c = record {
  may = may-step g.J.HasJobs.are_jobs g.J.JobWork.keeps _ c.args.self.now c.args.p 5 _ c.if-p-eq5.true c.requires.may c.requires.may.at.stands.is.output;
}

pub step_machine-requires-else-p-eq5 : goal.step_machine-requires-else-p-eq5
step_machine-requires-else-p-eq5 g c = record {
  may = may-step g.J.HasJobs.are_jobs g.J.JobWork.keeps _ c.args.self.now c.args.p 6 _
      (last-number c.args.p c.requires.may.may.one c.if-p-eq1.false c.if-p-eq2.false c.if-p-eq3.false c.if-p-eq4.false c.if-p-eq5.false) c.requires.may
      c.requires.may.at.stands.is.printer;
}

pub returns-then-p-eq1 : goal.returns-then-p-eq1
returns-then-p-eq1 g c = record {
  steps = λ at may.
      steps-at g.J.HasJobs.are_jobs g.J.JobWork.keeps _ _ c.args.self.now
      (record c.args.self.now { card = c.step_machine.new.machine; shared = c.step_machine.new.shared; room = c.step_machine.new.room }) at.state _ _ c.args.p 1
      may.action c.step_machine.result (at.state.histories 1) c.if-p-eq1.true
      (at-card g.J.HasJobs.are_jobs g.J.JobWork.keeps _ _ c.args.self.now at.opening at.state at.reached at.stands c.step_machine.new.machine
      c.step_machine.new.shared c.step_machine.new.room may.action c.step_machine.result)
      (in-step g.J.HasJobs.jobs at.state c.args.p may)
      (c.step_machine.ensures (at.state.histories 1) may.action at.stands.is.card
      (next-at g.J.HasJobs.jobs at.state c.args.p 1 may.action c.if-p-eq1.true
      (in-step g.J.HasJobs.jobs at.state c.args.p may)));
}

pub returns-then-p-eq2 : goal.returns-then-p-eq2
returns-then-p-eq2 g c = record {
  steps = λ at may.
      steps-at g.J.HasJobs.are_jobs g.J.JobWork.keeps _ _ c.args.self.now
      (record c.args.self.now { input = c.step_machine-then-p-eq2.new.machine; shared = c.step_machine-then-p-eq2.new.shared; room = c.step_machine-then-p-eq2.new.room }) at.state _ _ c.args.p 2
      may.action c.step_machine-then-p-eq2.result (at.state.histories 2) c.if-p-eq2.true
      (at-input g.J.HasJobs.are_jobs g.J.JobWork.keeps _ _ c.args.self.now at.opening at.state at.reached at.stands c.step_machine-then-p-eq2.new.machine
      c.step_machine-then-p-eq2.new.shared c.step_machine-then-p-eq2.new.room may.action c.step_machine-then-p-eq2.result)
      (in-step g.J.HasJobs.jobs at.state c.args.p may)
      (c.step_machine-then-p-eq2.ensures (at.state.histories 2) may.action at.stands.is.input
      (next-at g.J.HasJobs.jobs at.state c.args.p 2 may.action c.if-p-eq2.true
      (in-step g.J.HasJobs.jobs at.state c.args.p may)));
}

pub returns-then-p-eq3 : goal.returns-then-p-eq3
returns-then-p-eq3 g c = record {
  steps = λ at may.
      steps-at g.J.HasJobs.are_jobs g.J.JobWork.keeps _ _ c.args.self.now
      (record c.args.self.now { job_a = c.step_machine-then-p-eq3.new.machine; shared = c.step_machine-then-p-eq3.new.shared; room = c.step_machine-then-p-eq3.new.room }) at.state _ _ c.args.p 3
      may.action c.step_machine-then-p-eq3.result (at.state.histories 3) c.if-p-eq3.true
      (at-job_a g.J.HasJobs.are_jobs g.J.JobWork.keeps _ _ c.args.self.now at.opening at.state at.reached at.stands c.step_machine-then-p-eq3.new.machine
      c.step_machine-then-p-eq3.new.shared c.step_machine-then-p-eq3.new.room may.action c.step_machine-then-p-eq3.result)
      (in-step g.J.HasJobs.jobs at.state c.args.p may)
      (c.step_machine-then-p-eq3.ensures (at.state.histories 3) may.action at.stands.is.job_a
      (next-at g.J.HasJobs.jobs at.state c.args.p 3 may.action c.if-p-eq3.true
      (in-step g.J.HasJobs.jobs at.state c.args.p may)));
}

pub returns-then-p-eq4 : goal.returns-then-p-eq4
returns-then-p-eq4 g c = record {
  steps = λ at may.
      steps-at g.J.HasJobs.are_jobs g.J.JobWork.keeps _ _ c.args.self.now
      (record c.args.self.now { job_b = c.step_machine-then-p-eq4.new.machine; shared = c.step_machine-then-p-eq4.new.shared; room = c.step_machine-then-p-eq4.new.room }) at.state _ _ c.args.p 4
      may.action c.step_machine-then-p-eq4.result (at.state.histories 4) c.if-p-eq4.true
      (at-job_b g.J.HasJobs.are_jobs g.J.JobWork.keeps _ _ c.args.self.now at.opening at.state at.reached at.stands c.step_machine-then-p-eq4.new.machine
      c.step_machine-then-p-eq4.new.shared c.step_machine-then-p-eq4.new.room may.action c.step_machine-then-p-eq4.result)
      (in-step g.J.HasJobs.jobs at.state c.args.p may)
      (c.step_machine-then-p-eq4.ensures (at.state.histories 4) may.action at.stands.is.job_b
      (next-at g.J.HasJobs.jobs at.state c.args.p 4 may.action c.if-p-eq4.true
      (in-step g.J.HasJobs.jobs at.state c.args.p may)));
}

pub returns-then-p-eq5 : goal.returns-then-p-eq5
returns-then-p-eq5 g c = record {
  steps = λ at may.
      steps-at g.J.HasJobs.are_jobs g.J.JobWork.keeps _ _ c.args.self.now
      (record c.args.self.now { output = c.step_machine-then-p-eq5.new.machine; shared = c.step_machine-then-p-eq5.new.shared; room = c.step_machine-then-p-eq5.new.room }) at.state _ _ c.args.p 5
      may.action c.step_machine-then-p-eq5.result (at.state.histories 5) c.if-p-eq5.true
      (at-output g.J.HasJobs.are_jobs g.J.JobWork.keeps _ _ c.args.self.now at.opening at.state at.reached at.stands c.step_machine-then-p-eq5.new.machine
      c.step_machine-then-p-eq5.new.shared c.step_machine-then-p-eq5.new.room may.action c.step_machine-then-p-eq5.result)
      (in-step g.J.HasJobs.jobs at.state c.args.p may)
      (c.step_machine-then-p-eq5.ensures (at.state.histories 5) may.action at.stands.is.output
      (next-at g.J.HasJobs.jobs at.state c.args.p 5 may.action c.if-p-eq5.true
      (in-step g.J.HasJobs.jobs at.state c.args.p may)));
}

pub returns-else-p-eq5 : goal.returns-else-p-eq5
returns-else-p-eq5 g c = record {
  steps = λ at may.
      steps-at g.J.HasJobs.are_jobs g.J.JobWork.keeps _ _ c.args.self.now
      (record c.args.self.now { printer = c.step_machine-else-p-eq5.new.machine; shared = c.step_machine-else-p-eq5.new.shared; room = c.step_machine-else-p-eq5.new.room }) at.state _ _ c.args.p 6
      may.action c.step_machine-else-p-eq5.result (at.state.histories 6)
      (last-number c.args.p may.one c.if-p-eq1.false c.if-p-eq2.false c.if-p-eq3.false c.if-p-eq4.false c.if-p-eq5.false)
      (at-printer g.J.HasJobs.are_jobs g.J.JobWork.keeps _ _ c.args.self.now at.opening at.state at.reached at.stands c.step_machine-else-p-eq5.new.machine
      c.step_machine-else-p-eq5.new.shared c.step_machine-else-p-eq5.new.room may.action c.step_machine-else-p-eq5.result)
      (in-step g.J.HasJobs.jobs at.state c.args.p may)
      (c.step_machine-else-p-eq5.ensures (at.state.histories 6) may.action at.stands.is.printer
      (next-at g.J.HasJobs.jobs at.state c.args.p 6 may.action
      (last-number c.args.p may.one c.if-p-eq1.false c.if-p-eq2.false c.if-p-eq3.false c.if-p-eq4.false c.if-p-eq5.false)
      (in-step g.J.HasJobs.jobs at.state c.args.p may)));
}

use Rattle.batch_procs.proofs.Machines.{gives-done, gives-lacking}
use Rattle.batch_procs.proofs.machine.Machine.give.Goals as goal

pub returns-in-Ok-clause-ok : goal.returns-in-Ok-clause-ok
returns-in-Ok-clause-ok g c =
    gives-done g.J.HasJobs.jobs g.W.Work.process g.W.Work.keeps c.args.self.now c.answer.new.work c.next-action.result c.args.reply c.in-Ok.cause _ _ _
    g.met.W.Work.relay
    (c.in-Ok.ensures c.next-action.result c.of-done.ensures c.fault_at-fault.ensures) c.next-action.ensures.next c.after-step.ensures c.add_cause.ensures c.stops_after-stops.ensures

pub returns-in-Err-clause-err : goal.returns-in-Err-clause-err
returns-in-Err-clause-err g c =
    gives-lacking g.J.HasJobs.jobs g.W.Work.process g.W.Work.keeps c.args.self.now c.answer.new.work c.next-action.result c.args.reply c.in-Err.refused _ _ _
    (c.in-Err.ensures c.next-action.result c.of-done.ensures c.fault_at-fault.ensures)
    c.next-action.ensures.next c.after-step.ensures c.add_cause-in-Err.ensures c.stops_after-stops.ensures

pub returns-in-Err-clause-works : goal.returns-in-Err-clause-works
returns-in-Err-clause-works g c = (c.in-Err.ensures c.next-action.result c.of-done.ensures c.fault_at-fault.ensures).lacks.0

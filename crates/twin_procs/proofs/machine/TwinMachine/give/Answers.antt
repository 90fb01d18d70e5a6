use Rattle.twin_procs.proofs.Machines.{gives-done, gives-lacking}
use Rattle.twin_procs.proofs.machine.TwinMachine.give.Goals as goal

pub returns-in-Ok-clause-ok : goal.returns-in-Ok-clause-ok
returns-in-Ok-clause-ok g c =
    gives-done g.P.TwinProc.process g.P.TwinProc.stands c.args.self.now c.answer.new.process c.next-action.result c.args.reply g.met.P.TwinProc.closes
    c.next-action.ensures.next c.in-Ok.cause _ _ _ c.in-Ok.ensures c.step_after-self.ensures c.add_cause.ensures c.stops_after-self.ensures

pub returns-in-Err-clause-err : goal.returns-in-Err-clause-err
returns-in-Err-clause-err g c =
    gives-lacking g.P.TwinProc.process g.P.TwinProc.stands c.args.self.now c.answer.new.process c.next-action.result c.args.reply g.met.P.TwinProc.closes
    c.next-action.ensures.next c.in-Err.refused _ _ _ c.in-Err.ensures c.step_after-self.ensures c.add_cause-in-Err.ensures c.stops_after-self.ensures

use Rattle.twin_procs.proofs.Answering.{answers-stopped, answers-failed, answers-lacking, answers-take, handed-over}
use Rattle.twin_procs.proofs.machine.answer.Goals as goal

pub returns-in-Stopped : goal.returns-in-Stopped
returns-in-Stopped g c = rw c.in-Stopped.is (answers-stopped g.P.TwinProc.process g.P.TwinProc.stands c.args.process.now c.args.process.now c.args.action.now)

pub returns-in-Failed : goal.returns-in-Failed
returns-in-Failed g c = rw (c.in-Failed.is, c.fault_at.ensures) (answers-failed g.P.TwinProc.process g.P.TwinProc.stands c.args.process.now c.args.process.now
    c.args.action.now)

pub returns-in-NoMemory : goal.returns-in-NoMemory
returns-in-NoMemory g c = rw c.in-NoMemory.is (answers-lacking g.P.TwinProc.process g.P.TwinProc.stands c.args.process.now c.args.process.now c.args.action.now)

pub returns-in_default : goal.returns-in_default
returns-in_default g c =
    answers-take g.P.TwinProc.process g.P.TwinProc.stands c.args.process.now c.take.new.self c.args.action.now c.args.reply c.take.result
    (handed-over c.args.reply c.in_default.not-Done c.in_default.not-Stopped c.in_default.not-Failed c.in_default.not-NoMemory) c.take.ensures.ok
    c.take.ensures.err

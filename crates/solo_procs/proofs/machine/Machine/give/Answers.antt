use Rattle.solo_procs.proofs.Machines.{gives-done, gives-lacking}
use Rattle.solo_procs.proofs.machine.Machine.give.Goals as goal

pub returns-in-Some-clause-ok : goal.returns-in-Some-clause-ok
returns-in-Some-clause-ok g c = λ h a r st next fits told. c.close.ensures.closes h a r _ st c.in-Some.is next fits

pub returns-in-Ok-clause-ok : goal.returns-in-Ok-clause-ok
returns-in-Ok-clause-ok g c =
    gives-done g.P.Proc.process g.P.Proc.is_at g.P.Proc.ready g.P.Proc.came c.args.self.now c.does-action.result c.args.reply c.answer.new.process
    g.met.P.Proc.stands g.met.P.Proc.closes c.in-None.is c.does-action.ensures c.in-Ok.cause c.is_end-self.result
    c.is_end-self.ensures c.in-Ok.ensures.uses

pub returns-in-Err-clause-err : goal.returns-in-Err-clause-err
returns-in-Err-clause-err g c =
    gives-lacking g.P.Proc.process g.P.Proc.is_at g.P.Proc.ready g.P.Proc.came c.args.self.now c.does-action.result c.args.reply c.answer.new.process
    g.met.P.Proc.stands g.met.P.Proc.closes c.in-None.is c.does-action.ensures c.in-Err.refused c.in-Err.ensures.uses

pub returns-in-Err-clause-lacks : goal.returns-in-Err-clause-lacks
returns-in-Err-clause-lacks g c = c.in-Err.ensures.uses.lacks.0

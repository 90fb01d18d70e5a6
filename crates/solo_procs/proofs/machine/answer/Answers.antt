use Rattle.solo_procs.proofs.Answering.{answers-done, answers-stopped, answers-failed, answers-lacking, answers-card, answers-arg, answers-page}
use Rattle.solo_procs.proofs.machine.answer.Goals as goal

pub returns-in-Done-clause-uses : goal.returns-in-Done-clause-uses
returns-in-Done-clause-uses g c =
    rw c.in-Done.is (answers-done g.P.Proc.process g.P.Proc.ready g.P.Proc.came c.args.process.now c.done.new.self c.args.action.now g.met.P.Proc.closes
    c.done.ensures.ready)

pub returns-in-Stopped-clause-uses : goal.returns-in-Stopped-clause-uses
returns-in-Stopped-clause-uses g c =
    rw c.in-Stopped.is (answers-stopped g.P.Proc.process g.P.Proc.ready g.P.Proc.came c.args.process.now c.args.process.now c.args.action.now
    g.met.P.Proc.closes)

pub returns-in-Failed-clause-uses : goal.returns-in-Failed-clause-uses
returns-in-Failed-clause-uses g c =
    rw (c.in-Failed.is, c.fault_at.ensures) (answers-failed g.P.Proc.process g.P.Proc.ready g.P.Proc.came c.args.process.now c.args.process.now
    c.args.action.now g.met.P.Proc.closes)

pub returns-in-NoMemory-clause-uses : goal.returns-in-NoMemory-clause-uses
returns-in-NoMemory-clause-uses g c =
    rw c.in-NoMemory.is (answers-lacking g.P.Proc.process g.P.Proc.ready g.P.Proc.came c.args.process.now c.args.process.now c.args.action.now
    g.met.P.Proc.closes)

pub returns-in-Card-clause-uses : goal.returns-in-Card-clause-uses
returns-in-Card-clause-uses g c =
    rw (c.in-Card.is, c.fault_read-cause.ensures) (answers-card g.P.Proc.process g.P.Proc.ready g.P.Proc.came c.args.process.now c.card.new.self
    c.args.action.now g.met.P.Proc.closes c.in-Card.card c.card.ensures.ready)

pub returns-in-Arg-clause-uses : goal.returns-in-Arg-clause-uses
returns-in-Arg-clause-uses g c =
    rw c.in-Arg.is (answers-arg g.P.Proc.process g.P.Proc.ready g.P.Proc.came c.args.process.now c.arg.new.self c.args.action.now g.met.P.Proc.closes
    c.in-Arg.arg c.arg.ensures.ready)

pub returns-in-Page-clause-uses : goal.returns-in-Page-clause-uses
returns-in-Page-clause-uses g c =
    rw c.in-Page.is (answers-page g.P.Proc.process g.P.Proc.ready g.P.Proc.came c.args.process.now c.page.new.self c.args.action.now g.met.P.Proc.closes
    c.in-Page.page c.page.result c.page.ensures.ok c.page.ensures.err)

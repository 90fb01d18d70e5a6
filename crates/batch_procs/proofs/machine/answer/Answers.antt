use Rattle.std.proofs.Common.{Some, refl, sym, ◌∙◌, ap}
use Rattle.solo_base.specs.declared.outcome.Outcome.TheVariants as outcome
use Rattle.solo_base.specs.declared.outcome.Cause.TheVariants as cause
use Rattle.batch_procs.specs.declared.actions.Reply.TheVariants as reply
use Rattle.batch_procs.proofs.Answering.{handed, answers-take, answers-load, answers-cause}
use Rattle.batch_procs.proofs.machine.answer.Goals as goal

pub returns-in-Loaded : goal.returns-in-Loaded
returns-in-Loaded g c = λ action done fault.
    answers-load g.J.HasJobs.jobs g.W.Work.process g.W.Work.keeps c.args.work.now c.load.new.self action c.args.reply c.in-Loaded.load
    g.met.W.Work.relay
    c.in-Loaded.is c.load.ensures

pub returns-in_default : goal.returns-in_default
returns-in_default g c = λ action done fault.
    answers-take g.J.HasJobs.jobs g.W.Work.process g.W.Work.keeps c.args.work.now c.take.new.self action c.args.reply c.take.result
    (handed g.J.HasJobs.jobs c.args.reply c.in_default.not-Done c.in_default.not-Stopped c.in_default.not-Failed c.in_default.not-NoMemory
    c.in_default.not-Loaded)
    c.take.ensures.ok c.take.ensures.err

pub returns-in-Stopped : goal.returns-in-Stopped
returns-in-Stopped g c = λ action done fault.
    answers-cause g.J.HasJobs.jobs g.W.Work.process g.W.Work.keeps c.args.work.now _ action c.args.reply reply.Stopped outcome.Stopped
    c.in-Stopped.is (λ h. refl)

pub returns-in-Failed : goal.returns-in-Failed
returns-in-Failed g c = λ action done fault.
    answers-cause g.J.HasJobs.jobs g.W.Work.process g.W.Work.keeps c.args.work.now _ action c.args.reply reply.Failed
    (outcome.Fault c.args.fault) c.in-Failed.is (λ h. ap (λ c. Some (outcome.Fault c)) (sym fault))

pub returns-in-NoMemory : goal.returns-in-NoMemory
returns-in-NoMemory g c = λ action done fault.
    answers-cause g.J.HasJobs.jobs g.W.Work.process g.W.Work.keeps c.args.work.now _ action c.args.reply reply.NoMemory
    (outcome.Fault cause.NoMemory) c.in-NoMemory.is (λ h. refl)

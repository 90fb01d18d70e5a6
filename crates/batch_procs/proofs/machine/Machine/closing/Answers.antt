use Rattle.std.proofs.Common.{◌∙◌, sym}
use Rattle.batch_procs.specs.declared.actions.Action.TheVariants as act
use Rattle.batch_procs.proofs.Machines.{next-closes, closes-release, closes-stop, closes-end}
use Rattle.batch_procs.proofs.machine.Machine.closing.Goals as goal

pub returns-then-holds_disk : goal.returns-then-holds_disk
returns-then-holds_disk g c = λ h st is.
    let relay = g.met.W.Work.relay in
    next-closes g.J.HasJobs.jobs st relay c.args.cause act.Release is (closes-release g.J.HasJobs.jobs st relay c.args.cause (sym c.holds_disk.ensures
    ∙ c.if-holds_disk.true))

pub returns-in-Some : goal.returns-in-Some
returns-in-Some g c = λ h st is.
    let relay = g.met.W.Work.relay in
    next-closes g.J.HasJobs.jobs st relay c.args.cause (act.Stop c.in-Some.buffer) is
    (closes-stop g.J.HasJobs.jobs st relay c.args.cause c.in-Some.buffer (sym c.holds_disk.ensures ∙ c.if-holds_disk.false) (sym c.buffer.ensures
    ∙ c.in-Some.is))

pub returns-in-None : goal.returns-in-None
returns-in-None g c = λ h st is.
    let relay = g.met.W.Work.relay in
    next-closes g.J.HasJobs.jobs st relay c.args.cause (act.Ended c.args.cause) is
    (closes-end g.J.HasJobs.jobs st relay c.args.cause (sym c.holds_disk.ensures ∙ c.if-holds_disk.false) (sym c.buffer.ensures ∙ c.in-None.is))

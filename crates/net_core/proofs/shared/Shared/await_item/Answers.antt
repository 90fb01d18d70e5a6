use Rattle.std.proofs.Common.{refl, ap}
use Rattle.solo_base.specs.declared.outcome.Side.TheVariants.{Receiver}
use Rattle.batch_procs.specs.declared.actions.Action.TheVariants as act
use Rattle.network_law.specs.Acts.{Awaits}
use Rattle.core_law.specs.Core.{call}
use Rattle.net_core.specs.Shared.{WaitsAt}
use Rattle.net_core.proofs.Causing.{quiet-causes}
use Rattle.net_core.proofs.Performing.{at-second, at-input, at-output}
use Rattle.net_core.proofs.shared.Shared.await_item.Goals as goal

pub returns-then-p-eq3-clause-performs : goal.returns-then-p-eq3-clause-performs
returns-then-p-eq3-clause-performs g c =
    at-input g.J.HasJobs.are_jobs _ c.args.self.now c.args.p act.AwaitItem c.await_item.result c.await_item.new.spool Receiver Awaits tt
    (ap (λ p. call p act.AwaitItem) c.if-p-eq3.true) c.await_item.ensures.visited

pub returns-else-p-eq3-clause-performs : goal.returns-else-p-eq3-clause-performs
returns-else-p-eq3-clause-performs g c =
    let last = at-second c.args.p 3 4 (WaitsAt c.args.self.now.input.sides Receiver)
    (WaitsAt c.args.self.now.output.sides Receiver) c.requires.may c.if-p-eq3.false in
    at-output g.J.HasJobs.are_jobs _ c.args.self.now c.args.p act.AwaitItem c.await_item-else-p-eq3.result c.await_item-else-p-eq3.new.spool Receiver Awaits
    tt
    (ap (λ p. call p act.AwaitItem) last.number) c.await_item-else-p-eq3.ensures.visited

pub returns-then-p-eq3-clause-causes : goal.returns-then-p-eq3-clause-causes
returns-then-p-eq3-clause-causes g c =
    quiet-causes g.J.HasJobs.are_jobs _ _ c.args.self.now _ c.args.p act.AwaitItem c.await_item.result tt c.await_item.ensures.visited.suits
    record { deck = refl; paper = refl; input = c.await_item.ensures.area; output = refl; files = refl }

pub returns-else-p-eq3-clause-causes : goal.returns-else-p-eq3-clause-causes
returns-else-p-eq3-clause-causes g c =
    quiet-causes g.J.HasJobs.are_jobs _ _ c.args.self.now _ c.args.p act.AwaitItem c.await_item-else-p-eq3.result tt
    c.await_item-else-p-eq3.ensures.visited.suits
    record { deck = refl; paper = refl; input = refl; output = c.await_item-else-p-eq3.ensures.area; files = refl }

use Rattle.std.proofs.Common.{refl, ap}
use Rattle.solo_base.specs.declared.outcome.Side.TheVariants.{Sender}
use Rattle.batch_procs.specs.declared.actions.Action.TheVariants as act
use Rattle.network_law.specs.Acts.{Awaits}
use Rattle.core_law.specs.Core.{call}
use Rattle.net_core.specs.Shared.{WaitsAt}
use Rattle.net_core.proofs.Causing.{quiet-causes}
use Rattle.net_core.proofs.Performing.{at-second, at-input, at-output}
use Rattle.net_core.proofs.shared.Shared.await_room.Goals as goal

pub returns-then-p-eq2-clause-performs : goal.returns-then-p-eq2-clause-performs
returns-then-p-eq2-clause-performs g c =
    at-input g.J.HasJobs.are_jobs _ c.args.self.now c.args.p act.AwaitRoom c.await_room.result c.await_room.new.spool Sender Awaits tt
    (ap (λ p. call p act.AwaitRoom) c.if-p-eq2.true) c.await_room.ensures.visited

pub returns-else-p-eq2-clause-performs : goal.returns-else-p-eq2-clause-performs
returns-else-p-eq2-clause-performs g c =
    let last = at-second c.args.p 2 3 (WaitsAt c.args.self.now.input.sides Sender)
    (WaitsAt c.args.self.now.output.sides Sender) c.requires.may c.if-p-eq2.false in
    at-output g.J.HasJobs.are_jobs _ c.args.self.now c.args.p act.AwaitRoom c.await_room-else-p-eq2.result c.await_room-else-p-eq2.new.spool Sender Awaits
    tt
    (ap (λ p. call p act.AwaitRoom) last.number) c.await_room-else-p-eq2.ensures.visited

pub returns-then-p-eq2-clause-causes : goal.returns-then-p-eq2-clause-causes
returns-then-p-eq2-clause-causes g c =
    quiet-causes g.J.HasJobs.are_jobs _ _ c.args.self.now _ c.args.p act.AwaitRoom c.await_room.result tt c.await_room.ensures.visited.suits
    record { deck = refl; paper = refl; input = c.await_room.ensures.area; output = refl; files = refl }

pub returns-else-p-eq2-clause-causes : goal.returns-else-p-eq2-clause-causes
returns-else-p-eq2-clause-causes g c =
    quiet-causes g.J.HasJobs.are_jobs _ _ c.args.self.now _ c.args.p act.AwaitRoom c.await_room-else-p-eq2.result tt
    c.await_room-else-p-eq2.ensures.visited.suits
    record { deck = refl; paper = refl; input = refl; output = c.await_room-else-p-eq2.ensures.area; files = refl }

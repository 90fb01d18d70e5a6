use Rattle.std.proofs.Common.{refl, ap}
use Rattle.solo_base.specs.declared.outcome.Side.TheVariants.{Receiver}
use Rattle.batch_procs.specs.declared.actions.Action.TheVariants as act
use Rattle.network_law.specs.Acts.{Passes}
use Rattle.core_law.specs.Core.{call}
use Rattle.net_core.specs.Shared.{WaitsAt}
use Rattle.net_core.proofs.Causing.{quiet-causes}
use Rattle.net_core.proofs.Performing.{at-second, at-cards, at-lines}
use Rattle.net_core.proofs.shared.Shared.take_feed.Goals as goal

pub returns-then-p-eq2-clause-performs : goal.returns-then-p-eq2-clause-performs
returns-then-p-eq2-clause-performs g c =
    at-cards g.J.HasJobs.are_jobs _ c.args.self.now c.args.p act.TakeFeed c.take_feed.result c.take_feed.new.buffer Receiver Passes tt
    (ap (λ p. call p act.TakeFeed) c.if-p-eq2.true) c.take_feed.ensures

pub returns-else-p-eq2-clause-performs : goal.returns-else-p-eq2-clause-performs
returns-else-p-eq2-clause-performs g c =
    let last = at-second c.args.p 2 5 (WaitsAt c.args.self.now.cards.sides Receiver)
    (WaitsAt c.args.self.now.lines.sides Receiver) c.requires.may c.if-p-eq2.false in
    at-lines g.J.HasJobs.are_jobs _ c.args.self.now c.args.p act.TakeFeed c.take_feed-else-p-eq2.result c.take_feed-else-p-eq2.new.buffer Receiver Passes tt
    (ap (λ p. call p act.TakeFeed) last.number) c.take_feed-else-p-eq2.ensures

pub returns-then-p-eq2-clause-causes : goal.returns-then-p-eq2-clause-causes
returns-then-p-eq2-clause-causes g c =
    quiet-causes g.J.HasJobs.are_jobs _ _ c.args.self.now _ c.args.p act.TakeFeed c.take_feed.result tt c.take_feed.ensures.suits
    record { deck = refl; paper = refl; input = refl; output = refl; files = refl }

pub returns-else-p-eq2-clause-causes : goal.returns-else-p-eq2-clause-causes
returns-else-p-eq2-clause-causes g c =
    quiet-causes g.J.HasJobs.are_jobs _ _ c.args.self.now _ c.args.p act.TakeFeed c.take_feed-else-p-eq2.result tt c.take_feed-else-p-eq2.ensures.suits
    record { deck = refl; paper = refl; input = refl; output = refl; files = refl }

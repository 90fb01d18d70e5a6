use Rattle.std.proofs.Common.{refl, ap}
use Rattle.solo_base.specs.declared.outcome.Side.TheVariants.{Sender}
use Rattle.batch_procs.specs.declared.actions.Action.TheVariants as act
use Rattle.network_law.specs.Acts.{Passes}
use Rattle.core_law.specs.Core.{call}
use Rattle.net_core.specs.Shared.{WaitsAt}
use Rattle.net_core.proofs.Causing.{quiet-causes}
use Rattle.net_core.proofs.Performing.{at-second, at-cards, at-lines}
use Rattle.net_core.proofs.shared.Shared.put_feed.Goals as goal

pub returns-then-p-eq1-clause-performs : goal.returns-then-p-eq1-clause-performs
returns-then-p-eq1-clause-performs g c =
    at-cards g.J.HasJobs.are_jobs _ c.args.self.now c.args.p (act.PutFeed c.args.feed.now) c.put_feed.result c.put_feed.new.buffer Sender Passes tt
    (ap (λ p. call p (act.PutFeed c.args.feed.now)) c.if-p-eq1.true) c.put_feed.ensures

pub returns-else-p-eq1-clause-performs : goal.returns-else-p-eq1-clause-performs
returns-else-p-eq1-clause-performs g c =
    let last = at-second c.args.p 1 4 (WaitsAt c.args.self.now.cards.sides Sender)
    (WaitsAt c.args.self.now.lines.sides Sender) c.requires.may c.if-p-eq1.false in
    at-lines g.J.HasJobs.are_jobs _ c.args.self.now c.args.p (act.PutFeed c.args.feed.now) c.put_feed-else-p-eq1.result c.put_feed-else-p-eq1.new.buffer
    Sender Passes tt
    (ap (λ p. call p (act.PutFeed c.args.feed.now)) last.number) c.put_feed-else-p-eq1.ensures

pub returns-then-p-eq1-clause-causes : goal.returns-then-p-eq1-clause-causes
returns-then-p-eq1-clause-causes g c =
    quiet-causes g.J.HasJobs.are_jobs _ _ c.args.self.now _ c.args.p (act.PutFeed c.args.feed.now) c.put_feed.result tt c.put_feed.ensures.suits
    record { deck = refl; paper = refl; input = refl; output = refl; files = refl }

pub returns-else-p-eq1-clause-causes : goal.returns-else-p-eq1-clause-causes
returns-else-p-eq1-clause-causes g c =
    quiet-causes g.J.HasJobs.are_jobs _ _ c.args.self.now _ c.args.p (act.PutFeed c.args.feed.now) c.put_feed-else-p-eq1.result tt
    c.put_feed-else-p-eq1.ensures.suits
    record { deck = refl; paper = refl; input = refl; output = refl; files = refl }

use Rattle.std.proofs.Common.{ap}
use Rattle.solo_base.specs.declared.outcome.Side.TheVariants.{Receiver}
use Rattle.network_law.specs.Acts.{At, Passes}
use Rattle.net_core.specs.Lines.{LineStands}
use Rattle.twin_law.specs.Process.{TakeFeed}
use Rattle.twin_ends.proofs.AsTwins.{takes-feed}
use Rattle.twin_net.proofs.AtSpools.{choice-rest, choice-last}
use Rattle.twin_net.proofs.Doings.{at-cards, at-lines}
use Rattle.twin_net.proofs.shared.TwinShared.take_feed.Goals as goal

pub returns-then-b-eq1 : goal.returns-then-b-eq1
returns-then-b-eq1 g c =
    at-cards g.J.HasJobs.jobs _ _ c.args.self.now c.args.p (TakeFeed c.args.b) c.take_feed.result c.take_feed.new.buffer Receiver Passes tt tt
    (ap (λ b. At b Receiver Passes) c.if-b-eq1.true)
    (takes-feed g.J.HasJobs.jobs LineStands c.args.self.now.cards c.take_feed.new.buffer c.args.p c.args.b c.take_feed.result c.take_feed.ensures)

pub returns-else-b-eq1 : goal.returns-else-b-eq1
returns-else-b-eq1 g c =
    let last = choice-last c.args.b 6 _ (choice-rest c.args.b 1 _ _ c.requires c.if-b-eq1.false) in
    at-lines g.J.HasJobs.jobs _ _ c.args.self.now c.args.p (TakeFeed c.args.b) c.take_feed-else-b-eq1.result c.take_feed-else-b-eq1.new.buffer Receiver
    Passes tt tt (ap (λ b. At b Receiver Passes) last.number)
    (takes-feed g.J.HasJobs.jobs LineStands c.args.self.now.lines c.take_feed-else-b-eq1.new.buffer c.args.p c.args.b c.take_feed-else-b-eq1.result
    c.take_feed-else-b-eq1.ensures)

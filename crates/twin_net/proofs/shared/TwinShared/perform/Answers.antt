use Rattle.std.proofs.Common.{Some, refl}
use Rattle.solo_base.specs.declared.outcome.Side.TheVariants.{Sender, Receiver}
use Rattle.network_law.specs.Acts.{Awaits, Moves}
use Rattle.twin_law.specs.Process as law
use Rattle.twin_procs.specs.declared.actions.TwinAction.TheVariants as say
use Rattle.twin_ends.proofs.AsTwins.{asks, gives, reads, prints}
use Rattle.twin_net.proofs.Doings.{at-action, at-spools, at-request, at-release, at-deck, at-paper, at-none}
use Rattle.twin_net.proofs.shared.TwinShared.perform.Goals as goal

pub returns-in-ReadCard : goal.returns-in-ReadCard
returns-in-ReadCard g c =
    at-action g.J.HasJobs.jobs _ _ c.args.self.now _ c.args.p c.args.action say.ReadCard (Some c.read_card.result) c.in-ReadCard.is
    (at-deck g.J.HasJobs.jobs _ _ c.args.self.now c.args.p c.read_card.new.deck c.read_card.result
    (reads g.J.HasJobs.jobs _ _ c.read_card.result c.read_card.ensures.reads) c.read_card.ensures.falls c.read_card.ensures.total c.read_card.ensures.live
    c.read_card.ensures.failed c.read_card.ensures.counts c.read_card.ensures.limit)

pub returns-in-AwaitRoom : goal.returns-in-AwaitRoom
returns-in-AwaitRoom g c =
    at-action g.J.HasJobs.jobs _ _ c.args.self.now _ c.args.p c.args.action (say.AwaitRoom c.in-AwaitRoom.buffer) c.await_room.result c.in-AwaitRoom.is
    (at-spools g.J.HasJobs.jobs _ _ c.args.self.now c.args.p (law.AwaitRoom c.in-AwaitRoom.buffer) c.await_room.result c.await_room.new.self
    c.in-AwaitRoom.buffer Sender Awaits tt refl c.await_room.ensures)

pub returns-in-AwaitItem : goal.returns-in-AwaitItem
returns-in-AwaitItem g c =
    at-action g.J.HasJobs.jobs _ _ c.args.self.now _ c.args.p c.args.action (say.AwaitItem c.in-AwaitItem.buffer) c.await_item.result c.in-AwaitItem.is
    (at-spools g.J.HasJobs.jobs _ _ c.args.self.now c.args.p (law.AwaitItem c.in-AwaitItem.buffer) c.await_item.result c.await_item.new.self
    c.in-AwaitItem.buffer Receiver Awaits tt refl c.await_item.ensures)

pub returns-in-Request : goal.returns-in-Request
returns-in-Request g c =
    at-action g.J.HasJobs.jobs _ _ c.args.self.now _ c.args.p c.args.action say.Request c.request.result c.in-Request.is
    (at-request g.J.HasJobs.jobs _ _ c.args.self.now c.args.p c.request.new.desk c.request.result
    (asks g.J.HasJobs.jobs _ _ c.args.p c.request.result c.request.ensures))

pub returns-in-PutPage : goal.returns-in-PutPage
returns-in-PutPage g c =
    at-action g.J.HasJobs.jobs _ _ c.args.self.now _ c.args.p c.args.action (say.PutPage c.in-PutPage.buffer c.in-PutPage.page) (Some c.put_page.result)
    c.in-PutPage.is
    (at-spools g.J.HasJobs.jobs _ _ c.args.self.now c.args.p (law.PutPage c.in-PutPage.buffer c.in-PutPage.page) (Some c.put_page.result) c.put_page.new.self
    c.in-PutPage.buffer Sender Moves tt refl (c.put_page.ensures c.args.p))

pub returns-in-TakePage : goal.returns-in-TakePage
returns-in-TakePage g c =
    at-action g.J.HasJobs.jobs _ _ c.args.self.now _ c.args.p c.args.action (say.TakePage c.in-TakePage.buffer) (Some c.take_page.result) c.in-TakePage.is
    (at-spools g.J.HasJobs.jobs _ _ c.args.self.now c.args.p (law.TakePage c.in-TakePage.buffer) (Some c.take_page.result) c.take_page.new.self
    c.in-TakePage.buffer Receiver Moves tt refl (c.take_page.ensures c.args.p))

pub returns-in-Release : goal.returns-in-Release
returns-in-Release g c =
    at-action g.J.HasJobs.jobs _ _ c.args.self.now _ c.args.p c.args.action say.Release (Some c.release.result) c.in-Release.is
    (at-release g.J.HasJobs.jobs _ _ c.args.self.now c.args.p c.release.new.desk c.release.result
    (gives g.J.HasJobs.jobs _ _ c.release.result c.release.ensures))

pub returns-in-Local : goal.returns-in-Local
returns-in-Local g c =
    at-action g.J.HasJobs.jobs _ _ c.args.self.now _ c.args.p c.args.action say.Local _ c.in-Local.is
    (at-none g.J.HasJobs.jobs _ _ c.args.self.now c.args.p law.Local tt tt (tt, tt) refl refl)

pub returns-in-Print : goal.returns-in-Print
returns-in-Print g c =
    at-action g.J.HasJobs.jobs _ _ c.args.self.now _ c.args.p c.args.action (say.Print c.in-Print.line) (Some c.print.result) c.in-Print.is
    (at-paper g.J.HasJobs.jobs _ _ c.args.self.now c.args.p c.print.new.paper c.in-Print.line c.print.result
    (prints g.J.HasJobs.jobs _ _ c.in-Print.line c.print.result c.print.ensures.prints) c.print.ensures.live c.print.ensures.failed c.print.ensures.counts)

pub returns-in-Ended : goal.returns-in-Ended
returns-in-Ended g c =
    at-action g.J.HasJobs.jobs _ _ c.args.self.now _ c.args.p c.args.action (say.Ended c.in-Ended.field-0) _ c.in-Ended.is
    (at-none g.J.HasJobs.jobs _ _ c.args.self.now c.args.p (law.Ended c.in-Ended.field-0) tt tt (tt, tt) refl refl)

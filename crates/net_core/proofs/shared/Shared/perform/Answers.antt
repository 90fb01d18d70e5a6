use Rattle.std.proofs.Common.{Some, refl, sym, ◌∙◌, ap}
use Rattle.batch_procs.specs.declared.actions.Action.TheVariants as act
use Rattle.batch_procs.specs.declared.actions.Reply.TheVariants as reply
use Rattle.net_core.proofs.Causing.{at-causes, quiet-causes, read-causes, print-causes, load-causes}
use Rattle.net_core.proofs.Performing.{at-action, at-deck, at-paper, at-files, loads-file, at-request, at-release, at-local, at-end}
use Rattle.net_core.proofs.shared.Shared.perform.Goals as goal

pub returns-in-ReadCard-clause-performs : goal.returns-in-ReadCard-clause-performs
returns-in-ReadCard-clause-performs g c =
    at-action g.J.HasJobs.are_jobs _ c.args.self.now _ c.args.p c.args.action act.ReadCard (Some c.read_card.result) c.in-ReadCard.is
    (at-deck g.J.HasJobs.are_jobs _ c.args.self.now c.args.p c.read_card.new.deck c.read_card.result c.read_card.ensures.reads c.read_card.ensures.falls
    c.read_card.ensures.total)

pub returns-in-ReadCard-clause-causes : goal.returns-in-ReadCard-clause-causes
returns-in-ReadCard-clause-causes g c =
    at-causes g.J.HasJobs.are_jobs _ _ c.args.self.now _ c.args.p c.args.action act.ReadCard (Some c.read_card.result) c.in-ReadCard.is
    (read-causes g.J.HasJobs.are_jobs _ _ c.args.self.now _ c.args.p c.read_card.result refl refl refl refl c.read_card.ensures.failed
    c.read_card.ensures.counts c.read_card.ensures.limit c.read_card.ensures.live)

pub returns-in-PutFeed-clause-performs : goal.returns-in-PutFeed-clause-performs
returns-in-PutFeed-clause-performs g c =
    at-action g.J.HasJobs.are_jobs _ c.args.self.now _ c.args.p c.args.action (act.PutFeed c.get.result.now) c.put_feed.result
    (c.in-PutFeed.is ∙ ap act.PutFeed (sym c.get.ensures)) c.put_feed.ensures.performs

pub returns-in-PutFeed-clause-causes : goal.returns-in-PutFeed-clause-causes
returns-in-PutFeed-clause-causes g c =
    at-causes g.J.HasJobs.are_jobs _ _ c.args.self.now _ c.args.p c.args.action (act.PutFeed c.get.result.now) c.put_feed.result
    (c.in-PutFeed.is ∙ ap act.PutFeed (sym c.get.ensures)) c.put_feed.ensures.causes

pub returns-in-PutPage-clause-performs : goal.returns-in-PutPage-clause-performs
returns-in-PutPage-clause-performs g c =
    at-action g.J.HasJobs.are_jobs _ c.args.self.now _ c.args.p c.args.action (act.PutPage c.get-in-PutPage.result.now) (Some c.put_page.result)
    (c.in-PutPage.is ∙ ap act.PutPage (sym c.get-in-PutPage.ensures)) c.put_page.ensures.performs

pub returns-in-PutPage-clause-causes : goal.returns-in-PutPage-clause-causes
returns-in-PutPage-clause-causes g c =
    at-causes g.J.HasJobs.are_jobs _ _ c.args.self.now _ c.args.p c.args.action (act.PutPage c.get-in-PutPage.result.now) (Some c.put_page.result)
    (c.in-PutPage.is ∙ ap act.PutPage (sym c.get-in-PutPage.ensures)) c.put_page.ensures.causes

pub returns-in-Request-clause-performs : goal.returns-in-Request-clause-performs
returns-in-Request-clause-performs g c =
    at-action g.J.HasJobs.are_jobs _ c.args.self.now _ c.args.p c.args.action act.Request c.request.result c.in-Request.is
    (at-request g.J.HasJobs.are_jobs _ c.args.self.now c.args.p c.request.new.desk c.request.result c.request.ensures)

pub returns-in-Request-clause-causes : goal.returns-in-Request-clause-causes
returns-in-Request-clause-causes g c =
    at-causes g.J.HasJobs.are_jobs _ _ c.args.self.now _ c.args.p c.args.action act.Request c.request.result c.in-Request.is
    (quiet-causes g.J.HasJobs.are_jobs _ _ c.args.self.now _ c.args.p act.Request c.request.result tt c.request.ensures.suits
    record { deck = refl; paper = refl; input = refl; output = refl; files = refl })

pub returns-in-Load-clause-performs : goal.returns-in-Load-clause-performs
returns-in-Load-clause-performs g c =
    at-action g.J.HasJobs.are_jobs _ c.args.self.now _ c.args.p c.args.action (act.Load c.in-Load.file) (Some c.load.result) c.in-Load.is
    (at-files g.J.HasJobs.are_jobs _ c.args.self.now c.args.p c.load.new.self c.in-Load.file c.load.result
    (loads-file g.J.HasJobs.are_jobs _ c.in-Load.file c.load.result c.load.ensures.loads) c.load.ensures.found c.load.ensures.left)

pub returns-in-Load-clause-causes : goal.returns-in-Load-clause-causes
returns-in-Load-clause-causes g c =
    at-causes g.J.HasJobs.are_jobs _ _ c.args.self.now _ c.args.p c.args.action (act.Load c.in-Load.file) (Some c.load.result) c.in-Load.is
    (load-causes g.J.HasJobs.are_jobs _ _ c.args.self.now _ c.args.p c.in-Load.file c.load.result
    (loads-file g.J.HasJobs.are_jobs _ c.in-Load.file c.load.result c.load.ensures.loads).suits refl refl refl refl
    c.load.ensures.failed c.load.ensures.counts c.load.ensures.sound)

pub returns-in-Release-clause-performs : goal.returns-in-Release-clause-performs
returns-in-Release-clause-performs g c =
    at-action g.J.HasJobs.are_jobs _ c.args.self.now _ c.args.p c.args.action act.Release (Some c.release.result) c.in-Release.is
    (at-release g.J.HasJobs.are_jobs _ c.args.self.now c.args.p c.release.new.desk c.release.result c.release.ensures)

pub returns-in-Release-clause-causes : goal.returns-in-Release-clause-causes
returns-in-Release-clause-causes g c =
    at-causes g.J.HasJobs.are_jobs _ _ c.args.self.now _ c.args.p c.args.action act.Release (Some c.release.result) c.in-Release.is
    (quiet-causes g.J.HasJobs.are_jobs _ _ c.args.self.now _ c.args.p act.Release (Some c.release.result) tt c.release.ensures.suits
    record { deck = refl; paper = refl; input = refl; output = refl; files = refl })

pub returns-in-Local-clause-performs : goal.returns-in-Local-clause-performs
returns-in-Local-clause-performs g c = at-action g.J.HasJobs.are_jobs _ c.args.self.now _ c.args.p c.args.action act.Local _ c.in-Local.is
    (at-local g.J.HasJobs.are_jobs _ c.args.self.now c.args.p)

pub returns-in-Local-clause-causes : goal.returns-in-Local-clause-causes
returns-in-Local-clause-causes g c =
    at-causes g.J.HasJobs.are_jobs _ _ c.args.self.now _ c.args.p c.args.action act.Local (Some reply.Done) c.in-Local.is
    (quiet-causes g.J.HasJobs.are_jobs _ _ c.args.self.now _ c.args.p act.Local (Some reply.Done) tt tt
    record { deck = refl; paper = refl; input = refl; output = refl; files = refl })

pub returns-in-Print-clause-performs : goal.returns-in-Print-clause-performs
returns-in-Print-clause-performs g c =
    at-action g.J.HasJobs.are_jobs _ c.args.self.now _ c.args.p c.args.action (act.Print c.get-in-Print.result.now) (Some c.print.result)
    (c.in-Print.is ∙ ap act.Print (sym c.get-in-Print.ensures))
    (at-paper g.J.HasJobs.are_jobs _ c.args.self.now c.args.p c.print.new.paper c.get-in-Print.result.now c.print.result c.print.ensures.prints)

pub returns-in-Print-clause-causes : goal.returns-in-Print-clause-causes
returns-in-Print-clause-causes g c =
    at-causes g.J.HasJobs.are_jobs _ _ c.args.self.now _ c.args.p c.args.action (act.Print c.get-in-Print.result.now) (Some c.print.result)
    (c.in-Print.is ∙ ap act.Print (sym c.get-in-Print.ensures))
    (print-causes g.J.HasJobs.are_jobs _ _ c.args.self.now _ c.args.p c.get-in-Print.result.now c.print.result c.print.ensures.prints.suits
    refl refl refl refl c.print.ensures.failed c.print.ensures.counts c.print.ensures.live)

pub returns-in-Ended-clause-performs : goal.returns-in-Ended-clause-performs
returns-in-Ended-clause-performs g c =
    at-action g.J.HasJobs.are_jobs _ c.args.self.now _ c.args.p c.args.action (act.Ended c.in-Ended.field-0) _ c.in-Ended.is
    (at-end g.J.HasJobs.are_jobs _ c.args.self.now c.args.p c.in-Ended.field-0)

pub returns-in-Ended-clause-causes : goal.returns-in-Ended-clause-causes
returns-in-Ended-clause-causes g c =
    at-causes g.J.HasJobs.are_jobs _ _ c.args.self.now _ c.args.p c.args.action (act.Ended c.in-Ended.field-0) (Some reply.Done) c.in-Ended.is
    (quiet-causes g.J.HasJobs.are_jobs _ _ c.args.self.now _ c.args.p (act.Ended c.in-Ended.field-0) (Some reply.Done) tt tt
    record { deck = refl; paper = refl; input = refl; output = refl; files = refl })

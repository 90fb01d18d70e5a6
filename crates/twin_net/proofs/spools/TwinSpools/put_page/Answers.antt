use Rattle.std.proofs.Common.{Some}
use Rattle.solo_base.specs.declared.outcome.Side.TheVariants.{Sender}
use Rattle.network_law.specs.Acts.{Moves}
use Rattle.net_core.specs.Shared.{PutsAt}
use Rattle.net_core.specs.Spools.{SpoolStands}
use Rattle.twin_law.specs.Process.{PutPage}
use Rattle.twin_ends.proofs.AsTwins.{puts-page}
use Rattle.twin_net.proofs.Failing.{page-counts}
use Rattle.twin_net.proofs.AtSpools.{last-number, at-to_a, at-to_b, at-from_a, at-from_b}
use Rattle.twin_net.proofs.spools.TwinSpools.put_page.Goals as goal

pub returns-then-b-eq2 : goal.returns-then-b-eq2
returns-then-b-eq2 g c p =
    at-to_a g.J.HasJobs.jobs g.A.Area.pages g.A.Area.faults c.args.self.now c.put_page.new.spool Sender Moves p c.args.b
    (PutPage c.args.b c.args.page.now) (Some c.put_page.result) c.if-b-eq2.true
    (puts-page g.J.HasJobs.jobs (SpoolStands g.A.Area.pages) c.args.self.now.to_a c.put_page.new.spool p c.args.b c.args.page.now c.put_page.result
    (c.put_page.ensures.visited p))
    (λ suits. page-counts g.J.HasJobs.jobs g.A.Area.faults c.args.self.now.to_a.area c.put_page.new.spool.area c.put_page.result
    c.put_page.ensures.failed c.put_page.ensures.counts)

pub returns-then-b-eq3 : goal.returns-then-b-eq3
returns-then-b-eq3 g c p =
    at-to_b g.J.HasJobs.jobs g.A.Area.pages g.A.Area.faults c.args.self.now c.put_page-then-b-eq3.new.spool Sender Moves p c.args.b
    (PutPage c.args.b c.args.page.now) (Some c.put_page-then-b-eq3.result) c.if-b-eq3.true
    (puts-page g.J.HasJobs.jobs (SpoolStands g.A.Area.pages) c.args.self.now.to_b c.put_page-then-b-eq3.new.spool p c.args.b c.args.page.now
    c.put_page-then-b-eq3.result (c.put_page-then-b-eq3.ensures.visited p))
    (λ suits. page-counts g.J.HasJobs.jobs g.A.Area.faults c.args.self.now.to_b.area c.put_page-then-b-eq3.new.spool.area c.put_page-then-b-eq3.result
    c.put_page-then-b-eq3.ensures.failed c.put_page-then-b-eq3.ensures.counts)

pub returns-then-b-eq4 : goal.returns-then-b-eq4
returns-then-b-eq4 g c p =
    at-from_a g.J.HasJobs.jobs g.A.Area.pages g.A.Area.faults c.args.self.now c.put_page-then-b-eq4.new.spool Sender Moves p c.args.b
    (PutPage c.args.b c.args.page.now) (Some c.put_page-then-b-eq4.result) c.if-b-eq4.true
    (puts-page g.J.HasJobs.jobs (SpoolStands g.A.Area.pages) c.args.self.now.from_a c.put_page-then-b-eq4.new.spool p c.args.b c.args.page.now
    c.put_page-then-b-eq4.result (c.put_page-then-b-eq4.ensures.visited p))
    (λ suits. page-counts g.J.HasJobs.jobs g.A.Area.faults c.args.self.now.from_a.area c.put_page-then-b-eq4.new.spool.area c.put_page-then-b-eq4.result
    c.put_page-then-b-eq4.ensures.failed c.put_page-then-b-eq4.ensures.counts)

pub returns-else-b-eq4 : goal.returns-else-b-eq4
returns-else-b-eq4 g c p =
    let last = last-number c.args.self.now c.args.b PutsAt c.requires c.if-b-eq2.false c.if-b-eq3.false c.if-b-eq4.false in
    at-from_b g.J.HasJobs.jobs g.A.Area.pages g.A.Area.faults c.args.self.now c.put_page-else-b-eq4.new.spool Sender Moves p c.args.b
    (PutPage c.args.b c.args.page.now) (Some c.put_page-else-b-eq4.result) last.number
    (puts-page g.J.HasJobs.jobs (SpoolStands g.A.Area.pages) c.args.self.now.from_b c.put_page-else-b-eq4.new.spool p c.args.b c.args.page.now
    c.put_page-else-b-eq4.result (c.put_page-else-b-eq4.ensures.visited p))
    (λ suits. page-counts g.J.HasJobs.jobs g.A.Area.faults c.args.self.now.from_b.area c.put_page-else-b-eq4.new.spool.area c.put_page-else-b-eq4.result
    c.put_page-else-b-eq4.ensures.failed c.put_page-else-b-eq4.ensures.counts)

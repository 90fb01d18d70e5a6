use Rattle.std.proofs.Common.{Some}
use Rattle.solo_base.specs.declared.outcome.Side.TheVariants.{Receiver}
use Rattle.network_law.specs.Acts.{Moves}
use Rattle.net_core.specs.Shared.{TakesAt}
use Rattle.net_core.specs.Spools.{SpoolStands}
use Rattle.twin_law.specs.Process.{TakePage}
use Rattle.twin_ends.proofs.AsTwins.{takes-page}
use Rattle.twin_net.proofs.Failing.{page-counts}
use Rattle.twin_net.proofs.AtSpools.{last-number, at-to_a, at-to_b, at-from_a, at-from_b}
use Rattle.twin_net.proofs.spools.TwinSpools.take_page.Goals as goal

pub returns-then-b-eq2 : goal.returns-then-b-eq2
returns-then-b-eq2 g c p =
    at-to_a g.J.HasJobs.jobs g.A.Area.pages g.A.Area.faults c.args.self.now c.take_page.new.spool Receiver Moves p c.args.b (TakePage c.args.b)
    (Some c.take_page.result) c.if-b-eq2.true
    (takes-page g.J.HasJobs.jobs (SpoolStands g.A.Area.pages) c.args.self.now.to_a c.take_page.new.spool p c.args.b c.take_page.result
    (c.take_page.ensures.visited p))
    (λ suits. page-counts g.J.HasJobs.jobs g.A.Area.faults c.args.self.now.to_a.area c.take_page.new.spool.area c.take_page.result
    c.take_page.ensures.failed c.take_page.ensures.counts)

pub returns-then-b-eq3 : goal.returns-then-b-eq3
returns-then-b-eq3 g c p =
    at-to_b g.J.HasJobs.jobs g.A.Area.pages g.A.Area.faults c.args.self.now c.take_page-then-b-eq3.new.spool Receiver Moves p c.args.b (TakePage c.args.b)
    (Some c.take_page-then-b-eq3.result) c.if-b-eq3.true
    (takes-page g.J.HasJobs.jobs (SpoolStands g.A.Area.pages) c.args.self.now.to_b c.take_page-then-b-eq3.new.spool p c.args.b c.take_page-then-b-eq3.result
    (c.take_page-then-b-eq3.ensures.visited p))
    (λ suits. page-counts g.J.HasJobs.jobs g.A.Area.faults c.args.self.now.to_b.area c.take_page-then-b-eq3.new.spool.area c.take_page-then-b-eq3.result
    c.take_page-then-b-eq3.ensures.failed c.take_page-then-b-eq3.ensures.counts)

pub returns-then-b-eq4 : goal.returns-then-b-eq4
returns-then-b-eq4 g c p =
    at-from_a g.J.HasJobs.jobs g.A.Area.pages g.A.Area.faults c.args.self.now c.take_page-then-b-eq4.new.spool Receiver Moves p c.args.b (TakePage c.args.b)
    (Some c.take_page-then-b-eq4.result) c.if-b-eq4.true
    (takes-page g.J.HasJobs.jobs (SpoolStands g.A.Area.pages) c.args.self.now.from_a c.take_page-then-b-eq4.new.spool p c.args.b c.take_page-then-b-eq4.result
    (c.take_page-then-b-eq4.ensures.visited p))
    (λ suits. page-counts g.J.HasJobs.jobs g.A.Area.faults c.args.self.now.from_a.area c.take_page-then-b-eq4.new.spool.area c.take_page-then-b-eq4.result
    c.take_page-then-b-eq4.ensures.failed c.take_page-then-b-eq4.ensures.counts)

pub returns-else-b-eq4 : goal.returns-else-b-eq4
returns-else-b-eq4 g c p =
    let last = last-number c.args.self.now c.args.b TakesAt c.requires c.if-b-eq2.false c.if-b-eq3.false c.if-b-eq4.false in
    at-from_b g.J.HasJobs.jobs g.A.Area.pages g.A.Area.faults c.args.self.now c.take_page-else-b-eq4.new.spool Receiver Moves p c.args.b (TakePage c.args.b)
    (Some c.take_page-else-b-eq4.result) last.number
    (takes-page g.J.HasJobs.jobs (SpoolStands g.A.Area.pages) c.args.self.now.from_b c.take_page-else-b-eq4.new.spool p c.args.b c.take_page-else-b-eq4.result
    (c.take_page-else-b-eq4.ensures.visited p))
    (λ suits. page-counts g.J.HasJobs.jobs g.A.Area.faults c.args.self.now.from_b.area c.take_page-else-b-eq4.new.spool.area c.take_page-else-b-eq4.result
    c.take_page-else-b-eq4.ensures.failed c.take_page-else-b-eq4.ensures.counts)

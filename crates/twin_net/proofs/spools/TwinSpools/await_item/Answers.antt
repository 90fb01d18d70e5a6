use Rattle.solo_base.specs.declared.outcome.Side.TheVariants.{Receiver}
use Rattle.network_law.specs.Acts.{Awaits}
use Rattle.net_core.specs.Shared.{WaitsAt}
use Rattle.net_core.specs.Spools.{SpoolStands}
use Rattle.twin_law.specs.Process.{AwaitItem}
use Rattle.twin_ends.proofs.AsTwins.{awaits-item}
use Rattle.twin_net.proofs.Failing.{same-counts}
use Rattle.twin_net.proofs.AtSpools.{last-number, at-to_a, at-to_b, at-from_a, at-from_b}
use Rattle.twin_net.proofs.spools.TwinSpools.await_item.Goals as goal

pub returns-then-b-eq2 : goal.returns-then-b-eq2
returns-then-b-eq2 g c =
    at-to_a g.J.HasJobs.jobs g.A.Area.pages g.A.Area.faults c.args.self.now c.await_item.new.spool Receiver Awaits c.args.p c.args.b
    (AwaitItem c.args.b) c.await_item.result c.if-b-eq2.true
    (awaits-item g.J.HasJobs.jobs (SpoolStands g.A.Area.pages) c.args.self.now.to_a c.await_item.new.spool c.args.p c.args.b c.await_item.result
    c.await_item.ensures.visited)
    (same-counts g.J.HasJobs.jobs g.A.Area.faults c.args.self.now.to_a.area c.await_item.new.spool.area (AwaitItem c.args.b)
    c.await_item.result tt c.await_item.ensures.area)

pub returns-then-b-eq3 : goal.returns-then-b-eq3
returns-then-b-eq3 g c =
    at-to_b g.J.HasJobs.jobs g.A.Area.pages g.A.Area.faults c.args.self.now c.await_item-then-b-eq3.new.spool Receiver Awaits c.args.p c.args.b
    (AwaitItem c.args.b) c.await_item-then-b-eq3.result c.if-b-eq3.true
    (awaits-item g.J.HasJobs.jobs (SpoolStands g.A.Area.pages) c.args.self.now.to_b c.await_item-then-b-eq3.new.spool c.args.p c.args.b
    c.await_item-then-b-eq3.result c.await_item-then-b-eq3.ensures.visited)
    (same-counts g.J.HasJobs.jobs g.A.Area.faults c.args.self.now.to_b.area c.await_item-then-b-eq3.new.spool.area (AwaitItem c.args.b)
    c.await_item-then-b-eq3.result tt c.await_item-then-b-eq3.ensures.area)

pub returns-then-b-eq4 : goal.returns-then-b-eq4
returns-then-b-eq4 g c =
    at-from_a g.J.HasJobs.jobs g.A.Area.pages g.A.Area.faults c.args.self.now c.await_item-then-b-eq4.new.spool Receiver Awaits c.args.p c.args.b
    (AwaitItem c.args.b) c.await_item-then-b-eq4.result c.if-b-eq4.true
    (awaits-item g.J.HasJobs.jobs (SpoolStands g.A.Area.pages) c.args.self.now.from_a c.await_item-then-b-eq4.new.spool c.args.p c.args.b
    c.await_item-then-b-eq4.result c.await_item-then-b-eq4.ensures.visited)
    (same-counts g.J.HasJobs.jobs g.A.Area.faults c.args.self.now.from_a.area c.await_item-then-b-eq4.new.spool.area (AwaitItem c.args.b)
    c.await_item-then-b-eq4.result tt c.await_item-then-b-eq4.ensures.area)

pub returns-else-b-eq4 : goal.returns-else-b-eq4
returns-else-b-eq4 g c =
    let last = last-number c.args.self.now c.args.b
    (λ spool. WaitsAt spool.sides Receiver c.args.p) c.requires c.if-b-eq2.false c.if-b-eq3.false c.if-b-eq4.false in
    at-from_b g.J.HasJobs.jobs g.A.Area.pages g.A.Area.faults c.args.self.now c.await_item-else-b-eq4.new.spool Receiver Awaits c.args.p c.args.b
    (AwaitItem c.args.b) c.await_item-else-b-eq4.result last.number
    (awaits-item g.J.HasJobs.jobs (SpoolStands g.A.Area.pages) c.args.self.now.from_b c.await_item-else-b-eq4.new.spool c.args.p c.args.b
    c.await_item-else-b-eq4.result c.await_item-else-b-eq4.ensures.visited)
    (same-counts g.J.HasJobs.jobs g.A.Area.faults c.args.self.now.from_b.area c.await_item-else-b-eq4.new.spool.area (AwaitItem c.args.b)
    c.await_item-else-b-eq4.result tt c.await_item-else-b-eq4.ensures.area)

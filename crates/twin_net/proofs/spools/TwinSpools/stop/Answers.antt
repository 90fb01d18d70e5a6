use Rattle.std.proofs.Common.{Some}
use Rattle.network_law.specs.Acts.{Stops}
use Rattle.queue_var.specs.Sides.{MayStop}
use Rattle.net_core.specs.Spools.{SpoolStands}
use Rattle.twin_law.specs.Process.{Stop}
use Rattle.twin_ends.proofs.AsTwins.{stops-side}
use Rattle.twin_net.proofs.Failing.{same-counts}
use Rattle.twin_net.proofs.AtSpools.{last-number, at-to_a, at-to_b, at-from_a, at-from_b}
use Rattle.twin_net.proofs.spools.TwinSpools.stop.Goals as goal

pub returns-then-b-eq2 : goal.returns-then-b-eq2
returns-then-b-eq2 g c p =
    at-to_a g.J.HasJobs.jobs g.A.Area.pages g.A.Area.faults c.args.self.now c.stop_spool.new.spool c.args.side Stops p c.args.b (Stop c.args.b)
    (Some c.stop_spool.result) c.if-b-eq2.true
    (stops-side g.J.HasJobs.jobs (SpoolStands g.A.Area.pages) c.args.self.now.to_a c.stop_spool.new.spool p c.args.b c.args.side c.stop_spool.result
    (c.stop_spool.ensures.visited p))
    (same-counts g.J.HasJobs.jobs g.A.Area.faults c.args.self.now.to_a.area c.stop_spool.new.spool.area (Stop c.args.b)
    (Some c.stop_spool.result) tt c.stop_spool.ensures.area)

pub returns-then-b-eq3 : goal.returns-then-b-eq3
returns-then-b-eq3 g c p =
    at-to_b g.J.HasJobs.jobs g.A.Area.pages g.A.Area.faults c.args.self.now c.stop_spool-then-b-eq3.new.spool c.args.side Stops p c.args.b (Stop c.args.b)
    (Some c.stop_spool-then-b-eq3.result) c.if-b-eq3.true
    (stops-side g.J.HasJobs.jobs (SpoolStands g.A.Area.pages) c.args.self.now.to_b c.stop_spool-then-b-eq3.new.spool p c.args.b c.args.side
    c.stop_spool-then-b-eq3.result (c.stop_spool-then-b-eq3.ensures.visited p))
    (same-counts g.J.HasJobs.jobs g.A.Area.faults c.args.self.now.to_b.area c.stop_spool-then-b-eq3.new.spool.area (Stop c.args.b)
    (Some c.stop_spool-then-b-eq3.result) tt c.stop_spool-then-b-eq3.ensures.area)

pub returns-then-b-eq4 : goal.returns-then-b-eq4
returns-then-b-eq4 g c p =
    at-from_a g.J.HasJobs.jobs g.A.Area.pages g.A.Area.faults c.args.self.now c.stop_spool-then-b-eq4.new.spool c.args.side Stops p c.args.b (Stop c.args.b)
    (Some c.stop_spool-then-b-eq4.result) c.if-b-eq4.true
    (stops-side g.J.HasJobs.jobs (SpoolStands g.A.Area.pages) c.args.self.now.from_a c.stop_spool-then-b-eq4.new.spool p c.args.b c.args.side
    c.stop_spool-then-b-eq4.result (c.stop_spool-then-b-eq4.ensures.visited p))
    (same-counts g.J.HasJobs.jobs g.A.Area.faults c.args.self.now.from_a.area c.stop_spool-then-b-eq4.new.spool.area (Stop c.args.b)
    (Some c.stop_spool-then-b-eq4.result) tt c.stop_spool-then-b-eq4.ensures.area)

pub returns-else-b-eq4 : goal.returns-else-b-eq4
returns-else-b-eq4 g c p =
    let last = last-number c.args.self.now c.args.b (λ spool. MayStop spool.sides c.args.side) c.requires c.if-b-eq2.false c.if-b-eq3.false c.if-b-eq4.false in
    at-from_b g.J.HasJobs.jobs g.A.Area.pages g.A.Area.faults c.args.self.now c.stop_spool-else-b-eq4.new.spool c.args.side Stops p c.args.b (Stop c.args.b)
    (Some c.stop_spool-else-b-eq4.result) last.number
    (stops-side g.J.HasJobs.jobs (SpoolStands g.A.Area.pages) c.args.self.now.from_b c.stop_spool-else-b-eq4.new.spool p c.args.b c.args.side
    c.stop_spool-else-b-eq4.result (c.stop_spool-else-b-eq4.ensures.visited p))
    (same-counts g.J.HasJobs.jobs g.A.Area.faults c.args.self.now.from_b.area c.stop_spool-else-b-eq4.new.spool.area (Stop c.args.b)
    (Some c.stop_spool-else-b-eq4.result) tt c.stop_spool-else-b-eq4.ensures.area)

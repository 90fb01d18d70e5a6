use Rattle.std.proofs.Common.{Some, sym, ◌∙◌, ap}
use Rattle.network_law.specs.Acts.{At, Stops}
use Rattle.net_core.specs.Lines.{LineStands}
use Rattle.twin_law.specs.Process.{Stop}
use Rattle.twin_law.specs.Twin.{side_at}
use Rattle.twin_ends.proofs.AsTwins.{stops-side}
use Rattle.twin_net.proofs.Doings.{at-cards, at-lines, at-spools}
use Rattle.twin_net.proofs.shared.TwinShared.stop.Goals as goal

pub returns-then-b-eq1 : goal.returns-then-b-eq1
returns-then-b-eq1 g c =
    at-cards g.J.HasJobs.jobs _ _ c.args.self.now c.args.p (Stop c.args.b) (Some c.stop_line.result) c.stop_line.new.buffer c.side_at-side.result Stops tt tt
    (ap (λ b. At b (side_at c.args.p c.args.b) Stops) c.if-b-eq1.true ∙ ap (λ side. At 1 side Stops) (sym c.side_at-side.ensures))
    (stops-side g.J.HasJobs.jobs LineStands c.args.self.now.cards c.stop_line.new.buffer c.args.p c.args.b c.side_at-side.result c.stop_line.result
    (c.stop_line.ensures c.args.p))

pub returns-then-b-eq6 : goal.returns-then-b-eq6
returns-then-b-eq6 g c =
    at-lines g.J.HasJobs.jobs _ _ c.args.self.now c.args.p (Stop c.args.b) (Some c.stop_line-then-b-eq6.result) c.stop_line-then-b-eq6.new.buffer
    c.side_at-side.result Stops tt tt
    (ap (λ b. At b (side_at c.args.p c.args.b) Stops) c.if-b-eq6.true ∙ ap (λ side. At 6 side Stops) (sym c.side_at-side.ensures))
    (stops-side g.J.HasJobs.jobs LineStands c.args.self.now.lines c.stop_line-then-b-eq6.new.buffer c.args.p c.args.b c.side_at-side.result
    c.stop_line-then-b-eq6.result (c.stop_line-then-b-eq6.ensures c.args.p))

pub returns-else-b-eq6 : goal.returns-else-b-eq6
returns-else-b-eq6 g c =
    at-spools g.J.HasJobs.jobs _ _ c.args.self.now c.args.p (Stop c.args.b) (Some c.stop.result) c.stop.new.self c.args.b c.side_at-side.result Stops tt
    (ap (λ side. At c.args.b side Stops) (sym c.side_at-side.ensures)) (c.stop.ensures c.args.p)

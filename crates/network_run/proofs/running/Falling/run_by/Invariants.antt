use Rattle.std.specs.Prelude.{◌-◌}
use Rattle.network_run.specs.Law.{Placed}
use Rattle.network_run.specs.Runs.{most_events}
use Rattle.network_run.proofs.RunMore.{RunsSoFar}
use Rattle.network_run.proofs.running.Falling.run_by.Given as goal

abbrev pub invariant-running : goal.invariant-running
invariant-running g l =
    ((at : Placed g.Self.Network.law (g.Self.Network.Stands l.fn.self))
    → RunsSoFar g.Self.Network.law (g.Self.Network.Stands l.self) (g.Self.Network.left l.self) l.fn.rule l.now at.state
    (g.Self.Network.left l.fn.self at.state) l.taken l.counts)
    × g.Self.Network.Keeps l.fn.self l.self

abbrev pub decreases-running : goal.decreases-running
decreases-running g l = most_events - l.taken

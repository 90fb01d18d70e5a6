use Rattle.std.specs.Prelude.{◌-◌, ◌≤◌, length}
use Rattle.network_run.specs.Law.{Placed}
use Rattle.network_run.proofs.Along.{TakenSoFar}
use Rattle.network_run.proofs.network.Network.run.Given as goal

abbrev pub invariant-taking : goal.invariant-taking
invariant-taking g l =
    ((at : Placed g.Self.Network.law (g.Self.Network.Stands l.fn.self))
    → TakenSoFar g.Self.Network.law (g.Self.Network.Stands l.self) l.schedule at.state l.taken)
    × (l.taken ≤ length l.schedule) × g.Self.Network.Keeps l.fn.self l.self

abbrev pub decreases-taking : goal.decreases-taking
decreases-taking g l = length l.schedule - l.taken

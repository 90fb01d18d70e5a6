use Rattle.std.specs.Prelude.{◌≤◌, take}
use Rattle.network_run.specs.Law.{Placed}
use Rattle.network_run.proofs.Picking.{GoersSoFar}
use Rattle.network_run.proofs.running.find_goers.Given as goal

abbrev pub invariant-asking : goal.invariant-asking
invariant-asking g l =
    ((at : Placed g.N.Network.law (g.N.Network.Stands l.net)) → GoersSoFar g.N.Network.law at.state l.before (take l.found l.goers))
    × (l.found ≤ l.before)

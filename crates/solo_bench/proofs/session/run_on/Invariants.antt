use Rattle.network_run.specs.Law.{Placed}
use Rattle.solo_bench.proofs.session.run_on.Given as goal

abbrev pub invariant-loop : goal.invariant-loop
invariant-loop g l = Placed g.N.Network.law (g.N.Network.Stands l.net)

use Rattle.std.proofs.Common.{[], ◌∷◌}
use Rattle.network_run.proofs.Along.{place-behind}
use Rattle.session_tests.proofs.net_runs.turn.Goals as goal

pub returns : goal.returns
returns g c =
    let stepped = c.step.ensures.steps c.requires.at c.requires.may in
    place-behind g.N.Network.law _ _ c.requires.at (stepped.event ∷ []) (stepped.enabled, tt) stepped.stands

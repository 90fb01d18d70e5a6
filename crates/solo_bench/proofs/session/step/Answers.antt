use Rattle.std.proofs.Common.{[], ◌∷◌}
use Rattle.network_run.proofs.Along.{place-behind}
use Rattle.solo_bench.proofs.session.step.Goals as goal

pub returns : goal.returns
returns g c =
    let stepped = c.step.ensures.steps c.requires.at c.requires.may in
    place-behind g.N.Network.law _ _ c.requires.at (stepped.event ∷ []) (stepped.enabled, tt) stepped.stands

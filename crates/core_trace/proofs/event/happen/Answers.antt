use Rattle.std.proofs.Common.{[], ◌∷◌}
use Rattle.network_run.proofs.Along.{place-behind}
use Rattle.core_law.specs.TheLaw.{the_law}
use Rattle.core_trace.proofs.event.happen.Goals as goal

pub step-stepped-requires : goal.step-stepped-requires
step-stepped-requires g c = record { may = c.requires }

pub returns : goal.returns
returns g c =
    let steps = c.step-stepped.ensures.steps c.requires.at c.requires.may in
    place-behind (the_law g.J.HasJobs.jobs) _ _ c.requires.at (steps.event ∷ []) (steps.enabled, tt) steps.stands

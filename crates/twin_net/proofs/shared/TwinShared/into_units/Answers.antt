use Rattle.twin_net.specs.TwinStands.{shared_units}
use Rattle.twin_net.proofs.Finishing.{same-units}
use Rattle.twin_net.proofs.shared.TwinShared.into_units.Goals as goal

pub returns : goal.returns
returns g c =
    same-units (shared_units c.args.self) _ _ _ _ c.into_inner.ensures c.into_inner-2.ensures c.into_inner-3.ensures c.into_inner-4.ensures

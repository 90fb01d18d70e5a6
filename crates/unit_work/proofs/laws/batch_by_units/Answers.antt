use Rattle.unit_work.proofs.ByUnits.{by-units}
use Rattle.unit_work.proofs.laws.batch_by_units.Goals as goal

pub returns : goal.returns
returns c = by-units

use Rattle.deck_units.proofs.UnitJobs.{are-units}
use Rattle.deck_units.proofs.laws.units_have_the_jobs.Goals as goal

pub returns : goal.returns
returns g = are-units

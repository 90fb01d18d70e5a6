-- What holds of the units of every deck.
use Rattle.std.specs.Prelude.{◌≡◌, List, ◌∷◌, flat_map}
use Rattle.std.specs.List.{AllByRecursion}
use Rattle.solo_base.specs.declared.item.Item.{Item}
use Rattle.deck_format.specs.declared.job.Job.{Job}
use Rattle.deck_format.specs.Jobs.{jobs}
use Rattle.deck_units.specs.Units.{units}

-- it has an item, and at least one job
pub record IsUnit (unit : List Item) : Type 0 where
  pub item : Item
  pub others : List Item
  pub items_are : unit ≡ item ∷ others
  pub job : Job
  pub more : List Job
  pub jobs_are : jobs unit ≡ job ∷ more

pub record AreUnits (items : List Item) : Type 0 where
  -- The jobs of the items are those of the units, one behind the other.
  pub jobs_are : jobs items ≡ flat_map jobs (units items)
  pub each : AllByRecursion IsUnit (units items)

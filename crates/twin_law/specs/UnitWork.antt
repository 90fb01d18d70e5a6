-- What two job processes ask of jobs: that they can be worked on unit by unit.
use Rattle.std.specs.Prelude.{◌≡◌, true, List, flat_map}
use Rattle.std.specs.List.{AllByRecursion}
use Rattle.solo_base.specs.declared.item.Item.{Item}
use Rattle.batch_procs.specs.Jobs.{Jobs, FilesAs, one_thread}
use Rattle.deck_units.specs.Units.{units}
use Rattle.twin_law.specs.Output.{is_some}

-- What one thread prints for items is what it prints for their units, one behind the other, and for each unit
-- it prints something.
pub record AreByUnits {L : Type 0} (J : Jobs L) : Type 0 where
  pub lines_are : (items : List Item) (found : FilesAs L)
      → one_thread J items found ≡ flat_map (λ unit. one_thread J unit found) (units items)
  pub some : (items : List Item) (found : FilesAs L)
      → AllByRecursion (λ unit. is_some (one_thread J unit found) ≡ true) (units items)

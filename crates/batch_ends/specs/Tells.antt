-- What the devices of a run tell, and what a run opens with over them.
use Rattle.std.specs.Prelude.{ℕ, List, Option}
use Rattle.solo_base.specs.declared.item.Item.{Item}
use Rattle.solo_devices.specs.CardUnit.{Held, items_ahead}
use Rattle.batch_procs.specs.Jobs.{FilesAs}
use Rattle.core_law.specs.Core.{Devices, CoreState}
use Rattle.core_law.specs.Opening.{Spools, opened}
use Rattle.batch_ends.specs.declared.units.Units.{Units}
use Rattle.batch_ends.specs.Openings.{spools_over}

-- what is left of a source and how many bytes were taken of it; what a sink was given; what each file is
-- loaded as, whether one may be loaded, and the pages of the files; and of the area of each spool how many
-- pages it has, and which
pub record Tells (L S K F A B : Type 0) : Type 1 where
  pub left : S → Option (List ℕ)
  pub taken : S → ℕ
  pub given : K → Option (List ℕ)
  pub files : F → Option (FilesAs L)
  pub sound : F → Type 0
  pub pages : F → Option (List (List ℕ))
  pub input_size : A → ℕ
  pub input_pages : A → Option (List (List ℕ))
  pub output_size : B → ℕ
  pub output_pages : B → Option (List (List ℕ))

-- the cards that are ahead in a deck
abbrev pub deck_ahead : {L S K F A B : Type 0} → Tells L S K F A B → Held S → Option (List Item)
deck_ahead tells deck = items_ahead (tells.left deck.source) deck.pending

-- the devices as they are to the law
abbrev pub devices_of : {L S K F A B : Type 0} → Tells L S K F A B → Units S K F A B → Devices L
devices_of tells units = record {
  deck = deck_ahead tells units.deck;
  paper = tells.given units.paper.sink;
  files = tells.files units.files;
}

-- the spools over the two areas
abbrev pub spools_of : {L S K F A B : Type 0} → Tells L S K F A B → Units S K F A B → Spools
spools_of tells units =
    spools_over (tells.input_size units.input) (tells.input_pages units.input)
    (tells.output_size units.output) (tells.output_pages units.output)

-- the state with which the core opens over them
abbrev pub opened_over : {L S K F A B : Type 0} → Tells L S K F A B → Units S K F A B → CoreState L
opened_over tells units =
    opened (spools_of tells units) (deck_ahead tells units.deck) (tells.given units.paper.sink)
    (tells.files units.files)

-- The devices that a command may be given.
use Rattle.std.specs.Prelude.{◌≡◌, ◌<◌, ◌≤◌}
use Rattle.solo_cli.specs.Devices.{Kit, DeckKit}

-- nothing was read yet, and the areas have their sizes
pub record MayBeGiven {S Y K T F I O : Type 0} (told : Kit S Y K T F I O) : Type 0 where
  pub deck : told.deck.taken ≡ 0
  pub keys : told.keys.taken ≡ 0
  pub files : told.files.size ≡ 4288
  pub input : (0 < told.input.size) × (told.input.size ≤ 256)
  pub output : (0 < told.output.size) × (told.output.size ≤ 256)

-- and those of a run of a deck
pub record MayRunDeck {S K F I O : Type 0} (told : DeckKit S K F I O) : Type 0 where
  pub deck : told.deck.taken ≡ 0
  pub files : told.files.size ≡ 4288
  pub input : (0 < told.input.size) × (told.input.size ≤ 256)
  pub output : (0 < told.output.size) × (told.output.size ≤ 256)

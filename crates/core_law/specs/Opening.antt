-- The openings of the core.
use Rattle.std.specs.Prelude.{◌≡◌, ◌≤◌, ◌==◌, ℕ, Bool, true, if◌then◌else◌, List, Option, Some}
use Rattle.solo_base.specs.declared.item.Item.{Item}
use Rattle.page_codec.specs.Items.{AreItems}
use Rattle.batch_procs.specs.Jobs.{Jobs, FilesAs}
use Rattle.network_law.specs.Network as law
use Rattle.core_law.specs.Core.{Devices, CoreState}

-- the two spools: how many pages each has room for, and whether its area tells its pages
pub record Spools : Type 0 where
  pub input_size : ℕ
  pub input_told : Bool
  pub output_size : ℕ
  pub output_told : Bool

-- a spool has an area of 1 to 256 pages
pub record AreInBounds (spools : Spools) : Type 0 where
  pub input_some : 1 ≤ spools.input_size
  pub input_most : spools.input_size ≤ 256
  pub output_some : 1 ≤ spools.output_size
  pub output_most : spools.output_size ≤ 256

-- The line buffers 1 and 4 have room for one line each, and what is inside them is told.
abbrev pub size_of : Spools → ℕ → ℕ
size_of spools b = if b == 2 then spools.input_size else if b == 3 then spools.output_size else 1

abbrev pub told_of : Spools → ℕ → Bool
told_of spools b = if b == 2 then spools.input_told else if b == 3 then spools.output_told else true

-- The state with which the core opens over these.
abbrev pub opened : {L : Type 0} → Spools → Option (List Item) → Option (List ℕ) → Option (FilesAs L)
    → CoreState L
opened spools deck paper files =
    law.opening record { deck = deck; paper = paper; files = files } (size_of spools) (told_of spools)

-- what told files are loaded as is a load of these jobs
abbrev pub AreGoodFiles : {L : Type 0} → Jobs L → Option (FilesAs L) → Type 0
AreGoodFiles {L} J files = (found : FilesAs L) → files ≡ Some found → (file : List ℕ) → J.IsLoad (found file)

-- the cards of a told deck are cards
abbrev pub AreCards : Option (List Item) → Type 0
AreCards deck = (items : List Item) → deck ≡ Some items → AreItems items

-- An opening: the spools, the cards of the deck, what the paper was given and what each file is loaded as,
-- where these are told.
pub record Opening {L : Type 0} (J : Jobs L) : Type 0 where
  pub spools : Spools
  pub deck : Option (List Item)
  pub paper : Option (List ℕ)
  pub files : Option (FilesAs L)
  pub bounds : AreInBounds spools
  pub cards : AreCards deck
  pub good : AreGoodFiles J files

abbrev pub devices_at : {L : Type 0} {J : Jobs L} → Opening J → Devices L
devices_at opening = record { deck = opening.deck; paper = opening.paper; files = opening.files }

abbrev pub first_state : {L : Type 0} {J : Jobs L} → Opening J → CoreState L
first_state opening = opened opening.spools opening.deck opening.paper opening.files

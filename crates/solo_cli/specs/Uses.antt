-- Which command uses which device.
use Rattle.std.specs.Prelude.{◌≡◌, ◌⊎◌, Bool, true, false, Option, Some, None}
use Rattle.solo_cli.specs.declared.words.Command.{Command}
use Rattle.solo_cli.specs.declared.words.Command.TheVariants as command
use Rattle.solo_cli.specs.Devices.{Kit}

pub record DevicesUsed : Type 0 where
  pub deck : Bool
  pub keys : Bool
  pub paper : Bool
  pub console : Bool
  pub files : Bool
  pub spools : Bool

abbrev pub nothing_used : DevicesUsed
nothing_used = record {
  deck = false;
  keys = false;
  paper = false;
  console = false;
  files = false;
  spools = false;
}

-- a deck is run: with its files, over the spools, to the paper
abbrev pub deck_used : DevicesUsed
deck_used = record { deck = true; keys = false; paper = true; console = false; files = true; spools = true }

-- and a deck that is made
abbrev pub made_used : DevicesUsed
made_used = record deck_used { deck = false }

-- a session: from the keys and the cards, with its files, to the console and the paper
abbrev pub session_used : DevicesUsed
session_used = record { deck = true; keys = true; paper = true; console = true; files = true; spools = false }

abbrev pub uses : Option Command → DevicesUsed
uses None = nothing_used
uses (Some command.Batch) = deck_used
uses (Some (command.Core schedule)) = deck_used
uses (Some (command.Make number)) = made_used
uses (Some command.Format) = record nothing_used { files = true }
uses (Some command.Migrate) = record nothing_used { files = true }
uses (Some command.Check) = record nothing_used { deck = true; paper = true }
uses (Some (command.Times schedule)) = record nothing_used { keys = true; console = true }
uses (Some command.Solo) = session_used

-- ---- what holds of a device by whether it is used
abbrev pub IfUsed : Bool → Type 0 → Type 0
IfUsed true holds = holds
IfUsed false holds = Unit {0}

abbrev pub UnlessUsed : Bool → Type 0 → Type 0
UnlessUsed true holds = Unit {0}
UnlessUsed false holds = holds

-- A device that isn't used is handed back as it came.
pub record Kept {S Y K T F I O : Type 0} (used : DevicesUsed) (before after : Kit S Y K T F I O)
    : Type 0 where
  pub deck : UnlessUsed used.deck (after.deck ≡ before.deck)
  pub keys : UnlessUsed used.keys (after.keys ≡ before.keys)
  pub paper : UnlessUsed used.paper (after.paper ≡ before.paper)
  pub console : UnlessUsed used.console (after.console ≡ before.console)
  pub files : UnlessUsed used.files (after.files ≡ before.files)
  pub input : UnlessUsed used.spools (after.input ≡ before.input)
  pub output : UnlessUsed used.spools (after.output ≡ before.output)

-- ---- what is read: the deck or the keys, or both
-- of the deck, of the keys, or of one of both
abbrev pub of_some : Bool → Bool → Type 0 → Type 0 → Type 0
of_some false deck Deck Keys = Deck
of_some true false Deck Keys = Keys
of_some true true Deck Keys = Deck ⊎ Keys

abbrev pub OfSomeRead : DevicesUsed → Type 0 → Type 0 → Type 0
OfSomeRead used Deck Keys = of_some used.keys used.deck Deck Keys

-- of the deck, of the keys, or of both
abbrev pub of_each : Bool → Bool → Type 0 → Type 0 → Type 0
of_each false deck Deck Keys = Deck
of_each true false Deck Keys = Keys
of_each true true Deck Keys = Deck × Keys

abbrev pub OfEachRead : DevicesUsed → Type 0 → Type 0 → Type 0
OfEachRead used Deck Keys = of_each used.keys used.deck Deck Keys

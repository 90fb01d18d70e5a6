-- The commands that mount the files before anything else.
use Rattle.std.specs.Prelude.{◌≡◌, ℕ, List, Option, Some}
use Rattle.solo_base.specs.declared.outcome.Cause.TheVariants as cause
use Rattle.disk_layout.specs.Format.{IsBad}
use Rattle.solo_cli.specs.declared.refusal.Refusal.{Refusal}
use Rattle.solo_cli.specs.declared.refusal.Refusal.TheVariants.{Fault}
use Rattle.solo_cli.specs.Devices.{DeckKit}
use Rattle.solo_cli.specs.FileCommands.{RefusesFiles}

-- no byte of the deck was taken, nothing was printed, and no spool was used
pub record Untouched {S K F I O : Type 0} (before after : DeckKit S K F I O) : Type 0 where
  pub deck : after.deck ≡ before.deck
  pub paper : after.paper ≡ before.paper
  pub input : after.input ≡ before.input
  pub output : after.output ≡ before.output

-- The pages of the files stay. Where one of them breaks the format the least such page is named, unless a
-- read of the files failed or memory was refused, and nothing else is touched.
pub record MountsFiles {S K F I O : Type 0} (before after : DeckKit S K F I O)
    (answer : Option Refusal) : Type 0 where
  pub left : after.files.pages ≡ before.files.pages
  pub broken : (pages : List (List ℕ)) → before.files.pages ≡ Some pages → (page : ℕ) → IsBad pages page
      → RefusesFiles pages before.files.faults after.files.faults answer × Untouched before after
  pub not_solo : (page : ℕ) → answer ≡ Some (Fault (cause.NotSolo page))
      → ((pages : List (List ℕ)) → before.files.pages ≡ Some pages → IsBad pages page)
      × Untouched before after

-- The command that runs a session: what is typed at the console, with the deck as its cards.
use Rattle.std.specs.Prelude.{◌≡◌, ◌≤◌, ◌⊎◌, ℕ, List, Option, Some, None, Contains, IfSome}
use Rattle.solo_base.specs.Card.{cards}
use Rattle.solo_base.specs.Text.{text}
use Rattle.solo_base.specs.declared.outcome.Cause.{Cause}
use Rattle.solo_base.specs.declared.outcome.Cause.TheVariants as cause
use Rattle.solo_base.specs.declared.outcome.Outcome.{Outcome}
use Rattle.solo_base.specs.declared.outcome.Outcome.TheVariants as outcome
use Rattle.solo_base.specs.declared.outcome.Side.{Side}
use Rattle.solo_devices.specs.Count.{Stayed}
use Rattle.solo_devices.specs.PrinterUnit.{Gains}
use Rattle.disk_layout.specs.Files.{Files, files}
use Rattle.disk_layout.specs.Format.{IsBad, IsSoloDisk}
use Rattle.disk_files.specs.Answers.{Told}
use Rattle.solo_task.specs.Session.{Transcript, session, last_map}
use Rattle.solo_ends.specs.Ends.{EndTogether, FaultsAre, all_done}
use Rattle.solo_ends.specs.Faults.{AreCounted, Counts, Peripherals}
use Rattle.run_report.specs.Decides.{IsIn}
use Rattle.run_report.specs.Status.{number_of}
use Rattle.run_report.specs.Told.{AreaTold, SinkTold, SourceTold}
use Rattle.solo_cli.specs.declared.refusal.Refusal.{Refusal}
use Rattle.solo_cli.specs.declared.refusal.Refusal.TheVariants.{Fault}
use Rattle.solo_cli.specs.Devices.{Kit, deck_kit_of}
use Rattle.solo_cli.specs.FileCommands.{RefusesFiles}
use Rattle.solo_cli.specs.Mounting.{Untouched}
use Rattle.solo_cli.specs.Reading.{ReadsToEnd}
use Rattle.solo_cli.specs.Refusals.{OfFault}

-- ---- what it comes to
-- pages of a Solo disk with these files
abbrev pub HaveFiles : Files → List (List ℕ) → Type 0
HaveFiles all pages = IsSoloDisk pages × (files pages ≡ all)

-- Of what one thread tells, with these files at its end: console and paper gain its lines or a prefix of
-- them, and all of them where there is no cause, when no typed line is left and these are the files. Unless a
-- call on the files failed, they are one of its maps whatever the cause.
pub record TellsSession {S Y K T F I O : Type 0} (told : Transcript) (last : Files)
    (before after : Kit S Y K T F I O) (answer : Option Refusal) : Type 0 where
  pub console : Gains before.console.given after.console.given (text told.console) (answer ≡ None)
  pub paper : Gains before.paper.given after.paper.given (text told.paper) (answer ≡ None)
  pub keys : ReadsToEnd before.keys after.keys (answer ≡ None)
  pub last_files : answer ≡ None → Told after.files.pages (HaveFiles last)
  pub files : Stayed before.files.faults after.files.faults
      → (all : Files) × Contains told.maps all × Told after.files.pages (HaveFiles all)

-- ---- how it ends
-- what the devices of a command count, and they themselves, as Solo's processes know them
abbrev pub counts_told : {S Y K T F : Type 0}
    → Counts (SourceTold S) (SourceTold Y) (SinkTold K) (SinkTold T) (AreaTold F)
counts_told = record {
  card_faults = λ told. told.faults;
  cards_taken = λ told. told.taken;
  key_faults = λ told. told.faults;
  keys_taken = λ told. told.taken;
  print_faults = λ told. told.faults;
  show_faults = λ told. told.faults;
  file_faults = λ told. told.faults;
}

abbrev pub as_peripherals : {S Y K T F I O : Type 0} → Kit S Y K T F I O
    → Peripherals (SourceTold S) (SourceTold Y) (SinkTold K) (SinkTold T) (AreaTold F)
as_peripherals told = record {
  source = told.deck;
  keys = told.keys;
  sink = told.paper;
  console = told.console;
  files = told.files;
}

-- The three processes ended with these outcomes, each fault of which was counted by its own device since, and
-- the lowest number decides: where some ended with faults, one of these is the cause, and none of them has a
-- lower number. Else all their work is done.
pub record SessionEnds {S Y K T F I O : Type 0} (before after : Kit S Y K T F I O) (answer : Option Refusal)
    : Type 0 where
  pub outcomes : List Outcome
  pub stopped_by : List (Option Side)
  pub together : EndTogether outcomes stopped_by
  pub faults : FaultsAre outcomes
  pub counted : AreCounted counts_told (as_peripherals before) (as_peripherals after) outcomes
  pub one_of : IfSome answer (OfFault (λ why. IsIn (outcome.Fault why) outcomes))
  pub none_lower : (fault : Cause) → IsIn (outcome.Fault fault) outcomes
      → (why : Cause) × (answer ≡ Some (Fault why)) × (number_of why ≤ number_of fault)
  pub done : answer ≡ None → outcomes ≡ all_done

-- beside the files, whose pages stay, no device was used
pub record NothingBegun {S Y K T F I O : Type 0} (before after : Kit S Y K T F I O) : Type 0 where
  pub untouched : Untouched (deck_kit_of before) (deck_kit_of after)
  pub keys : after.keys ≡ before.keys
  pub console : after.console ≡ before.console
  pub files : after.files.pages ≡ before.files.pages

-- ---- `solo`
pub record RunsSession {S Y K T F I O : Type 0} (before after : Kit S Y K T F I O) (answer : Option Refusal)
    : Type 0 where
  pub tells : (deck typed : List ℕ) (pages : List (List ℕ)) → before.deck.left ≡ Some deck
      → before.keys.left ≡ Some typed → before.files.pages ≡ Some pages → IsSoloDisk pages
      → TellsSession (session (cards typed) (cards deck) (files pages))
      (last_map (cards typed) (cards deck) (files pages)) before after answer
  pub ends : SessionEnds before after answer ⊎ NothingBegun before after

-- Where a page of the files breaks the format the least such page is named, unless a read of the files failed
-- or memory was refused, and nothing is begun.
pub record MountsFirst {S Y K T F I O : Type 0} (before after : Kit S Y K T F I O) (answer : Option Refusal)
    : Type 0 where
  pub broken : (pages : List (List ℕ)) → before.files.pages ≡ Some pages → (page : ℕ) → IsBad pages page
      → RefusesFiles pages before.files.faults after.files.faults answer × NothingBegun before after
  pub not_solo : (page : ℕ) → answer ≡ Some (Fault (cause.NotSolo page))
      → ((pages : List (List ℕ)) → before.files.pages ≡ Some pages → IsBad pages page)
      × NothingBegun before after

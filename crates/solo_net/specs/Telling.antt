-- What the devices tell and count, and what a call on one of them causes.
use Rattle.std.specs.Prelude.{◌≡◌, ◌≢◌, ◌≤◌, ◌<◌, ◌↔◌, ℕ, true, List, Option, Some}
use Rattle.solo_devices.specs.Count.{Rose}
use Rattle.solo_devices.specs.CardUnit.{Held, byte_limit, bytes_total, IsAllTaken}
use Rattle.solo_devices.specs.PrinterUnit.{Printing}
use Rattle.solo_devices.specs.declared.card_read.CardRead.TheVariants as read
use Rattle.solo_law.specs.Actions.{Action, Reply}
use Rattle.solo_law.specs.Actions as act
use Rattle.solo_ends.specs.declared.units.SoloUnits.{SoloUnits}
use Rattle.solo_ends.specs.Faults.{Counts}

-- what a source tells: what is left of it, how many bytes were taken of it, and how often it failed
pub record SourceTells (S : Type 0) : Type 0 where
  pub left : S → Option (List ℕ)
  pub taken : S → ℕ
  pub faults : S → ℕ

-- what a sink tells: what it was given, and how often it failed
pub record SinkTells (K : Type 0) : Type 0 where
  pub given : K → Option (List ℕ)
  pub faults : K → ℕ

pub record Tells (S Y K T : Type 0) : Type 0 where
  pub cards : SourceTells S
  pub keys : SourceTells Y
  pub paper : SinkTells K
  pub console : SinkTells T

abbrev pub solo_telling : {S Y K T : Type 0} → (S → Option (List ℕ)) → (S → ℕ) → (S → ℕ)
    → (Y → Option (List ℕ)) → (Y → ℕ) → (Y → ℕ) → (K → Option (List ℕ)) → (K → ℕ)
    → (T → Option (List ℕ)) → (T → ℕ) → Tells S Y K T
solo_telling cards_left cards_taken cards_faults keys_left keys_taken keys_faults paper_given paper_faults
    console_given console_faults = record {
      cards = record { left = cards_left; taken = cards_taken; faults = cards_faults };
      keys = record { left = keys_left; taken = keys_taken; faults = keys_faults };
      paper = record { given = paper_given; faults = paper_faults };
      console = record { given = console_given; faults = console_faults };
    }

-- what they count, with what the files do
abbrev pub solo_counts_of : {S Y K T F : Type 0} → Tells S Y K T → (F → ℕ) → Counts S Y K T F
solo_counts_of tells file_faults = record {
  card_faults = tells.cards.faults;
  cards_taken = tells.cards.taken;
  key_faults = tells.keys.faults;
  keys_taken = tells.keys.taken;
  print_faults = tells.paper.faults;
  show_faults = tells.console.faults;
  file_faults = file_faults;
}

-- how many bytes a source that tells them had in all
abbrev pub total_of : {S : Type 0} → SourceTells S → Held S → Option ℕ
total_of tells held = bytes_total (tells.taken held.source) (tells.left held.source)

-- ---- a card or a typed line is read
-- A failure was counted, and the limit is told exactly where too many bytes were taken. No byte is lost, and
-- at the end none is left. Who failed or told the limit isn't asked again.
pub record ReadSo {S : Type 0} (tells : SourceTells S) (old new : Held S) (reply : Option Reply)
    : Type 0 where
  pub failed : reply ≡ Some (act.OfCard read.Failed)
      → Rose (tells.faults old.source) (tells.faults new.source)
  pub counts : tells.faults old.source ≤ tells.faults new.source
  pub limit : (reply ≡ Some (act.OfCard read.Limit)) ↔ (byte_limit < tells.taken new.source)
  pub total : total_of tells new ≡ total_of tells old
  pub all_taken : reply ≡ Some (act.OfCard read.End) → IsAllTaken (tells.left new.source)
  pub live : reply ≢ Some (act.OfCard read.Failed) → reply ≢ Some (act.OfCard read.Limit) → new.live ≡ true

-- ---- a line is printed or displayed
pub record PrintedSo {K : Type 0} (tells : SinkTells K) (old new : Printing K) (reply : Option Reply)
    : Type 0 where
  pub failed : reply ≡ Some act.Failed → Rose (tells.faults old.sink) (tells.faults new.sink)
  pub counts : tells.faults old.sink ≤ tells.faults new.sink
  pub live : reply ≡ Some act.Done → new.live ≡ true

-- ---- by the action: each device hears of its own alone
abbrev pub Displays : Action → Type 0
Displays (act.Display line) = Unit {0}
Displays action = ⊥

abbrev pub SoloPrints : Action → Type 0
SoloPrints (act.Print line) = Unit {0}
SoloPrints action = ⊥

pub record SoloHasCauses {S Y K T F : Type 0} (tells : Tells S Y K T) (old new : SoloUnits S Y K T F)
    (action : Action) (reply : Option Reply) : Type 0 where
  pub reads : action ≡ act.ReadCard → ReadSo tells.cards old.cards new.cards reply
  pub accepts : action ≡ act.Accept → ReadSo tells.keys old.typewriter.keys new.typewriter.keys reply
  pub displays : Displays action
      → PrintedSo tells.console old.typewriter.console new.typewriter.console reply
  pub prints : SoloPrints action → PrintedSo tells.paper old.paper new.paper reply
  pub cards_stay : action ≢ act.ReadCard → new.cards ≡ old.cards
  pub keys_stay : action ≢ act.Accept → new.typewriter.keys ≡ old.typewriter.keys
  pub console_stays : (Displays action → ⊥) → new.typewriter.console ≡ old.typewriter.console
  pub paper_stays : (SoloPrints action → ⊥) → new.paper ≡ old.paper

-- What a command that runs a deck does with its devices is what is asked of all seven.
use Rattle.std.proofs.Common.{◌≡◌, ℕ, Bool, true, false, List, ◌∷◌, Option, Some, refl}
use Rattle.solo_base.specs.declared.outcome.Cause.TheVariants as cause
use Rattle.solo_cli.specs.declared.refusal.Refusal.{Refusal}
use Rattle.solo_cli.specs.declared.words.Command.TheVariants as command
use Rattle.solo_cli.specs.Causes.{EndsBy, is_listed, make_statuses, run_statuses}
use Rattle.solo_cli.specs.DeckRan.{DeckReasons, RanDeck}
use Rattle.solo_cli.specs.DeckRuns.{RunsBatch, RunsCore}
use Rattle.solo_cli.specs.Devices.{Kit, deck_kit_of}
use Rattle.solo_cli.specs.Does.{Finishes}
use Rattle.solo_cli.specs.MakesDeck.{MakesDeck}
use Rattle.solo_cli.specs.Reasons.{Answers}
use Rattle.solo_cli.specs.Uses.{deck_used}
use Rattle.solo_cli.proofs.Tables.{never}

module _ {S Y K T F I O : Type 0} {before after : Kit S Y K T F I O} {answer : Option Refusal} where
  -- ---- a run of a deck
  deck-answers : (deck : Bool) (all : List ℕ) → is_listed all 5 ≡ false → DeckReasons deck all (deck_kit_of before) (deck_kit_of after) answer
      → after.keys ≡ before.keys → after.console ≡ before.console → Answers (record deck_used { deck = deck }) (EndsBy all) before after answer
  deck-answers deck all out r keys console = record {
    known = r.known;
    read = r.read;
    disk = r.disk;
    print = r.print;
    shown = λ is. absurd (never all answer r.known cause.ConsoleFault out is);
    limit = r.limit;
    beyond = r.beyond;
    undamaged = r.undamaged;
    numbers = r.numbers;
    total = r.total;
    kept = record { deck = r.unread; keys = keys; paper = tt; console = console; files = tt; input = tt; output = tt };
    size = r.size;
  }

  pub batch-finishes : RanDeck RunsBatch true (7 ∷ run_statuses) (deck_kit_of before) (deck_kit_of after) answer → after.keys ≡ before.keys
      → after.console ≡ before.console → Finishes (Some command.Batch) before after answer
  batch-finishes r keys console =
      record { does = (r.runs, r.mounts); answers = deck-answers true (7 ∷ run_statuses) refl r.reasons keys console }

  pub core-finishes : (n : ℕ) → RanDeck (RunsCore n) true (7 ∷ run_statuses) (deck_kit_of before) (deck_kit_of after) answer → after.keys ≡ before.keys
      → after.console ≡ before.console → Finishes (Some (command.Core n)) before after answer
  core-finishes n r keys console =
      record { does = (r.runs, r.mounts); answers = deck-answers true (7 ∷ run_statuses) refl r.reasons keys console }

  pub make-finishes : (n : ℕ) → RanDeck (MakesDeck n) false (7 ∷ make_statuses) (deck_kit_of before) (deck_kit_of after) answer → after.keys ≡ before.keys
      → after.console ≡ before.console → Finishes (Some (command.Make n)) before after answer
  make-finishes n r keys console =
      record { does = (r.runs, r.mounts); answers = deck-answers false (7 ∷ make_statuses) refl r.reasons keys console }

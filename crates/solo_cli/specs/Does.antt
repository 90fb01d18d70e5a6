-- What each command does.
use Rattle.std.specs.Prelude.{◌≡◌, ◌⊎◌, ℕ, List, Option, Some, None, IfSome}
use Rattle.solo_base.specs.Card.{cards}
use Rattle.solo_base.specs.Text.{line_text}
use Rattle.solo_base.specs.declared.outcome.Cause.TheVariants as cause
use Rattle.solo_devices.specs.PrinterUnit.{Gains}
use Rattle.disk_system.specs.Formatted.{KeepsFilePages}
use Rattle.access_check.specs.Judgement.{judge}
use Rattle.network_run.specs.declared.rules.Rule.TheVariants.{Numbered}
use Rattle.run_report.specs.Told.{AreaTold, SinkTold, SourceTold}
use Rattle.solo_cli.specs.declared.refusal.Refusal.{Refusal}
use Rattle.solo_cli.specs.declared.refusal.Refusal.TheVariants.{Fault}
use Rattle.solo_cli.specs.declared.words.Command.{Command}
use Rattle.solo_cli.specs.declared.words.Command.TheVariants as command
use Rattle.solo_cli.specs.AccessLines.{judgement_line}
use Rattle.solo_cli.specs.DeckRuns.{RunsBatch, RunsCore}
use Rattle.solo_cli.specs.Causes.{MayBeRefused}
use Rattle.solo_cli.specs.Devices.{Kit, deck_kit_of}
use Rattle.solo_cli.specs.FileCommands.{FormatsTo, MigratesTo}
use Rattle.solo_cli.specs.MakesDeck.{MakesDeck}
use Rattle.solo_cli.specs.Mounting.{MountsFiles}
use Rattle.solo_cli.specs.Reading.{ReadsToEnd}
use Rattle.solo_cli.specs.Reasons.{Answers}
use Rattle.solo_cli.specs.Sessions.{MountsFirst, RunsSession}
use Rattle.solo_cli.specs.TimesConsole.{GainsTimes, TimesEnds}
use Rattle.solo_cli.specs.Uses.{uses}

-- `check`: the paper gains the line of the judgement of the deck, as a description of access rights, or a
-- prefix of it, and all of it where there is no cause.
pub record Checks {S K : Type 0} (deck deck_then : SourceTold S) (paper paper_then : SinkTold K)
    (answer : Option Refusal) : Type 0 where
  pub prints : (bytes : List ℕ) → deck.left ≡ Some bytes
      → Gains paper.given paper_then.given (line_text (judgement_line (judge (cards bytes)))) (answer ≡ None)
  pub reads : ReadsToEnd deck deck_then (answer ≡ None)

-- `times`: the console gains the lines of the script that is typed and behind them the line of the counts, or
-- a prefix of them, and all of them where there is no cause. What is displayed when is what a run of the nine
-- does.
pub record RunsTimes {Y T : Type 0} (schedule : ℕ) (keys keys_then : SourceTold Y)
    (console console_then : SinkTold T) (answer : Option Refusal) : Type 0 where
  pub shows : (bytes : List ℕ) → keys.left ≡ Some bytes
      → GainsTimes (Numbered schedule) (cards bytes) console.given console_then.given (answer ≡ None)
  pub reads : ReadsToEnd keys keys_then (answer ≡ None)
  pub ends : TimesEnds (Numbered schedule) keys keys_then console console_then answer

-- `format`: an area without a file, and whatever fails the pages of files stay.
pub record Formats {F : Type 0} (before after : AreaTold F) (answer : Option Refusal) : Type 0 where
  pub formatted : (pages : List (List ℕ)) → before.pages ≡ Some pages → answer ≡ None
      → FormatsTo pages after.pages
  pub kept : KeepsFilePages before.pages after.pages

-- `migrate`: a Solo disk with the files of before, or why it is refused; then no page changed, unless the
-- area failed.
pub record MigratesFiles {F : Type 0} (before after : AreaTold F) (answer : Option Refusal) : Type 0 where
  pub migrated : (pages : List (List ℕ)) → before.pages ≡ Some pages → MigratesTo pages after.pages answer
  pub refused : IfSome answer (λ refusal. (refusal ≡ Fault cause.DiskFault) ⊎ (after.pages ≡ before.pages))

-- what is asked for
abbrev pub DoesItsWork : {S Y K T F I O : Type 0} → Option Command → Kit S Y K T F I O → Kit S Y K T F I O
    → Option Refusal → Type 0
DoesItsWork None before after answer = answer ≡ Some (Fault cause.Usage)
DoesItsWork (Some command.Batch) before after answer =
    RunsBatch (deck_kit_of before) (deck_kit_of after) answer
    × MountsFiles (deck_kit_of before) (deck_kit_of after) answer
DoesItsWork (Some (command.Core schedule)) before after answer =
    RunsCore schedule (deck_kit_of before) (deck_kit_of after) answer
    × MountsFiles (deck_kit_of before) (deck_kit_of after) answer
DoesItsWork (Some (command.Make number)) before after answer =
    MakesDeck number (deck_kit_of before) (deck_kit_of after) answer
    × MountsFiles (deck_kit_of before) (deck_kit_of after) answer
DoesItsWork (Some command.Format) before after answer = Formats before.files after.files answer
DoesItsWork (Some command.Migrate) before after answer = MigratesFiles before.files after.files answer
DoesItsWork (Some command.Check) before after answer =
    Checks before.deck after.deck before.paper after.paper answer
DoesItsWork (Some (command.Times schedule)) before after answer =
    RunsTimes schedule before.keys after.keys before.console after.console answer
DoesItsWork (Some command.Solo) before after answer =
    RunsSession before after answer × MountsFirst before after answer

-- and it ends as it may
pub record Finishes {S Y K T F I O : Type 0} (asked : Option Command) (before after : Kit S Y K T F I O)
    (answer : Option Refusal) : Type 0 where
  pub does : DoesItsWork asked before after answer
  pub answers : Answers (uses asked) (MayBeRefused asked) before after answer

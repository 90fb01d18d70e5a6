-- The commands that run the deck: `batch` on threads, `core` under the schedule of a number.
use Rattle.std.specs.Prelude.{◌≡◌, ◌⊎◌, ℕ, List, [], ◌∷◌, ◌++◌, Option, Some, None, IsSome}
use Rattle.solo_base.specs.declared.item.Item.{Item}
use Rattle.solo_base.specs.Card.{cards}
use Rattle.solo_base.specs.Text.{text}
use Rattle.solo_devices.specs.CardUnit.{items_ahead}
use Rattle.solo_devices.specs.PrinterUnit.{Gains}
use Rattle.disk_contents.specs.declared.loading.Loaded.{Loaded}
use Rattle.batch_job.specs.Report.{Loads}
use Rattle.batch_job.specs.OneThread.{one_thread_output}
use Rattle.network_run.specs.declared.counts.Counts.{Counts}
use Rattle.network_run.specs.declared.rules.Rule.{Rule}
use Rattle.network_run.specs.declared.rules.Rule.TheVariants.{Numbered}
use Rattle.network_run.specs.Law.{IsReached}
use Rattle.network_run.specs.OneRun.{AreItsCounts}
use Rattle.core_law.specs.Core.{CoreState, Devices as CoreDevices}
use Rattle.core_law.specs.Opening.{Spools, opened}
use Rattle.core_law.specs.TheLaw.{the_law}
use Rattle.core_law.specs.Ends.{IsProcess, HasEndedSo}
use Rattle.core_replay.specs.Five.{AreFirstStops}
use Rattle.batch_ends.specs.Ended.{outcome_at, stopped_at}
use Rattle.batch_ends.specs.Openings.{spools_over}
use Rattle.net_core.specs.WholeRuns.{RunsToEnd}
use Rattle.deck_work.specs.DeckJobs.{AreFound, deck_jobs, files_found}
use Rattle.run_report.specs.CountsLine.{counts_line}
use Rattle.solo_cli.specs.declared.refusal.Refusal.{Refusal}
use Rattle.solo_cli.specs.Decides.{DeckEnds, JobMeetsItsOwn, LineBehind, Nothing}
use Rattle.solo_cli.specs.Devices.{DeckKit}
use Rattle.solo_cli.specs.Mounting.{Untouched}
use Rattle.solo_cli.specs.Reading.{ReadsToEnd}

-- the spools over the areas for them
abbrev pub spools_told : {S K F I O : Type 0} → DeckKit S K F I O → Spools
spools_told told = spools_over told.input.size told.input.pages told.output.size told.output.pages

-- both areas tell their pages
pub record SpoolsTell {S K F I O : Type 0} (told : DeckKit S K F I O) : Type 0 where
  pub input : IsSome told.input.pages
  pub output : IsSome told.output.pages

-- the core before a run of these cards to this paper, with the files and over the spools of these devices
abbrev pub core_over : {S K F I O : Type 0} → DeckKit S K F I O → Option (List Item)
    → Option (List ℕ) → CoreState Loaded
core_over told deck paper = opened (spools_told told) deck paper (files_found told.files.pages)

-- ---- `batch`
-- The paper gains what one thread prints of the deck, with the files as they are told, or with any where no
-- job names one; or a prefix of it, and all of it where this holds.
abbrev pub GainsReports : {S K F I O : Type 0} → DeckKit S K F I O → Option (List ℕ) → Type 0 → Type 0
GainsReports before now all =
    (bytes : List ℕ) (found : Loads) → before.deck.left ≡ Some bytes
    → AreFound (files_found before.files.pages) found (cards bytes) → SpoolsTell before
    → Gains before.paper.given now (text (one_thread_output found bytes)) all

-- The five that ran so are a run of the core: some list of enabled events leads, over these devices, to a
-- state in which each of them has ended with its outcome, where these sides stopped the four buffers first
-- and the paper is as it is now. By these outcomes the cause is decided.
pub record BatchEnds {S K F I O : Type 0} (before after : DeckKit S K F I O) (answer : Option Refusal)
    : Type 0 where
  pub ends : DeckEnds Nothing before after answer
  pub state : CoreState Loaded
  pub reached : IsReached (the_law deck_jobs)
      (core_over before (items_ahead before.deck.left []) before.paper.given) state
  pub each : (p : ℕ) → IsProcess p → HasEndedSo state (outcome_at ends.five.outcomes p) p
  pub stopped : AreFirstStops deck_jobs state (stopped_at ends.five.stopped_by)
  pub paper : state.devices.paper ≡ after.paper.given

pub record RunsBatch {S K F I O : Type 0} (before after : DeckKit S K F I O) (answer : Option Refusal)
    : Type 0 where
  pub prints : GainsReports before after.paper.given (answer ≡ None)
  pub reads : ReadsToEnd before.deck after.deck (answer ≡ None)
  pub ends : BatchEnds before after answer ⊎ Untouched before after

-- ---- `core`
-- A paper gains these lines and behind them the line of these counts, or a prefix of that; all of it where
-- this holds. The counts are those of the one run by the rule from this state in which no device fails and no
-- memory is refused, whatever became of the run.
pub record GainsCounted (rule : Rule) (s : CoreState Loaded) (before now : Option (List ℕ))
    (lines : List (List ℕ)) (all : Type 0) : Type 0 where
  pub counts : Counts
  pub counted : AreItsCounts (the_law deck_jobs) rule s counts
  pub gains : Gains before now
      (text (lines ++ counts_line counts.events counts.delays counts.grants ∷ [])) all

-- A run of the deck by the rule ended so.
pub record CoreEnds {S K F I O : Type 0} (rule : Rule) (before after : DeckKit S K F I O)
    (answer : Option Refusal) : Type 0 where
  pub ends : DeckEnds (LineBehind before after) before after answer
  pub own : JobMeetsItsOwn before after ends.five.outcomes
  pub counts : Counts
  pub devices : CoreDevices Loaded
  pub runs : RunsToEnd deck_jobs rule
      (core_over before (items_ahead before.deck.left []) before.paper.given) counts
      ends.five.outcomes ends.five.stopped_by devices

-- The same as of `batch`, and behind it what is counted under the schedule of this number.
pub record RunsCore {S K F I O : Type 0} (schedule : ℕ) (before after : DeckKit S K F I O)
    (answer : Option Refusal) : Type 0 where
  pub prints : (bytes : List ℕ) (found : Loads) → before.deck.left ≡ Some bytes
      → AreFound (files_found before.files.pages) found (cards bytes) → SpoolsTell before
      → GainsCounted (Numbered schedule) (core_over before (Some (cards bytes)) before.paper.given)
      before.paper.given after.paper.given (one_thread_output found bytes) (answer ≡ None)
  pub reads : ReadsToEnd before.deck after.deck (answer ≡ None)
  pub ends : CoreEnds (Numbered schedule) before after answer ⊎ Untouched before after

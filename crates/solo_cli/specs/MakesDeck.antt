-- The command that makes a deck, runs it and prints the numbers of both.
use Rattle.std.specs.Prelude.{◌≡◌, ◌⊎◌, ℕ, List, [], Option, Some, None}
use Rattle.solo_base.specs.Card.{cards}
use Rattle.solo_base.specs.Text.{text}
use Rattle.solo_base.specs.declared.outcome.Cause.{Cause}
use Rattle.solo_base.specs.declared.outcome.Cause.TheVariants as cause
use Rattle.solo_base.specs.declared.outcome.Outcome.TheVariants.{Fault}
use Rattle.solo_devices.specs.Count.{Rose}
use Rattle.solo_devices.specs.PrinterUnit.{Gains}
use Rattle.disk_contents.specs.declared.loading.Loaded.{Loaded}
use Rattle.batch_job.specs.Report.{Loads}
use Rattle.made_deck.specs.MadeDeck.{made_deck}
use Rattle.network_run.specs.declared.counts.Counts.{Counts}
use Rattle.network_run.specs.declared.rules.Rule.{Rule}
use Rattle.network_run.specs.declared.rules.Rule.TheVariants.{Numbered}
use Rattle.network_run.specs.OneRun.{AreItsCounts}
use Rattle.core_law.specs.Core.{CoreState, Devices as CoreDevices}
use Rattle.core_law.specs.TheLaw.{the_law}
use Rattle.batch_ends.specs.declared.ends.Outcomes.{Outcomes}
use Rattle.net_core.specs.WholeRuns.{RunsToEnd}
use Rattle.deck_work.specs.DeckJobs.{deck_jobs}
use Rattle.solo_cli.specs.declared.refusal.Refusal.{Refusal}
use Rattle.solo_cli.specs.DeckNumbers.{deck_lines}
use Rattle.solo_cli.specs.DeckRuns.{SpoolsTell, core_over}
use Rattle.solo_cli.specs.Decides.{JobMeetsItsOwn, LineBehind, LowestDecides}
use Rattle.solo_cli.specs.Devices.{DeckKit}
use Rattle.solo_cli.specs.Mounting.{Untouched}
use Rattle.solo_cli.specs.Status.{status_of}

-- The paper gains the numbers of a deck and the counts of its run, or a prefix of these lines; all of them
-- where this holds. The lines and characters are the same with any files. The counts are those of the one run
-- by the rule from this state in which no device fails and no memory is refused.
pub record GainsNumbers (rule : Rule) (s : CoreState Loaded) (deck : List ℕ)
    (before now : Option (List ℕ)) (all : Type 0) : Type 0 where
  pub counts : Counts
  pub counted : AreItsCounts (the_law deck_jobs) rule s counts
  pub gains : (found : Loads) → Gains before now (text (deck_lines found deck counts)) all

-- Each fault of these outcomes was counted by an area since. The deck and the paper are in memory: no card
-- fails, and only want of memory ends the printing.
pub record AreasCounted {S K F I O : Type 0} (before after : DeckKit S K F I O) (outcomes : Outcomes)
    : Type 0 where
  pub card : (why : Cause) → outcomes.card ≡ Fault why → ⊥
  pub input : outcomes.input ≡ Fault cause.DiskFault → Rose before.input.faults after.input.faults
  pub job : outcomes.job ≡ Fault cause.DiskFault → Rose before.input.faults after.input.faults
      ⊎ Rose before.output.faults after.output.faults ⊎ Rose before.files.faults after.files.faults
  pub output : outcomes.output ≡ Fault cause.DiskFault → Rose before.output.faults after.output.faults
  pub printer : outcomes.printer ≡ Fault cause.PrintFault → ⊥

-- A run of this deck to a paper in memory by the rule ended so: with these outcomes, by which the cause is
-- decided, and these counts.
pub record MakeEnds {S K F I O : Type 0} (number : ℕ) (before after : DeckKit S K F I O)
    (answer : Option Refusal) : Type 0 where
  pub five : LowestDecides (LineBehind before after) answer
  pub counted : AreasCounted before after five.outcomes
  pub own : JobMeetsItsOwn before after five.outcomes
  pub counts : Counts
  pub devices : CoreDevices Loaded
  pub runs : RunsToEnd deck_jobs (Numbered number)
      (core_over before (Some (cards (made_deck number))) (Some [])) counts
      five.outcomes five.stopped_by devices

-- The paper gains the numbers of the deck of this number, and what is counted of its run to a paper in
-- memory, under the schedule of this number. Where an area failed or a spool gave a damaged page it gains
-- nothing.
pub record MakesDeck {S K F I O : Type 0} (number : ℕ) (before after : DeckKit S K F I O)
    (answer : Option Refusal) : Type 0 where
  pub prints : SpoolsTell before → GainsNumbers (Numbered number)
      (core_over before (Some (cards (made_deck number))) (Some [])) (made_deck number) before.paper.given
      after.paper.given (answer ≡ None)
  pub unprinted : (status_of answer ≡ 3) ⊎ (status_of answer ≡ 8) → after.paper ≡ before.paper
  pub ends : MakeEnds number before after answer ⊎ Untouched before after

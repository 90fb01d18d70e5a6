-- What a run of the five over mounted files comes to, and a command that runs a deck.
use Rattle.std.specs.Prelude.{◌≡◌, ◌≢◌, ◌<◌, ◌≤◌, ◌⊎◌, ℕ, List, [], Bool, Option, None, Some, IfSome, IsSome}
use Rattle.solo_base.specs.declared.outcome.Cause.TheVariants as cause
use Rattle.solo_devices.specs.Count.{Rose}
use Rattle.solo_devices.specs.CardUnit.{IsAllTaken, byte_limit, bytes_total, items_ahead}
use Rattle.disk_contents.specs.declared.loading.Loaded.{Loaded}
use Rattle.network_run.specs.declared.counts.Counts.{Counts}
use Rattle.network_run.specs.declared.rules.Rule.{Rule}
use Rattle.core_law.specs.Core.{Devices as CoreDevices}
use Rattle.batch_ends.specs.Ended.{NoneDamaged}
use Rattle.net_core.specs.WholeRuns.{RunsToEnd}
use Rattle.deck_work.specs.DeckJobs.{deck_jobs}
use Rattle.solo_cli.specs.declared.refusal.Refusal.{Refusal}
use Rattle.solo_cli.specs.declared.refusal.Refusal.TheVariants.{Fault}
use Rattle.solo_cli.specs.Causes.{EndsBy}
use Rattle.solo_cli.specs.DeckRuns.{GainsReports, core_over}
use Rattle.solo_cli.specs.Decides.{DeckEnds, JobMeetsItsOwn, Nothing}
use Rattle.solo_cli.specs.Devices.{DeckKit}
use Rattle.solo_cli.specs.Mounting.{MountsFiles}
use Rattle.solo_cli.specs.Reasons.{IsByLimit}
use Rattle.solo_cli.specs.Refusals.{TellsPlace}
use Rattle.solo_cli.specs.Status.{status_of}
use Rattle.solo_cli.specs.Uses.{UnlessUsed}

-- the five of a run, which ended so
pub record RanFive {S K F I O : Type 0} (before after : DeckKit S K F I O) (answer : Option Refusal) : Type 0
  where
    pub ends : DeckEnds Nothing before after answer
    pub prints : GainsReports before after.paper.given (answer ≡ None)
    pub all_taken : answer ≡ None → IsAllTaken after.deck.left
    pub undamaged : IsSome before.input.pages → IsSome before.output.pages → NoneDamaged ends.five.outcomes
    pub total : bytes_total after.deck.taken after.deck.left ≡ bytes_total before.deck.taken before.deck.left
    pub print_on : before.paper.faults ≤ after.paper.faults
    pub left : after.files.pages ≡ before.files.pages
    pub size : after.files.size ≡ before.files.size

-- and by the rule, on the core, which came to these counts
pub record RanCore {S K F I O : Type 0} (rule : Rule) (before after : DeckKit S K F I O)
    (answer : Option Refusal) (counts : Counts) : Type 0 where
  pub ran : RanFive before after answer
  pub own : JobMeetsItsOwn before after ran.ends.five.outcomes
  pub devices : CoreDevices Loaded
  pub runs : RunsToEnd deck_jobs rule (core_over before (items_ahead before.deck.left []) before.paper.given)
      counts ran.ends.five.outcomes ran.ends.five.stopped_by devices

-- ---- a command
-- why it ended so: with one of these statuses, where it reads the deck or not
pub record DeckReasons {S K F I O : Type 0} (deck : Bool) (all : List ℕ) (before after : DeckKit S K F I O)
    (answer : Option Refusal) : Type 0 where
  pub known : IfSome answer (EndsBy all)
  pub read : answer ≡ Some (Fault cause.ReadFault) → Rose before.deck.faults after.deck.faults
  pub disk : answer ≡ Some (Fault cause.DiskFault) → Rose before.input.faults after.input.faults
      ⊎ Rose before.output.faults after.output.faults ⊎ Rose before.files.faults after.files.faults
  pub print : answer ≡ Some (Fault cause.PrintFault) → Rose before.paper.faults after.paper.faults
  pub limit : answer ≡ Some (Fault cause.DeckLimit) → byte_limit < after.deck.taken
  pub beyond : byte_limit < after.deck.taken → IsByLimit answer
  pub undamaged : IsSome before.input.pages → IsSome before.output.pages → status_of answer ≢ 8
  pub numbers : IfSome answer TellsPlace
  pub total : bytes_total after.deck.taken after.deck.left ≡ bytes_total before.deck.taken before.deck.left
  pub unread : UnlessUsed deck (after.deck ≡ before.deck)
  pub size : after.files.size ≡ before.files.size

-- what it does, and why it ended so
pub record RanDeck {S K F I O : Type 0}
    (Runs : DeckKit S K F I O → DeckKit S K F I O → Option Refusal → Type 0) (deck : Bool) (all : List ℕ)
    (before after : DeckKit S K F I O) (answer : Option Refusal) : Type 0 where
  pub runs : Runs before after answer
  pub mounts : MountsFiles before after answer
  pub reasons : DeckReasons deck all before after answer

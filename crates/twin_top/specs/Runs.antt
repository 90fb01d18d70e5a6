-- A run of the deck by the six, and what is printed behind it.
use Rattle.std.specs.Prelude.{◌≡◌, ◌≤◌, ◌⊎◌, ℕ, List, [], ◌∷◌, ◌++◌, length, Option, Some, None, IfSome, IsSome}
use Rattle.solo_base.specs.declared.outcome.Cause.{Cause}
use Rattle.solo_base.specs.declared.outcome.Cause.TheVariants as cause
use Rattle.solo_base.specs.declared.outcome.Outcome.{Outcome}
use Rattle.solo_base.specs.declared.outcome.Outcome.TheVariants.{Fault}
use Rattle.solo_base.specs.declared.outcome.Side.{Side}
use Rattle.solo_base.specs.Text.{line_text, text}
use Rattle.solo_devices.specs.Count.{Rose}
use Rattle.solo_devices.specs.CardUnit.{byte_limit}
use Rattle.solo_devices.specs.PrinterUnit.{Gains}
use Rattle.network_run.specs.declared.counts.Counts.{Counts}
use Rattle.network_run.specs.declared.rules.Rule.TheVariants.{Numbered}
use Rattle.disk_contents.specs.declared.loading.Loaded.{Loaded}
use Rattle.batch_job.specs.Report.{Loads}
use Rattle.batch_job.specs.OneThread.{one_thread_output}
use Rattle.deck_work.specs.DeckJobs.{deck_jobs, files_found}
use Rattle.twin_law.specs.Twin.{Devices}
use Rattle.twin_ends.specs.declared.units.TwinOutcomes.{TwinOutcomes}
use Rattle.twin_net.specs.Ended.{TwinFaultsAre, twin_all_done}
use Rattle.twin_net.specs.TwinRuns.{TwinRunsToEnd}
use Rattle.run_report.specs.CountsLine.{counts_line}
use Rattle.run_report.specs.Decides.{IsIn}
use Rattle.run_report.specs.Status.{number_of}
use Rattle.run_report.specs.Told.{SinkTold, SourceTold}
use Rattle.twin_top.specs.Kit.{FourTell, TwinKit, twin_over}

-- the outcomes of the six, in order
abbrev pub six_outcomes : TwinOutcomes → List Outcome
six_outcomes outcomes =
    outcomes.card ∷ outcomes.input ∷ outcomes.job_a ∷ outcomes.job_b ∷ outcomes.output ∷ outcomes.printer
    ∷ []

-- one of them ended with this fault
abbrev pub EndedWith : TwinOutcomes → Cause → Type 0
EndedWith outcomes fault = IsIn (Fault fault) (six_outcomes outcomes)

abbrev pub NoneAtFault : TwinOutcomes → Type 0
NoneAtFault outcomes = (fault : Cause) → EndedWith outcomes fault → ⊥

-- ---- the line of the counts
abbrev pub counts_as_line : Counts → List ℕ
counts_as_line counts = counts_line counts.events counts.delays counts.grants

-- what may end the printing of a line
abbrev pub IsOfPrint : Cause → Type 0
IsOfPrint why = (why ≡ cause.PrintFault) ⊎ (why ≡ cause.NoMemory)

-- a line may not be printed: the paper failed, and counted it, or memory was refused
abbrev pub LineFailed : {K : Type 0} → SinkTold K → SinkTold K → Cause → Type 0
LineFailed before after why =
    ((why ≡ cause.PrintFault) × Rose before.faults after.faults) ⊎ (why ≡ cause.NoMemory)

-- The paper gains the line of these counts, or a prefix of it, and the whole line where there is no cause.
pub record PrintsCounts {K : Type 0} (before after : SinkTold K) (counts : Counts) (answer : Option Cause)
    : Type 0 where
  pub gains : Gains before.given after.given (line_text (counts_as_line counts)) (answer ≡ None)
  pub failed : IfSome answer (LineFailed before after)
  pub on : before.faults ≤ after.faults

-- ---- a run
-- what the deck, the files and the spools told before
pub record AreGiven {S K F A : Type 0} (before : TwinKit S K F A) (bytes : List ℕ) (found : Loads) : Type 0
  where
    pub deck : before.deck.left ≡ Some bytes
    pub files : files_found before.files.pages ≡ Some found
    pub spools : FourTell before

-- nothing is left of the deck, which had these bytes, no more than the limit allows
abbrev pub IsReadWhole : {S : Type 0} → SourceTold S → List ℕ → Type 0
IsReadWhole deck bytes = (deck.left ≡ Some []) × (length bytes ≤ byte_limit)

-- The six ran under the schedule of this number to their end, with these outcomes and counts, and left the
-- paper so.
pub record SixRan {S K F A : Type 0} (schedule : ℕ) (before after : TwinKit S K F A) (answer : Option Cause)
    : Type 0 where
  pub outcomes : TwinOutcomes
  pub stopped_by : List (Option Side)
  pub counts : Counts
  pub devices : Devices Loaded
  pub runs : TwinRunsToEnd deck_jobs (Numbered schedule) (twin_over before) counts outcomes stopped_by devices
  pub faults : TwinFaultsAre outcomes
  -- The lowest number decides: where some ended with faults, one of these is the cause, and none of them has
  -- a lower number. Nothing is printed behind them then.
  pub lowest : (fault : Cause) → EndedWith outcomes fault
      → (why : Cause) × (answer ≡ Some why) × EndedWith outcomes why × (number_of why ≤ number_of fault)
  pub unprinted : (fault : Cause) → EndedWith outcomes fault → after.paper.given ≡ devices.paper
  -- Else the line of the counts is printed, and only that may have a cause.
  pub printed : NoneAtFault outcomes
      → Gains devices.paper after.paper.given (line_text (counts_as_line counts)) (answer ≡ None)
      × IfSome answer (LineFailed before.paper after.paper)
  -- Over given devices all six are done where none has a fault.
  pub done : (bytes : List ℕ) (found : Loads) → AreGiven before bytes found → NoneAtFault outcomes
      → outcomes ≡ twin_all_done
  -- Before the line the paper gained the reports of the deck's jobs or a prefix of them, and all of them
  -- where all six are done.
  pub reports : (bytes : List ℕ) (found : Loads) → AreGiven before bytes found
      → Gains before.paper.given devices.paper (text (one_thread_output found bytes))
      (outcomes ≡ twin_all_done)
  -- So it gained the reports and the line, or a prefix of both, and both whole where there is no cause.
  pub prints : (bytes : List ℕ) (found : Loads) → AreGiven before bytes found
      → Gains before.paper.given after.paper.given
      (text (one_thread_output found bytes ++ counts_as_line counts ∷ [])) (answer ≡ None)
  -- Where all six are done nothing is left of a told deck, which has no more bytes than the limit allows; and
  -- over given devices where there is no cause.
  pub reads : (bytes : List ℕ) → before.deck.left ≡ Some bytes → outcomes ≡ twin_all_done
      → IsReadWhole after.deck bytes
  pub empties : (bytes : List ℕ) (found : Loads) → AreGiven before bytes found → answer ≡ None
      → IsReadWhole after.deck bytes

-- no byte of the deck was taken, nothing was printed, and no spool was used
pub record NothingRan {S K F A : Type 0} (before after : TwinKit S K F A) : Type 0 where
  pub deck : after.deck ≡ before.deck
  pub paper : after.paper ≡ before.paper
  pub input_a : after.input_a ≡ before.input_a
  pub input_b : after.input_b ≡ before.input_b
  pub output_a : after.output_a ≡ before.output_a
  pub output_b : after.output_b ≡ before.output_b

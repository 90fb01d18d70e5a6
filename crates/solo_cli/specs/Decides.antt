-- The cause that decides how a run ended.
use Rattle.std.specs.Prelude.{◌≡◌, ◌≤◌, ◌<◌, ◌⊎◌, ◌+◌, List, [], ◌∷◌, Option, Some, None, IfSome}
use Rattle.solo_base.specs.declared.outcome.Cause.{Cause}
use Rattle.solo_base.specs.declared.outcome.Cause.TheVariants as cause
use Rattle.solo_base.specs.declared.outcome.Outcome.{Outcome}
use Rattle.solo_base.specs.declared.outcome.Outcome.TheVariants.{Fault}
use Rattle.solo_base.specs.declared.outcome.Side.{Side}
use Rattle.solo_devices.specs.Count.{Rose, raised}
use Rattle.solo_devices.specs.CardUnit.{byte_limit}
use Rattle.batch_ends.specs.declared.ends.Outcomes.{Outcomes}
use Rattle.batch_ends.specs.Ended.{EndTogether, FaultsAre, all_done}
use Rattle.net_core.specs.Faults.{disk_fault}
use Rattle.solo_cli.specs.declared.refusal.Refusal.{Refusal}
use Rattle.solo_cli.specs.declared.refusal.Refusal.TheVariants as refusal
use Rattle.solo_cli.specs.Devices.{DeckKit}
use Rattle.solo_cli.specs.Refusals.{OfFault}
use Rattle.run_report.specs.Decides.{IsIn}
use Rattle.run_report.specs.Status.{number_of}

-- the outcomes of the five, in order
abbrev pub list_of : Outcomes → List Outcome
list_of outcomes =
    outcomes.card ∷ outcomes.input ∷ outcomes.job ∷ outcomes.output ∷ outcomes.printer ∷ []

-- ---- on the whole command
-- The five of a run ended with these outcomes, and the lowest number decides: where some ended with faults,
-- one of these is the cause, and no fault of them has a lower number. Else all their work is done, and only
-- what comes behind them may have a cause.
pub record LowestDecides (Behind : Cause → Type 0) (answer : Option Refusal) : Type 0 where
  pub outcomes : Outcomes
  pub stopped_by : List (Option Side)
  pub together : EndTogether outcomes stopped_by
  pub faults : FaultsAre outcomes
  pub one_of : IfSome answer (OfFault (λ why. IsIn (Fault why) (list_of outcomes)
      ⊎ ((outcomes ≡ all_done) × Behind why)))
  pub none_lower : (fault : Cause) → IsIn (Fault fault) (list_of outcomes)
      → (why : Cause) × (answer ≡ Some (refusal.Fault why)) × (number_of why ≤ number_of fault)
  pub done : answer ≡ None → outcomes ≡ all_done

-- Each fault of these outcomes was counted by its own device since, and the limit is told exactly where too
-- many bytes were taken.
pub record FaultsCounted {S K F I O : Type 0} (before after : DeckKit S K F I O) (outcomes : Outcomes)
    : Type 0 where
  pub read : outcomes.card ≡ Fault cause.ReadFault → Rose before.deck.faults after.deck.faults
  pub limit : outcomes.card ≡ Fault cause.DeckLimit → byte_limit < after.deck.taken
  pub longer : byte_limit < after.deck.taken → outcomes.card ≡ Fault cause.DeckLimit
  pub input : outcomes.input ≡ Fault cause.DiskFault → Rose before.input.faults after.input.faults
  pub job : outcomes.job ≡ Fault cause.DiskFault → Rose before.input.faults after.input.faults
      ⊎ Rose before.output.faults after.output.faults ⊎ Rose before.files.faults after.files.faults
  pub output : outcomes.output ≡ Fault cause.DiskFault → Rose before.output.faults after.output.faults
  pub print : outcomes.printer ≡ Fault cause.PrintFault → Rose before.paper.faults after.paper.faults

-- The job process met its fault of the disk in a call of its own: at one of the spools a failure was counted
-- beside that of the other process there, or at the files.
abbrev pub JobMeetsItsOwn : {S K F I O : Type 0} → DeckKit S K F I O → DeckKit S K F I O → Outcomes
    → Type 0
JobMeetsItsOwn before after outcomes =
    outcomes.job ≡ Fault cause.DiskFault
    → (raised before.input.faults (disk_fault outcomes.input + 1) ≤ after.input.faults)
    ⊎ (raised before.output.faults (disk_fault outcomes.output + 1) ≤ after.output.faults)
    ⊎ Rose before.files.faults after.files.faults

-- how a run of the deck ended
pub record DeckEnds {S K F I O : Type 0} (Behind : Cause → Type 0) (before after : DeckKit S K F I O)
    (answer : Option Refusal) : Type 0 where
  pub five : LowestDecides Behind answer
  pub counted : FaultsCounted before after five.outcomes

-- nothing comes behind the five
abbrev pub Nothing : Cause → Type 0
Nothing = λ why. ⊥

-- a line is printed behind them
abbrev pub LineBehind : {S K F I O : Type 0} → DeckKit S K F I O → DeckKit S K F I O → Cause → Type 0
LineBehind before after =
    λ why. ((why ≡ cause.PrintFault) × Rose before.paper.faults after.paper.faults) ⊎ (why ≡ cause.NoMemory)

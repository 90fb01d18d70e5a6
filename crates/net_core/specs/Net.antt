-- The five machines over what they share, and the states of the core that they stand for.
use Rattle.std.specs.Prelude.{◌≡◌, ◌≤◌, ℕ, Bool, true, List, [], None, Some, refl}
use Rattle.batch_procs.specs.declared.actions.Action.{Action}
use Rattle.batch_procs.specs.declared.card_proc.CardWork.{CardWork}
use Rattle.batch_procs.specs.declared.input_proc.InputWork.{InputWork}
use Rattle.batch_procs.specs.declared.job_proc.JobProcWork.{JobProcWork}
use Rattle.batch_procs.specs.declared.output_proc.OutputWork.{OutputWork}
use Rattle.batch_procs.specs.declared.printer_proc.PrinterWork.{PrinterWork}
use Rattle.batch_procs.specs.Keeping.{card_keeps, input_keeps, job_keeps, output_keeps, printer_keeps}
use Rattle.batch_procs.specs.Jobs.{Jobs}
use Rattle.batch_procs.specs.JobTold.{JobTold}
use Rattle.batch_procs.specs.Parcels.{Parcel}
use Rattle.batch_procs.specs.Causes.{caused}
use Rattle.batch_procs.specs.Machine.{StandsFor}
use Rattle.batch_procs.specs.Process.{next_action}
use Rattle.batch_procs.specs.Table.{process, card, input, job, output, printer}
use Rattle.network_run.specs.Law.{Placed}
use Rattle.network_run.specs.Runs.{most_events}
use Rattle.network_law.specs.Network.{MayCall}
use Rattle.core_law.specs.Core.{call, CoreState}
use Rattle.core_law.specs.Ends.{IsProcess}
use Rattle.core_law.specs.Opening.{AreInBounds, AreCards, AreGoodFiles}
use Rattle.core_law.specs.TheLaw.{the_law}
use Rattle.core_law.specs.Work.{events_left}
use Rattle.batch_ends.specs.declared.units.Units.{Units}
use Rattle.batch_ends.specs.Devices.{cards_left}
use Rattle.batch_ends.specs.Tells.{Tells, deck_ahead, spools_of, opened_over}
use Rattle.net_core.specs.declared.net.Net.{Net}
use Rattle.net_core.specs.Shared.{SharedStands}

-- what the work of each machine keeps of what was taken and put
pub record Keeps (L X : Type 0) : Type 1 where
  pub card : CardWork → List (Parcel L) → List (Parcel L) → Bool → Type 0
  pub input : InputWork → List (Parcel L) → List (Parcel L) → Bool → Type 0
  pub job : JobProcWork X → List (Parcel L) → List (Parcel L) → Bool → Type 0
  pub output : OutputWork → List (Parcel L) → List (Parcel L) → Bool → Type 0
  pub printer : PrinterWork → List (Parcel L) → List (Parcel L) → Bool → Type 0

-- what the five works keep, by what the work on jobs keeps
abbrev pub the_keeps : {L X : Type 0} → Jobs L → (X → JobTold L → Type 0) → Keeps L X
the_keeps J keeps = record {
  card = card_keeps;
  input = input_keeps;
  job = job_keeps J keeps;
  output = output_keeps;
  printer = printer_keeps;
}

-- Each machine stands for the history of its process, and what is shared for the rest. A device may be used
-- as long as its process has no cause to stop.
pub record NetStands {L X S K F A B : Type 0} (J : Jobs L) (keeps : Keeps L X) (tells : Tells L S K F A B)
    (net : Net X S K F A B) (s : CoreState L) : Type 0 where
  pub card : StandsFor J card keeps.card net.card (s.histories 1)
  pub input : StandsFor J input keeps.input net.input (s.histories 2)
  pub job : StandsFor J (job J) keeps.job net.job (s.histories 3)
  pub output : StandsFor J output keeps.output net.output (s.histories 4)
  pub printer : StandsFor J printer keeps.printer net.printer (s.histories 5)
  pub shared : SharedStands tells net.shared s
  pub deck_live : caused (s.histories 1) ≡ None → net.shared.deck.live ≡ true
  pub paper_live : caused (s.histories 5) ≡ None → net.shared.paper.live ≡ true
  pub files_sound : caused (s.histories 3) ≡ None → tells.sound net.shared.files

-- A process may step in a state: it has a next action, and is at its turn.
pub record MayStepIn {L : Type 0} (J : Jobs L) (s : CoreState L) (p : ℕ) (action : Action) : Type 0 where
  pub one : IsProcess p
  pub next : next_action (process J p) (s.histories p) ≡ Some action
  pub may : MayCall s p (call p action)

-- The network stands for a state from which no run has more events than can be counted.
pub record StandsWithin {L X S K F A B : Type 0} (J : Jobs L) (keeps : Keeps L X)
    (tells : Tells L S K F A B) (net : Net X S K F A B) (s : CoreState L) : Type 0 where
  pub is : NetStands J keeps tells net s
  pub within : events_left J (cards_left tells.taken net.shared.deck) s ≤ most_events

-- ---- where it stands
-- It stands for the state with which the core opens over these devices.
pub record StandsAtOpening {L S K F A B : Type 0} (J : Jobs L) (Stands : CoreState L → Type 0)
    (tells : Tells L S K F A B) (units : Units S K F A B) : Type 0 where
  pub bounds : AreInBounds (spools_of tells units)
  pub cards : AreCards (deck_ahead tells units.deck)
  pub good : AreGoodFiles J (tells.files units.files)
  pub stands : Stands (opened_over tells units)

-- its place there
abbrev pub first_place : {L S K F A B : Type 0} {J : Jobs L} {Stands : CoreState L → Type 0}
    {tells : Tells L S K F A B} {units : Units S K F A B}
    → StandsAtOpening J Stands tells units → Placed (the_law J) Stands
first_place {tells = tells} {units = units} at = record {
  opening = record {
    spools = spools_of tells units;
    deck = deck_ahead tells units.deck;
    paper = tells.given units.paper.sink;
    files = tells.files units.files;
    bounds = at.bounds;
    cards = at.cards;
    good = at.good;
  };
  state = opened_over tells units;
  reached = record { events = []; enabled = tt; leads = refl };
  stands = at.stands;
}

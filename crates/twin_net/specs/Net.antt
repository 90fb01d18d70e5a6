-- The six machines over what they share, and the states of the law that they stand for.
use Rattle.std.specs.Prelude.{◌≡◌, ◌≤◌, ℕ, true, [], None, Some, refl}
use Rattle.batch_procs.specs.Jobs.{Jobs}
use Rattle.batch_procs.specs.JobTold.{JobTold}
use Rattle.batch_ends.specs.Devices.{cards_left}
use Rattle.place_law.specs.Process.{action_of}
use Rattle.network_run.specs.Law.{Placed}
use Rattle.network_run.specs.Runs.{most_events}
use Rattle.network_law.specs.Network.{MayCall}
use Rattle.twin_law.specs.Process.{Action, caused, next_action}
use Rattle.twin_law.specs.Sides.{A, B}
use Rattle.twin_law.specs.Ends.{CardPlace, PrinterPlace, card, printer}
use Rattle.twin_law.specs.Ends as ends
use Rattle.twin_law.specs.Input.{input}
use Rattle.twin_law.specs.Job.{job}
use Rattle.twin_law.specs.Output.{output}
use Rattle.twin_law.specs.Table.{process}
use Rattle.twin_law.specs.Twin.{call, TwinState, TwinEvent, IsProcess}
use Rattle.twin_law.specs.Opening.{Opening, AreInBounds, AreCards, AreGoodFiles}
use Rattle.twin_law.specs.TheLaw.{the_law}
use Rattle.twin_law.specs.Left.{events_left, DrawsFrom}
use Rattle.twin_ends.specs.declared.units.TwinUnits.{TwinUnits}
use Rattle.twin_ends.specs.TwinTells.{TwinTells, TwinCounts, cards_ahead, twin_spools, twin_opened}
use Rattle.twin_procs.specs.declared.card_proc.CardProc.{CardProc}
use Rattle.twin_procs.specs.declared.printer_proc.PrinterProc.{PrinterProc}
use Rattle.twin_procs.specs.Machine.{StandsFor}
use Rattle.twin_procs.specs.Standing.{CardStands, PrinterStands, InputStands}
use Rattle.twin_procs.specs.Job.{job_stands}
use Rattle.twin_procs.specs.Output.{OutputStands}
use Rattle.twin_net.specs.declared.net.TwinNet.{TwinNet}
use Rattle.twin_net.specs.TwinStands.{TwinStands, cards_total}
use Rattle.twin_net.specs.Causes.{TwinCauses}
use Rattle.twin_net.specs.Counted.{CountedSoFar}
use Rattle.twin_net.specs.Doing.{MayLoad}
use Rattle.twin_net.specs.Steps.{twin_reply_of}

abbrev pub card_at : CardProc → CardPlace → Type 0
card_at proc at = CardStands proc.place at

abbrev pub printer_at : PrinterProc → PrinterPlace → Type 0
printer_at proc at = PrinterStands proc.place at

-- Each machine stands for the history of its process, and what is shared for the rest. A device may be used
-- as long as its process has no cause to stop, and the files as long as no load failed.
pub record TwinNetStands {L X S K F P : Type 0} (J : Jobs L) (keeps : X → JobTold L → Type 0)
    (tells : TwinTells L S K F P) (net : TwinNet X S K F P) (s : TwinState L) : Type 0 where
  pub card : StandsFor card card_at net.card (s.histories 1)
  pub input : StandsFor input InputStands net.input (s.histories 2)
  pub job_a : StandsFor (job J A) (job_stands J keeps) net.job_a (s.histories 3)
  pub job_b : StandsFor (job J B) (job_stands J keeps) net.job_b (s.histories 4)
  pub output : StandsFor output OutputStands net.output (s.histories 5)
  pub printer : StandsFor printer printer_at net.printer (s.histories 6)
  pub shared : TwinStands tells net.shared s
  pub deck_live : caused (ends.card {L = L}) (s.histories 1) ≡ None → net.shared.deck.live ≡ true
  pub paper_live : caused (ends.printer {L = L}) (s.histories 6) ≡ None → net.shared.paper.live ≡ true
  pub sound : MayLoad tells net.shared

-- The network stands for a state from which no run has more events than can be counted.
pub record TwinStandsWithin {L X S K F P : Type 0} (J : Jobs L) (keeps : X → JobTold L → Type 0)
    (tells : TwinTells L S K F P) (net : TwinNet X S K F P) (s : TwinState L) : Type 0 where
  pub is : TwinNetStands J keeps tells net s
  pub within : events_left J (cards_left tells.taken net.shared.deck) s ≤ most_events

-- A process may step in a state: it has a next action, and is at its turn.
pub record TwinMayGo {L : Type 0} (J : Jobs L) (s : TwinState L) (p : ℕ) (action : Action) : Type 0 where
  pub one : IsProcess p
  pub next : next_action (process J p) (s.histories p) ≡ Some action
  pub may : MayCall s p (call p action)

-- ---- what an event changes beside its state, and what every run keeps
-- The faults that were counted so far are, the deck has as many bytes in all, and no file changes.
pub record TwinKeeps {L X S K F P : Type 0} (tells : TwinTells L S K F P) (counts : TwinCounts S K F P)
    (old new : TwinNet X S K F P) : Type 0 where
  pub counted : (before : TwinUnits S K F P) → CountedSoFar counts before old
      → CountedSoFar counts before new
  pub total : cards_total tells new.shared.deck ≡ cards_total tells old.shared.deck
  pub files : tells.file_pages new.shared.files ≡ tells.file_pages old.shared.files

-- A failure comes from its own device, and the deck has fewer cards to give where it gave one.
pub record TwinMoves {L X S K F P : Type 0} (tells : TwinTells L S K F P) (counts : TwinCounts S K F P)
    (old : TwinNet X S K F P) (event : TwinEvent L) (new : TwinNet X S K F P) : Type 0 where
  pub causes : TwinCauses counts old.shared new.shared (action_of event.entry) (twin_reply_of event.entry)
  pub deck : DrawsFrom event.entry (cards_left tells.taken old.shared.deck)
      (cards_left tells.taken new.shared.deck)
  pub all : TwinKeeps tells counts old new

-- ---- where it stands
-- It stands for the state with which the six open over these devices.
pub record TwinOpensOver {L S K F P : Type 0} (J : Jobs L) (Stands : TwinState L → Type 0)
    (tells : TwinTells L S K F P) (units : TwinUnits S K F P) : Type 0 where
  pub bounds : AreInBounds (twin_spools tells units)
  pub cards : AreCards (cards_ahead tells units.deck)
  pub good : AreGoodFiles J (tells.files units.files)
  pub stands : Stands (twin_opened tells units)

abbrev pub twin_opening : {L S K F P : Type 0} {J : Jobs L} {Stands : TwinState L → Type 0}
    {tells : TwinTells L S K F P} {units : TwinUnits S K F P} → TwinOpensOver J Stands tells units → Opening J
twin_opening {tells = tells} {units = units} at = record {
  spools = twin_spools tells units;
  deck = cards_ahead tells units.deck;
  paper = tells.given units.paper.sink;
  files = tells.files units.files;
  bounds = at.bounds;
  cards = at.cards;
  good = at.good;
}

-- its place there
abbrev pub twin_first_place : {L S K F P : Type 0} {J : Jobs L} {Stands : TwinState L → Type 0}
    {tells : TwinTells L S K F P} {units : TwinUnits S K F P}
    → TwinOpensOver J Stands tells units → Placed (the_law J) Stands
twin_first_place {tells = tells} {units = units} at = record {
  opening = twin_opening at;
  state = twin_opened tells units;
  reached = record { events = []; enabled = tt; leads = refl };
  stands = at.stands;
}

-- The devices of a command, and what they tell.
use Rattle.std.specs.Prelude.{Option}
use Rattle.solo_devices.specs.declared.source.Source.{Ghosts as Source}
use Rattle.solo_devices.specs.declared.sink.Sink.{Ghosts as Sink}
use Rattle.solo_devices.specs.declared.area.Area.{Ghosts as Area}
use Rattle.run_report.specs.Told.{AreaTold, SinkTold, SourceTold, area_told, sink_told, source_told}
use Rattle.solo_cli.specs.declared.refusal.Refusal.{Refusal}
use Rattle.solo_cli.specs.declared.command.Finished.{Finished}
use Rattle.solo_cli.specs.Status.{status_of}

-- the seven devices of a command with what they tell, at one time
pub record Kit (S Y K T F I O : Type 0) : Type 0 where
  pub deck : SourceTold S
  pub keys : SourceTold Y
  pub paper : SinkTold K
  pub console : SinkTold T
  pub files : AreaTold F
  pub input : AreaTold I
  pub output : AreaTold O

-- these devices
abbrev pub kit : {S Y K T F I O : Type 0} → Source S → Source Y → Sink K → Sink T → Area F → Area I
    → Area O → S → Y → K → T → F → I → O → Kit S Y K T F I O
kit s y k t f i o deck keys paper console files input output = record {
  deck = source_told s deck;
  keys = source_told y keys;
  paper = sink_told k paper;
  console = sink_told t console;
  files = area_told f files;
  input = area_told i input;
  output = area_told o output;
}

-- those that a command gave back
abbrev pub kit_after : {S Y K T F I O : Type 0} → Source S → Source Y → Sink K → Sink T → Area F → Area I
    → Area O → Finished S Y K T F I O → Kit S Y K T F I O
kit_after s y k t f i o d =
    kit s y k t f i o d.deck d.keys d.paper d.console d.files d.input d.output

-- how a command ended with this cause, and its devices
abbrev pub finished_with : {S Y K T F I O : Type 0} → Option Refusal → S → Y → K → T → F → I → O
    → Finished S Y K T F I O
finished_with cause deck keys paper console files input output = record {
  status = status_of cause;
  cause = cause;
  deck = deck;
  keys = keys;
  paper = paper;
  console = console;
  files = files;
  input = input;
  output = output;
}

-- ---- the devices of a run of a deck
pub record DeckKit (S K F I O : Type 0) : Type 0 where
  pub deck : SourceTold S
  pub paper : SinkTold K
  pub files : AreaTold F
  pub input : AreaTold I
  pub output : AreaTold O

abbrev pub deck_kit : {S K F I O : Type 0} → Source S → Sink K → Area F → Area I → Area O → S → K → F → I → O
    → DeckKit S K F I O
deck_kit s k f i o deck paper files input output = record {
  deck = source_told s deck;
  paper = sink_told k paper;
  files = area_told f files;
  input = area_told i input;
  output = area_told o output;
}

-- five of the seven
abbrev pub deck_kit_of : {S Y K T F I O : Type 0} → Kit S Y K T F I O → DeckKit S K F I O
deck_kit_of told = record {
  deck = told.deck;
  paper = told.paper;
  files = told.files;
  input = told.input;
  output = told.output;
}

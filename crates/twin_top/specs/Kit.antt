-- The devices of a run, and what they tell.
use Rattle.std.specs.Prelude.{◌≡◌, ◌<◌, ◌≤◌, [], is_some, IsSome}
use Rattle.solo_devices.specs.declared.source.Source.{Ghosts as Source}
use Rattle.solo_devices.specs.declared.sink.Sink.{Ghosts as Sink}
use Rattle.solo_devices.specs.declared.area.Area.{Ghosts as Area}
use Rattle.solo_devices.specs.CardUnit.{items_ahead}
use Rattle.network_law.specs.Network.{opening}
use Rattle.disk_contents.specs.declared.loading.Loaded.{Loaded}
use Rattle.deck_work.specs.DeckJobs.{files_found}
use Rattle.twin_law.specs.Opening.{Spool, Spools, size_of, told_of}
use Rattle.twin_law.specs.Twin.{TwinState}
use Rattle.run_report.specs.Told.{SourceTold, SinkTold, AreaTold, source_told, sink_told, area_told}
use Rattle.twin_top.specs.declared.devices.TwinDevices.{TwinDevices}
use Rattle.twin_top.specs.declared.top.TwinFinished.{TwinFinished}

-- the seven devices with what they tell, at one time
pub record TwinKit (S K F A : Type 0) : Type 0 where
  pub deck : SourceTold S
  pub paper : SinkTold K
  pub files : AreaTold F
  pub input_a : AreaTold A
  pub input_b : AreaTold A
  pub output_a : AreaTold A
  pub output_b : AreaTold A

abbrev pub twin_kit : {S K F A : Type 0} → Source S → Sink K → Area F → Area A → S → K → F → A → A → A → A
    → TwinKit S K F A
twin_kit s k f a deck paper files input_a input_b output_a output_b = record {
  deck = source_told s deck;
  paper = sink_told k paper;
  files = area_told f files;
  input_a = area_told a input_a;
  input_b = area_told a input_b;
  output_a = area_told a output_a;
  output_b = area_told a output_b;
}

abbrev pub twin_kit_of : {S K F A : Type 0} → Source S → Sink K → Area F → Area A → TwinDevices S K F A
    → TwinKit S K F A
twin_kit_of s k f a d =
    twin_kit s k f a d.deck d.paper d.files d.input_a d.input_b d.output_a d.output_b

-- those that were given back
abbrev pub twin_kit_after : {S K F A : Type 0} → Source S → Sink K → Area F → Area A → TwinFinished S K F A
    → TwinKit S K F A
twin_kit_after s k f a d =
    twin_kit s k f a d.deck d.paper d.files d.input_a d.input_b d.output_a d.output_b

-- ---- what may be handed in
abbrev pub IsHalf : {A : Type 0} → AreaTold A → Type 0
IsHalf area = (0 < area.size) × (area.size ≤ 128)

-- nothing was read yet, and the areas have their sizes
pub record MayRun {S K F A : Type 0} (told : TwinKit S K F A) : Type 0 where
  pub deck : told.deck.taken ≡ 0
  pub files : told.files.size ≡ 4288
  pub input_a : IsHalf told.input_a
  pub input_b : IsHalf told.input_b
  pub output_a : IsHalf told.output_a
  pub output_b : IsHalf told.output_b

-- all four areas of spools tell their pages
pub record FourTell {S K F A : Type 0} (told : TwinKit S K F A) : Type 0 where
  pub input_a : IsSome told.input_a.pages
  pub input_b : IsSome told.input_b.pages
  pub output_a : IsSome told.output_a.pages
  pub output_b : IsSome told.output_b.pages

-- ---- what the six open with over them
abbrev pub spool_told : {A : Type 0} → AreaTold A → Spool
spool_told area = record { size = area.size; told = is_some area.pages }

abbrev pub four_spools : {S K F A : Type 0} → TwinKit S K F A → Spools
four_spools told = record {
  to_a = spool_told told.input_a;
  to_b = spool_told told.input_b;
  from_a = spool_told told.output_a;
  from_b = spool_told told.output_b;
}

abbrev pub twin_over : {S K F A : Type 0} → TwinKit S K F A → TwinState Loaded
twin_over told =
    opening
    record {
      deck = items_ahead told.deck.left [];
      paper = told.paper.given;
      files = files_found told.files.pages;
    } (size_of (four_spools told)) (told_of (four_spools told))

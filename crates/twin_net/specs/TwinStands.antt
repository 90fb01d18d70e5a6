-- What the six share on one thread, and the states of the law that it stands for.
use Rattle.std.specs.Prelude.{◌≡◌, ℕ, Option}
use Rattle.solo_devices.specs.CardUnit.{Held, bytes_total}
use Rattle.net_core.specs.Lines.{LineStands}
use Rattle.twin_law.specs.Twin.{TwinState}
use Rattle.twin_ends.specs.TwinTells.{TwinTells, cards_ahead}
use Rattle.twin_net.specs.declared.shared.TwinShared.{TwinShared}
use Rattle.twin_ends.specs.declared.units.TwinUnits.{TwinUnits}
use Rattle.twin_net.specs.FourSpools.{SpoolsStand}

-- how many bytes a source that tells them had in all
abbrev pub cards_total : {L S K F A : Type 0} → TwinTells L S K F A → Held S → Option ℕ
cards_total tells deck = bytes_total (tells.taken deck.source) (tells.left deck.source)

pub record TwinStands {L X S K F A : Type 0} (tells : TwinTells L S K F A) (shared : TwinShared X S K F A)
    (s : TwinState L) : Type 0 where
  pub deck : s.devices.deck ≡ cards_ahead tells shared.deck
  pub paper : s.devices.paper ≡ tells.given shared.paper.sink
  pub files : s.devices.files ≡ tells.files shared.files
  pub cards : LineStands shared.cards (s.buffers 1)
  pub spools : SpoolsStand tells.pages shared.spools s.buffers
  pub lines : LineStands shared.lines (s.buffers 6)
  pub desk : s.desk.claims ≡ shared.desk

-- what the six run on
abbrev pub shared_units : {X S K F A : Type 0} → TwinShared X S K F A → TwinUnits S K F A
shared_units shared = record {
  deck = shared.deck;
  paper = shared.paper;
  files = shared.files;
  to_a = shared.spools.to_a.area;
  to_b = shared.spools.to_b.area;
  from_a = shared.spools.from_a.area;
  from_b = shared.spools.from_b.area;
}

-- What the devices of a run of the six tell and count, and what a run opens with over them.
use Rattle.std.specs.Prelude.{ℕ, List, Option, is_some}
use Rattle.solo_base.specs.declared.item.Item.{Item}
use Rattle.solo_devices.specs.CardUnit.{Held, items_ahead}
use Rattle.batch_procs.specs.Jobs.{FilesAs}
use Rattle.network_law.specs.Network.{opening}
use Rattle.twin_law.specs.Twin.{Devices, TwinState}
use Rattle.twin_law.specs.Opening.{Spool, Spools, size_of, told_of}
use Rattle.twin_ends.specs.declared.units.TwinUnits.{TwinUnits}

-- what is left of a source and how many bytes were taken of it; what a sink was given; what each file is
-- loaded as, whether one may be loaded, and the pages of the files; and of the area of a spool how many pages
-- it has, and which
pub record TwinTells (L S K F A : Type 0) : Type 1 where
  pub left : S → Option (List ℕ)
  pub taken : S → ℕ
  pub given : K → Option (List ℕ)
  pub files : F → Option (FilesAs L)
  pub sound : F → Type 0
  pub file_pages : F → Option (List (List ℕ))
  pub size : A → ℕ
  pub pages : A → Option (List (List ℕ))

-- the faults of each, and the bytes that were taken of the source
pub record TwinCounts (S K F A : Type 0) : Type 0 where
  pub read_faults : S → ℕ
  pub taken : S → ℕ
  pub print_faults : K → ℕ
  pub file_faults : F → ℕ
  pub page_faults : A → ℕ

-- the cards that are ahead in a deck
abbrev pub cards_ahead : {L S K F A : Type 0} → TwinTells L S K F A → Held S → Option (List Item)
cards_ahead tells deck = items_ahead (tells.left deck.source) deck.pending

-- a spool over an area
abbrev pub spool_over : {L S K F A : Type 0} → TwinTells L S K F A → A → Spool
spool_over tells area = record { size = tells.size area; told = is_some (tells.pages area) }

abbrev pub twin_spools : {L S K F A : Type 0} → TwinTells L S K F A → TwinUnits S K F A → Spools
twin_spools tells units = record {
  to_a = spool_over tells units.to_a;
  to_b = spool_over tells units.to_b;
  from_a = spool_over tells units.from_a;
  from_b = spool_over tells units.from_b;
}

-- the devices as they are to the law
abbrev pub twin_devices : {L S K F A : Type 0} → TwinTells L S K F A → TwinUnits S K F A → Devices L
twin_devices tells units = record {
  deck = cards_ahead tells units.deck;
  paper = tells.given units.paper.sink;
  files = tells.files units.files;
}

-- the state with which the six open over them
abbrev pub twin_opened : {L S K F A : Type 0} → TwinTells L S K F A → TwinUnits S K F A → TwinState L
twin_opened tells units =
    opening (twin_devices tells units) (size_of (twin_spools tells units)) (told_of (twin_spools tells units))

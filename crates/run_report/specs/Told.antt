-- Devices, and what they tell at one time.
use Rattle.std.specs.Prelude.{ℕ, List, Option}
use Rattle.solo_devices.specs.declared.source.Source.{Ghosts as Source}
use Rattle.solo_devices.specs.declared.sink.Sink.{Ghosts as Sink}
use Rattle.solo_devices.specs.declared.area.Area.{Ghosts as Area}

-- what is read from: the bytes that are left, where it tells them, how many were taken, and how often a call
-- failed
pub record SourceTold (S : Type 0) : Type 0 where
  pub device : S
  pub left : Option (List ℕ)
  pub taken : ℕ
  pub faults : ℕ

-- what is printed on: the bytes that it was given, where it tells them, and how often a call failed
pub record SinkTold (K : Type 0) : Type 0 where
  pub device : K
  pub given : Option (List ℕ)
  pub faults : ℕ

-- an area: how many pages it has, the pages, where it tells them, and how often a call failed
pub record AreaTold (F : Type 0) : Type 0 where
  pub device : F
  pub size : ℕ
  pub pages : Option (List (List ℕ))
  pub faults : ℕ

abbrev pub source_told : {S : Type 0} → Source S → S → SourceTold S
source_told source s =
    record { device = s; left = source.left s; taken = source.taken s; faults = source.faults s }

abbrev pub sink_told : {K : Type 0} → Sink K → K → SinkTold K
sink_told sink k = record { device = k; given = sink.given k; faults = sink.faults k }

abbrev pub area_told : {F : Type 0} → Area F → F → AreaTold F
area_told area f = record { device = f; size = area.size f; pages = area.pages f; faults = area.faults f }

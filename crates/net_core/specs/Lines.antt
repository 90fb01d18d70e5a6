-- Which buffer of the law a line buffer stands for.
use Rattle.std.specs.Prelude.{◌≡◌, ◌≤◌, List, map, length, Some}
use Rattle.solo_base.specs.declared.item.Feed.{Feed}
use Rattle.solo_base.specs.declared.outcome.Side.{Side}
use Rattle.slot_buffer.specs.Slot.{Slot}
use Rattle.batch_procs.specs.Parcels.{Parcel, is_last}
use Rattle.batch_procs.specs.Sends.{as_parcels}
use Rattle.network_law.specs.Buffer.{Buffer}

-- it has room for one, and what is inside is told
abbrev pub line_buffer : {L : Type 0} → Slot Feed → List Side → Buffer (Parcel L)
line_buffer {L} slot stops = record {
  capacity = 1;
  marks = map is_last (as_parcels {L = L} slot.inside);
  inside = Some (as_parcels slot.inside);
  sides = slot.sides;
  stops = stops;
}

pub record LineStands {L : Type 0} (slot : Slot Feed) (b : Buffer (Parcel L)) : Type 0 where
  pub is : b ≡ line_buffer slot b.stops
  pub within : length slot.inside ≤ 1

-- Which buffer of the law a spool stands for.
use Rattle.std.specs.Prelude.{◌≡◌, ℕ, List, map, Option}
use Rattle.std.specs.Option.{option_map}
use Rattle.solo_base.specs.declared.outcome.Side.{Side}
use Rattle.disk_spool.specs.Ring.{Ring}
use Rattle.disk_spool.specs.Spool as spool
use Rattle.disk_spool.specs.Spool.{Received, pages_inside}
use Rattle.batch_procs.specs.Parcels.{Parcel}
use Rattle.network_law.specs.Buffer.{Buffer}
use Rattle.batch_ends.specs.Spools.{page_parcel}

-- the parcels inside, where the area tells its pages
abbrev pub told_inside : {L : Type 0} → Option (List (List ℕ)) → Ring → Option (List (Parcel L))
told_inside pages ring = option_map (λ all. map page_parcel (pages_inside all ring)) pages

abbrev pub spool_buffer : {L A : Type 0} → (A → Option (List (List ℕ))) → spool.Spool A → List Side
    → Buffer (Parcel L)
spool_buffer told_by s stops = record {
  capacity = s.ring.capacity;
  marks = s.ring.marks;
  inside = told_inside (told_by s.area) s.ring;
  sides = s.sides;
  stops = stops;
}

pub record SpoolStands {L A : Type 0} (told_by : A → Option (List (List ℕ))) (s : spool.Spool A)
    (b : Buffer (Parcel L)) : Type 0 where
  pub is : b ≡ spool_buffer told_by s b.stops
  -- of some history, from which the order of its pages follows
  pub sent : List (List ℕ)
  pub taken : List Received
  pub stops : List Side
  pub history : spool.StandsFor told_by sent taken stops s

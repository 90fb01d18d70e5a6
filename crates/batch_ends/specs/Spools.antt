-- What a page of a spool is to the law.
use Rattle.std.specs.Prelude.{ℕ, List}
use Rattle.disk_spool.specs.Spool.{mark}
use Rattle.batch_procs.specs.Parcels.{Parcel, OfPage}

-- the parcel of a page of these bytes
abbrev pub page_parcel : {L : Type 0} → List ℕ → Parcel L
page_parcel bytes = OfPage record { 0 = bytes } (mark bytes)

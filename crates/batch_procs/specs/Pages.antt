-- What works keep that take pages.
use Rattle.std.specs.Prelude.{◌≡◌, ℕ, ◌%◌, ◌^◌, Bool, false, List, [], ◌++◌, length, Option, None, option_to_list}
use Rattle.solo_base.specs.declared.item.Item.{Item}
use Rattle.solo_base.specs.declared.item.Feed.{Feed}
use Rattle.solo_base.specs.declared.outcome.Cause.{Cause}
use Rattle.solo_base.specs.declared.outcome.Cause.TheVariants as cause
use Rattle.page_codec.specs.declared.judge.BadPage.{BadPage}
use Rattle.page_codec.specs.Stream.{Awaited}
use Rattle.batch_procs.specs.Parcels.{Parcel, pages}
use Rattle.batch_procs.specs.Sends.{as_parcels, has_end, unpacked, lines_of, lines_stream}
use Rattle.batch_procs.specs.Table.{output}
use Rattle.batch_procs.specs.Due.{KeepsDue}

-- the cause with the three numbers of a bad page
abbrev pub damaged : BadPage → Cause
damaged bad = cause.Damaged bad.expected bad.found bad.at

-- the lines of these items, and the end behind them where it comes
abbrev pub lines_left : List Item → Bool → List Feed
lines_left items ending = lines_stream (lines_of items) ending

-- No page of these was damaged or the last: what follows is unpacked from this place on.
pub record ReadsOn {L : Type 0} (place : ℕ) (taken : List (Parcel L)) : Type 0 where
  pub counted : place ≡ length (pages taken) % 2 ^ 16
  pub goes_on : (rest : List (Parcel L))
      → unpacked 0 (taken ++ rest) ≡ unpacked 0 taken ++ unpacked place rest
  pub no_end : has_end (unpacked 0 taken) ≡ false

-- The output process: what is due first, and the lines behind it.
pub record KeepsOutput {L : Type 0} (awaited : Awaited) (due : Option Feed) (left : List Feed)
    (taken sent : List (Parcel L)) (unworked : Bool) : Type 0 where
  pub keeps : KeepsDue output (as_parcels (option_to_list due ++ left)) awaited.ended taken sent unworked
  pub front : due ≡ None → left ≡ []
  pub reads : awaited.ended ≡ false → ReadsOn awaited.place taken

-- The places of pages in their streams.
use Rattle.std.specs.Prelude.{ℕ, ◌+◌, ◌%◌, ◌^◌, Bool, true, false}
use Rattle.page_codec.specs.Stream.{Awaited, at_the_first}

-- the place that comes next, behind a page that is the last of its stream or isn't
abbrev pub page_behind : Bool → ℕ → ℕ
page_behind true place = 0
page_behind false place = (place + 1) % 2 ^ 16

-- the place that comes next behind so many pages of a stream, which has ended with them or hasn't
abbrev pub place_after : Bool → ℕ → ℕ
place_after true pages = 0
place_after false pages = pages % 2 ^ 16

-- what is awaited then
abbrev pub renewed : Bool → Awaited → Awaited
renewed true awaited = at_the_first
renewed false awaited = awaited

-- Lines in hand, and the places of pages in their streams.
use Rattle.std.specs.Prelude.{◌≡◌, ℕ, ◌+◌, ◌%◌, ◌^◌, Bool, true, false, List, map}
use Rattle.solo_base.specs.declared.item.Item.TheVariants.{Line}
use Rattle.page_codec.specs.Items.{items_bytes}
use Rattle.page_codec.specs.Packing.{PageInHand}
use Rattle.page_codec.specs.Stream.{Awaited, at_the_first}

-- Behind so many pages a packer has these lines in hand.
pub record Holds (packer : PageInHand) (pages : ℕ) (hand : List (List ℕ)) : Type 0 where
  pub place : packer.place ≡ pages % 2 ^ 16
  pub content : packer.content ≡ items_bytes (map Line hand)

-- the place that comes next, behind a page that is the last of its stream or isn't
abbrev pub page_behind : Bool → ℕ → ℕ
page_behind true place = 0
page_behind false place = (place + 1) % 2 ^ 16

-- the place that comes next behind so many pages of a stream, which has ended with them or hasn't
abbrev pub place_after : Bool → ℕ → ℕ
place_after true pages = 0
place_after false pages = pages % 2 ^ 16

-- what is awaited then
abbrev pub renewed : Bool → Awaited → Awaited
renewed true awaited = at_the_first
renewed false awaited = awaited

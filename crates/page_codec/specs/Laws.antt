-- The laws of packing and unpacking, over lists of items and of pages.
use Rattle.std.specs.Prelude.{◌≡◌, Bool, true, false, List, [], ◌∷◌, ◌++◌, slice_index, option_to_list, Ok}
use Rattle.solo_base.specs.declared.item.Item.{Item}
use Rattle.solo_base.specs.declared.page.Page.{Page}
use Rattle.page_codec.specs.Items.{IsItem}
use Rattle.page_codec.specs.Form.{mark, page_of, IsPage}
use Rattle.page_codec.specs.Reading.{page_read}
use Rattle.page_codec.specs.Packing.{PageInHand, page_given, hand_after, HasPacked}
use Rattle.page_codec.specs.Stream.{IsStream, Awaited, HasTaken}

-- An item more goes into the page in hand, or begins the next.
abbrev pub PackingGoesOn : Type 0
PackingGoesOn =
    (hand : PageInHand) (items : List Item) (pages : List Page) (item : Item) → HasPacked hand items pages → IsItem item
    → HasPacked (hand_after hand item) (items ++ item ∷ []) (pages ++ option_to_list (page_given hand item))

-- The pages that were given, and the page in hand as the last, are a stream of all the items.
abbrev pub PagesAreAStream : Type 0
PagesAreAStream =
    (hand : PageInHand) (items : List Item) (pages : List Page) → HasPacked hand items pages
    → IsStream 0 (pages ++ page_of hand.place true hand.content ∷ []) items

abbrev pub is_empty : List Page → Bool
is_empty [] = true
is_empty (page ∷ more) = false

-- a page that an unpacker takes next, of a stream that goes on with more pages
pub record IsTakenNext (awaited : Awaited) (page : Page) (more : List Page) (given all : List Item) : Type 0 where
  pub running : awaited.ended ≡ false
  pub here : List Item
  pub rest : List Item
  pub parts : all ≡ given ++ here ++ rest
  -- it is marked as the last exactly where no page follows
  pub marked : slice_index page.0 2 ≡ mark (is_empty more)
  pub form : IsPage awaited.place (is_empty more) here page
  pub read : page_read awaited.place (is_empty more) page ≡ Ok (record { items = here; last = is_empty more })

-- An unpacker that took the front of a stream takes the next page too.
abbrev pub TheNextIsTaken : Type 0
TheNextIsTaken =
    (front : List Page) (page : Page) (more : List Page) (all given : List Item) (awaited : Awaited)
    → IsStream 0 (front ++ page ∷ more) all → HasTaken awaited front given → IsTakenNext awaited page more given all

-- One that took a whole stream gave all of its items, and expects no page.
abbrev pub AllIsGiven : Type 0
AllIsGiven =
    (pages : List Page) (all given : List Item) (awaited : Awaited) → IsStream 0 pages all → HasTaken awaited pages given
    → (given ≡ all) × (awaited.ended ≡ true)

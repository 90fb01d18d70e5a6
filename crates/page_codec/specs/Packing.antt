-- How items are cut into pages.
use Rattle.std.specs.Prelude.{◌≡◌, ℕ, ◌+◌, ◌%◌, ◌^◌, ◌≤◌, ◌<◌, Bool, false, List, [], ◌∷◌, ◌++◌, length, Option, Some, None, nat_le, if◌then◌else◌}
use Rattle.std.specs.List.{flat_map}
use Rattle.solo_base.specs.declared.item.Item.{Item}
use Rattle.solo_base.specs.declared.page.Page.{Page}
use Rattle.page_codec.specs.declared.form.TheConstants.{CONTENT_ROOM}
use Rattle.page_codec.specs.Items.{item_bytes, items_bytes, AreItems}
use Rattle.page_codec.specs.Form.{page_of}

-- a packer, as its callers see it: the number of the page in hand, and the bytes of its items
pub record PageInHand : Type 0 where
  pub place : ℕ
  pub content : List ℕ

abbrev pub first_page : PageInHand
first_page = record { place = 0; content = [] }

abbrev pub fits : PageInHand → Item → Bool
fits hand item = nat_le (length (hand.content ++ item_bytes item)) CONTENT_ROOM

-- what a push gives: the page in hand, where the item doesn't fit behind its items
abbrev pub page_given : PageInHand → Item → Option Page
page_given hand item = if fits hand item then None else Some (page_of hand.place false hand.content)

-- and the page that is then in hand
abbrev pub hand_after : PageInHand → Item → PageInHand
hand_after hand item =
    if fits hand item
    then record hand { content = hand.content ++ item_bytes item }
    else record { place = (hand.place + 1) % 2 ^ 16; content = item_bytes item }

-- the next group of items begins with one that has no room behind the group before
abbrev pub HasNoRoomFor : List Item → List Item → Type 0
HasNoRoomFor group [] = ⊥
HasNoRoomFor group (item ∷ rest) = CONTENT_ROOM < length (items_bytes group ++ item_bytes item)

-- Each group fits on a page, and no group has room for the first item of the next.
abbrev pub IsCut : List (List Item) → Type 0
IsCut [] = Unit {0}
IsCut (group ∷ []) = length (items_bytes group) ≤ CONTENT_ROOM
IsCut (group ∷ next ∷ rest) =
    (length (items_bytes group) ≤ CONTENT_ROOM) × HasNoRoomFor group next × IsCut (next ∷ rest)

-- the pages of these groups from a place on, none of which is the last
abbrev pub pages_from : ℕ → List (List Item) → List Page
pages_from place [] = []
pages_from place (group ∷ rest) = page_of place false (items_bytes group) ∷ pages_from (place + 1) rest

-- The history of a packer: it was given these items and has given these pages. They are the pages of
-- all groups but the last, which is in hand.
pub record HasPacked (hand : PageInHand) (items : List Item) (pages : List Page) : Type 0 where
  pub groups : List (List Item)
  pub last : List Item
  pub valid : AreItems items
  pub whole : flat_map (λ group. group) groups ++ last ≡ items
  pub cut : IsCut (groups ++ last ∷ [])
  pub given : pages ≡ pages_from 0 groups
  pub place : hand.place ≡ length groups % 2 ^ 16
  pub content : hand.content ≡ items_bytes last

-- 2 input: a unit goes page by page to the side in turn, and behind all units an empty stream to each side.
use Rattle.std.specs.Prelude.{Bool, true, false, if◌then◌else◌, [], ◌∷◌, Option, None, Some}
use Rattle.solo_base.specs.declared.item.Item.{Item}
use Rattle.solo_base.specs.declared.item.Feed.{Feed}
use Rattle.solo_base.specs.declared.page.Page.{Page}
use Rattle.page_codec.specs.Form.{page_of}
use Rattle.page_codec.specs.Packing.{PageInHand, first_page, page_given, hand_after}
use Rattle.batch_procs.specs.declared.actions.Reply.{Reply}
use Rattle.deck_units.specs.Units.{opens, is_inside, is_dropped}
use Rattle.solo_base.specs.declared.item.Feed.TheVariants as feed
use Rattle.batch_procs.specs.declared.actions.Reply.TheVariants as reply
use Rattle.twin_law.specs.Process.{Aim, TakesFeed, PutsPage, Finishes, Process}
use Rattle.twin_law.specs.Sides.{Twin, A, other, to_job}

pub data InputPlace : Type 0 where
  -- the side in turn, whether the next item stands in a group, and the page in hand, if a unit is under way
  Takes : Twin → Bool → Option PageInHand → InputPlace
  -- a full page of a unit, with the page that is in hand then
  PutsFull : Twin → Bool → Page → PageInHand → InputPlace
  -- the last page of a unit, before the item that opens the next, or before the end
  PutsLast : Twin → Page → Option Item → InputPlace
  -- the two empty streams; the side in turn tells how many units there were
  PutsEmptyA : Twin → InputPlace
  PutsEmptyB : Twin → InputPlace
  HasDealt : InputPlace

-- the last page of a stream, which is in hand
abbrev pub last_of : PageInHand → Page
last_of hand = page_of hand.place true hand.content

-- the one page of an empty stream
abbrev pub empty_page : Page
empty_page = last_of first_page

abbrev pub input_aims : InputPlace → Aim
input_aims (Takes side inside hand) = TakesFeed 1
input_aims (PutsFull side inside page hand) = PutsPage (to_job side) page
input_aims (PutsLast side page opener) = PutsPage (to_job side) page
input_aims (PutsEmptyA side) = PutsPage 2 empty_page
input_aims (PutsEmptyB side) = PutsPage 3 empty_page
input_aims HasDealt = Finishes

-- the page in hand that begins with this item
abbrev pub begins_unit : Item → PageInHand
begins_unit item = hand_after first_page item

-- where the item goes onto the page in hand, or this page goes out before it
abbrev pub pushes : Twin → Bool → Option Page → PageInHand → InputPlace
pushes side inside None hand = Takes side inside (Some hand)
pushes side inside (Some page) hand = PutsFull side inside page hand

-- an item that isn't left out
abbrev pub packs : Twin → Bool → Option PageInHand → Item → InputPlace
packs side inside None item = Takes side inside (Some (begins_unit item))
packs side inside (Some hand) item =
    if opens item then PutsLast side (last_of hand) (Some item)
    else pushes side inside (page_given hand item) (hand_after hand item)

abbrev pub deals : Twin → Bool → Option PageInHand → Item → InputPlace
deals side inside hand item =
    if is_dropped inside item then Takes side (is_inside inside item) hand
    else packs side (is_inside inside item) hand item

abbrev pub ends_deck : Twin → Option PageInHand → InputPlace
ends_deck side None = PutsEmptyA side
ends_deck side (Some hand) = PutsLast side (last_of hand) None

abbrev pub behind_feed : Twin → Bool → Option PageInHand → Feed → InputPlace
behind_feed side inside hand (feed.Item item) = deals side inside hand item
behind_feed side inside hand feed.End = ends_deck side hand

abbrev pub behind_last : Twin → Option Item → InputPlace
behind_last side (Some opener) = Takes (other side) true (Some (begins_unit opener))
behind_last side None = PutsEmptyA (other side)

abbrev pub input_behind : {L : Type 0} → InputPlace → Reply L → InputPlace
input_behind (Takes side inside hand) (reply.Feed f) = behind_feed side inside hand f
input_behind (PutsFull side inside page hand) reply.Done = Takes side inside (Some hand)
input_behind (PutsLast side page opener) reply.Done = behind_last side opener
input_behind (PutsEmptyA side) reply.Done = PutsEmptyB side
input_behind (PutsEmptyB side) reply.Done = HasDealt
input_behind at r = at

abbrev pub input : {L : Type 0} → Process L
input = record {
  Place = InputPlace;
  start = Takes A false None;
  aims = input_aims;
  behind = input_behind;
  finds = λ at r. None;
  works = false;
  buffers = 1 ∷ 2 ∷ 3 ∷ [];
  spools = 2 ∷ 3 ∷ [];
}

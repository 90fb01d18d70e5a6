-- The page that is due behind a push.
use Rattle.std.proofs.Common.{◌≡◌, Bool, true, false, Option, None, if◌then◌else◌, refl}
use Rattle.solo_base.specs.declared.item.Item.{Item}
use Rattle.solo_base.specs.declared.page.Page.{Page}
use Rattle.page_codec.specs.Packing.{PageInHand, fits, page_given}

-- the page that is given, or else the one that was due before
abbrev pub page_due : PageInHand → Item → Option Page → Option Page
page_due hand item before = if fits hand item then before else page_given hand item

alone : (short : Bool) (page : Option Page) → (if short then None else (if short then None else page)) ≡ (if short then None else page)
alone true page = refl
alone false page = refl

-- Where none was due, that is the page that is given.
pub due_alone : (hand : PageInHand) (item : Item) → page_due hand item None ≡ page_given hand item
due_alone hand item = alone (fits hand item) _

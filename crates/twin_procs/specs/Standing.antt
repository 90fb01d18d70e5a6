-- Which place of the law the card, the printer and the input process stand at.
use Rattle.std.specs.Prelude.{◌≡◌, Bool, true, Option, None, Some}
use Rattle.solo_base.specs.declared.item.Item.{Item}
use Rattle.solo_base.specs.declared.page.Page.{Page}
use Rattle.page_codec.specs.Packing.{PageInHand, page_given, hand_after}
use Rattle.twin_law.specs.Sides.{Twin, other}
use Rattle.twin_law.specs.Ends.{CardPlace, ReadsCard, PutsCard, PutsEnd, HasPut, PrinterPlace, TakesLine, PrintsLine, HasPrinted}
use Rattle.twin_law.specs.Input.{InputPlace, Takes, PutsFull, PutsLast, PutsEmptyA, PutsEmptyB, HasDealt}
use Rattle.twin_procs.specs.declared.card_proc.CardAt.{CardAt}
use Rattle.twin_procs.specs.declared.card_proc.CardAt.TheVariants as card
use Rattle.twin_procs.specs.declared.printer_proc.PrinterAt.{PrinterAt}
use Rattle.twin_procs.specs.declared.printer_proc.PrinterAt.TheVariants as printer
use Rattle.twin_procs.specs.declared.input_proc.InputAt.{InputAt}
use Rattle.twin_procs.specs.declared.input_proc.InputAt.TheVariants as here
use Rattle.twin_procs.specs.declared.input_proc.InputProc.{InputProc}
use Rattle.twin_procs.specs.Said.{twin}

abbrev pub CardStands : CardAt → CardPlace → Type 0
CardStands place ReadsCard = place ≡ card.Reads
CardStands place (PutsCard item) = place ≡ card.Puts item
CardStands place PutsEnd = place ≡ card.PutsEnd
CardStands place HasPut = place ≡ card.HasPut

abbrev pub PrinterStands : PrinterAt → PrinterPlace → Type 0
PrinterStands place TakesLine = place ≡ printer.TakesLine
PrinterStands place (PrintsLine line) = place ≡ printer.PrintsLine line
PrinterStands place HasPrinted = place ≡ printer.HasPrinted

-- ---- input
-- the side in turn, whether the next item stands in a group, and the page in hand
pub record Deals (j : InputProc) (side : Twin) (inside : Bool) (hand : Option PageInHand) : Type 0 where
  pub side_is : twin j.side ≡ side
  pub inside_is : j.inside ≡ inside
  pub hand_is : j.packer ≡ hand

abbrev pub InputStands : InputProc → InputPlace → Type 0
InputStands j (Takes side inside hand) = (j.place ≡ here.Takes) × Deals j side inside hand
InputStands j (PutsFull side inside page hand) =
    (j.place ≡ here.PutsFull page) × Deals j side inside (Some hand)
InputStands j (PutsLast side page (Some opener)) =
    (j.place ≡ here.PutsUnit page opener) × (twin j.side ≡ side)
InputStands j (PutsLast side page None) = (j.place ≡ here.PutsLast page) × (twin j.side ≡ side)
InputStands j (PutsEmptyA side) = j.place ≡ here.PutsEmptyA
InputStands j (PutsEmptyB side) = j.place ≡ here.PutsEmptyB
InputStands j HasDealt = j.place ≡ here.HasDealt

-- ---- in the middle of a step
-- its place behind a push that gave a page or none
abbrev pub place_given : Option Page → InputAt → InputAt
place_given None place = place
place_given (Some page) place = here.PutsFull page

-- The item is pushed onto the page in hand.
pub record PushesInput (old new : InputProc) (hand : PageInHand) (item : Item) : Type 0 where
  pub place : new.place ≡ place_given (page_given hand item) old.place
  pub side : new.side ≡ old.side
  pub inside : new.inside ≡ old.inside
  pub packer : new.packer ≡ Some (hand_after hand item)

-- The next unit begins with this page in hand.
pub record BeginsNext (old new : InputProc) (hand : PageInHand) : Type 0 where
  pub place : new.place ≡ here.Takes
  pub side : twin new.side ≡ other (twin old.side)
  pub inside : new.inside ≡ true
  pub packer : new.packer ≡ Some hand

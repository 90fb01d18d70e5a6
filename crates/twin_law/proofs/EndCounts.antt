-- The end moved once, or not yet, at each place of the four that put it or take it.
use Rattle.std.proofs.Common.{◌≡◌, ℕ, ◌+◌, if◌then◌else◌, Bool, true, false, ◌&&◌, List, [], ◌∷◌, ◌++◌, Option, None, Some, refl, sym, ◌∙◌, ap, arith}
use Rattle.network_law.specs.Acts.{At, Moves, Moved}
use Rattle.network_law.specs.Network.{IsOne, acts}
use Rattle.network_law.specs.Network as law
use Rattle.std.specs.Prelude.{Result, Ok, Err}
use Rattle.page_codec.specs.Packing as pack
use Rattle.batch_procs.specs.Relays.{mark-of}
use Rattle.solo_base.specs.declared.item.Item.{Item}
use Rattle.solo_base.specs.declared.item.Item.TheVariants.{Line, Spoiled}
use Rattle.solo_base.specs.declared.item.Feed.{Feed}
use Rattle.solo_base.specs.declared.page.Page.{Page}
use Rattle.solo_base.specs.declared.outcome.Side.TheVariants.{Sender, Receiver}
use Rattle.solo_devices.specs.declared.card_read.CardRead.{CardRead}
use Rattle.page_codec.specs.declared.judge.BadPage.{BadPage}
use Rattle.page_codec.specs.Form.{page_of}
use Rattle.page_codec.specs.Packing.{PageInHand, page_given, hand_after, fits}
use Rattle.page_codec.specs.Reading.{PageContent}
use Rattle.batch_procs.specs.declared.actions.Reply.{Reply}
use Rattle.batch_procs.specs.Sends.{lines_of}
use Rattle.batch_procs.specs.Jobs.{Jobs}
use Rattle.batch_procs.specs.Parcels.{Parcel, OfPage, mark, is_the_end}
use Rattle.deck_units.specs.Units.{opens, is_inside, is_dropped}
use Rattle.solo_base.specs.declared.item.Feed.TheVariants as feed
use Rattle.solo_devices.specs.declared.card_read.CardRead.TheVariants as read
use Rattle.batch_procs.specs.declared.actions.Reply.TheVariants as reply
use Rattle.twin_law.specs.Process.{Entry, stands_behind, place, given_cause, caused}
use Rattle.twin_law.specs.Sides.{Twin, A, B, other, to_job, from_job}
use Rattle.twin_law.specs.Ends.{CardPlace, ReadsCard, PutsCard, PutsEnd, HasPut, card_aims, behind_read, card, PrinterPlace, TakesLine, PrintsLine, HasPrinted, printer_aims, behind_line, printer}
use Rattle.twin_law.specs.Input.{InputPlace, Takes, PutsFull, PutsLast, PutsEmptyA, PutsEmptyB, HasDealt, last_of, input_aims, pushes, packs, deals, ends_deck, behind_feed, behind_last, input}
use Rattle.twin_law.specs.Output.{Turn, OutputPlace, TakesLines, PutsLine, PutsOver, HasGathered, output_aims, puts_line, turn_behind, behind_lines, page_in_turn, output}
use Rattle.twin_law.specs.Twin.{call, went_by, Fits, twin}
use Rattle.twin_law.proofs.Marks.{trues, bit, makes, marks_by, marks_at, stands, OneSide, plus-none, plus-false, plus-true, plus-bit}

-- ---- 1 card and the line buffer 1: the end was put once
abbrev pub card_ends : CardPlace → ℕ
card_ends HasPut = 1
card_ends other = 0

card-read : (answer : CardRead) → card_ends (behind_read answer) ≡ 0
card-read (read.Card line) = refl
card-read read.Spoiled = refl
card-read read.End = refl
card-read read.Failed = refl
card-read read.Limit = refl

card-step : {L : Type 0} (x : CardPlace) (r : Reply L) (xs ys : List Bool) → Fits (makes (card_aims x)) r → given_cause card x (makes (card_aims x)) r ≡ None → OneSide card_ends x xs ys
    → OneSide card_ends (stands_behind card x (makes (card_aims x)) r) (xs ++ marks_by 1 Sender (call 1 (makes (card_aims x))) (went_by (makes (card_aims x)) r))
    (ys ++ marks_by 1 Sender (call 1 (makes (card_aims x))) (went_by (makes (card_aims x)) r))
card-step ReadsCard (reply.Card answer) xs ys fits none is = plus-none xs _ (is ∙ sym (card-read answer))
card-step (PutsCard item) reply.Done xs ys fits none is = plus-false xs 0 is
card-step (PutsCard item) reply.Stopped xs ys fits none is = absurd cc
card-step PutsEnd reply.Done xs ys fits none is = plus-true xs 0 1 is refl
card-step PutsEnd reply.Stopped xs ys fits none is = absurd cc
card-step HasPut reply.Done xs ys fits none is = plus-none xs 1 is
card-step x r xs ys fits none is = absurd fits

-- ---- 6 printer and the line buffer 6: the end was taken once
abbrev pub printer_ends : PrinterPlace → ℕ
printer_ends HasPrinted = 1
printer_ends other = 0

line-behind : (f : Feed) → printer_ends (behind_line f) ≡ 0 + bit (is_the_end f)
line-behind (feed.Item (Line line)) = refl
line-behind (feed.Item Spoiled) = refl
line-behind feed.End = refl

printer-step : {L : Type 0} (x : PrinterPlace) (r : Reply L) (xs ys : List Bool) → Fits (makes (printer_aims x)) r → given_cause printer x (makes (printer_aims x)) r ≡ None
    → OneSide printer_ends x xs ys
    → OneSide printer_ends (stands_behind printer x (makes (printer_aims x)) r) (xs ++ marks_by 6 Receiver (call 6 (makes (printer_aims x))) (went_by (makes (printer_aims x)) r))
    (ys ++ marks_by 6 Receiver (call 6 (makes (printer_aims x))) (went_by (makes (printer_aims x)) r))
printer-step TakesLine (reply.Feed f) xs ys fits none is = plus-bit (is_the_end f) xs 0 (printer_ends (behind_line f)) is (line-behind f)
printer-step TakesLine reply.Stopped xs ys fits none is = absurd cc
printer-step (PrintsLine line) reply.Done xs ys fits none is = plus-none xs 0 is
printer-step (PrintsLine line) reply.Failed xs ys fits none is = absurd cc
printer-step (PrintsLine line) reply.NoMemory xs ys fits none is = absurd cc
printer-step HasPrinted reply.Done xs ys fits none is = plus-none xs 1 is
printer-step x r xs ys fits none is = absurd fits

-- ---- 2 input and the line buffer 1: the end was taken, or not yet
abbrev pub input_ends : InputPlace → ℕ
input_ends (Takes side inside hand) = 0
input_ends (PutsFull side inside full hand) = 0
input_ends (PutsLast side last (Some opener)) = 0
input_ends (PutsLast side last None) = 1
input_ends (PutsEmptyA side) = 1
input_ends (PutsEmptyB side) = 1
input_ends HasDealt = 1

ends-deck : (side : Twin) (hand : Option PageInHand) → input_ends (ends_deck side hand) ≡ 1
ends-deck side None = refl
ends-deck side (Some hand) = refl

behind-last : (side : Twin) (last : Page) (opener : Option Item) → input_ends (behind_last side opener) ≡ input_ends (PutsLast side last opener)
behind-last side last None = refl
behind-last side last (Some opener) = refl

-- what an item leads to is a unit under way, of the side in turn
abbrev pub IsOn : Twin → InputPlace → Type 0
IsOn side (Takes of inside hand) = side ≡ of
IsOn side (PutsFull of inside page hand) = (side ≡ of) × (mark page ≡ false)
IsOn side (PutsLast of page (Some opener)) = (side ≡ of) × (mark page ≡ true)
IsOn side x = ⊥

pushes-on : (side : Twin) (inside : Bool) (hand : PageInHand) (item : Item) → IsOn side (pushes side inside (page_given hand item) (hand_after hand item))
pushes-on side inside hand item =
    elim (pack.fits hand item) as (λ t. IsOn side (pushes side inside (if t then None else Some (page_of hand.place false hand.content)) (hand_after hand item))) [
      | true ↦ refl
      | false ↦ (refl, mark-of hand.place false hand.content)
    ]

packs-on : (side : Twin) (inside : Bool) (hand : Option PageInHand) (item : Item) → IsOn side (packs side inside hand item)
packs-on side inside None item = refl
packs-on side inside (Some hand) item =
    elim (opens item) as (λ t. IsOn side (if t then PutsLast side (last_of hand) (Some item)
    else pushes side inside (page_given hand item) (hand_after hand item))) [
      | true ↦ (refl, mark-of hand.place true hand.content)
      | false ↦ pushes-on side inside hand item
    ]

pub deals-on : (side : Twin) (inside : Bool) (hand : Option PageInHand) (item : Item) → IsOn side (deals side inside hand item)
deals-on side inside hand item =
    elim (is_dropped inside item) as (λ t. IsOn side (if t then Takes side (is_inside inside item) hand else packs side (is_inside inside item) hand item)) [
      | true ↦ refl
      | false ↦ packs-on side (is_inside inside item) hand item
    ]

on-ends : (side : Twin) (x : InputPlace) → IsOn side x → input_ends x ≡ 0
on-ends side (Takes of inside hand) is = refl
on-ends side (PutsFull of inside page hand) is = refl
on-ends side (PutsLast of page (Some opener)) is = refl
on-ends side x is = absurd is

feed-ends : (side : Twin) (inside : Bool) (hand : Option PageInHand) (f : Feed) → input_ends (behind_feed side inside hand f) ≡ 0 + bit (is_the_end f)
feed-ends side inside hand feed.End = ends-deck side hand
feed-ends side inside hand (feed.Item item) = on-ends side (deals side inside hand item) (deals-on side inside hand item)

-- ---- 5 output and the line buffer 6
abbrev pub output_ends : OutputPlace → ℕ
output_ends HasGathered = 1
output_ends other = 0

puts-ends : (lines : List (List ℕ)) (t : Turn) (over : Bool) → output_ends (puts_line lines t over) ≡ 0
puts-ends [] t true = refl
puts-ends [] t false = refl
puts-ends (line ∷ later) t over = refl

taken-ends : (t : Turn) (read : Result PageContent BadPage) → output_ends (behind_lines t read) ≡ 0
taken-ends t (Err bad) = refl
taken-ends t (Ok content) = puts-ends (lines_of content.items) (turn_behind t content.last content.items) (content.last && t.ended)

none-at-6 : {L : Type 0} (side : Twin) (parcel : Parcel L) → marks_by 6 Sender (At (from_job side) Receiver Moves) (Moved parcel) ≡ []
none-at-6 A parcel = refl
none-at-6 B parcel = refl

plus-nothing : (xs ms : List Bool) (n : ℕ) → ms ≡ [] → trues xs ≡ n → trues (xs ++ ms) ≡ n
plus-nothing xs ms n none e = ap (λ ms. trues (xs ++ ms)) none ∙ plus-none xs n e

output-ends-step : {L : Type 0} (x : OutputPlace) (r : Reply L) (xs ys : List Bool) → Fits (makes (output_aims x)) r → given_cause output x (makes (output_aims x)) r ≡ None
    → OneSide output_ends x xs ys
    → OneSide output_ends (stands_behind output x (makes (output_aims x)) r) (xs ++ marks_by 6 Sender (call 5 (makes (output_aims x))) (went_by (makes (output_aims x)) r))
    (ys ++ marks_by 6 Sender (call 5 (makes (output_aims x))) (went_by (makes (output_aims x)) r))
output-ends-step (TakesLines t) (reply.Page page last) xs ys fits none is =
    plus-nothing xs _ _ (none-at-6 t.side (OfPage page last)) (is ∙ sym (taken-ends t (page_in_turn t page last)))
output-ends-step (TakesLines t) reply.Failed xs ys fits none is = absurd cc
output-ends-step (PutsLine line later t over) reply.Done xs ys fits none is = plus-false xs _ (is ∙ sym (puts-ends later t over))
output-ends-step (PutsLine line later t over) reply.Stopped xs ys fits none is = absurd cc
output-ends-step PutsOver reply.Done xs ys fits none is = plus-true xs 0 1 is refl
output-ends-step PutsOver reply.Stopped xs ys fits none is = absurd cc
output-ends-step HasGathered reply.Done xs ys fits none is = plus-none xs 1 is
output-ends-step x r xs ys fits none is = absurd fits

module _ {L : Type 0} (J : Jobs L) where
  none-at-1 : (side : Twin) (parcel : Parcel L) → marks_by 1 Receiver (At (to_job side) Sender Moves) (Moved parcel) ≡ []
  none-at-1 A parcel = refl
  none-at-1 B parcel = refl

  input-ends-step : (x : InputPlace) (r : Reply L) (xs ys : List Bool) → Fits (makes (input_aims x)) r → given_cause input x (makes (input_aims x)) r ≡ None
      → OneSide input_ends x xs ys
      → OneSide input_ends (stands_behind input x (makes (input_aims x)) r) (xs ++ marks_by 1 Receiver (call 2 (makes (input_aims x))) (went_by (makes (input_aims x)) r))
      (ys ++ marks_by 1 Receiver (call 2 (makes (input_aims x))) (went_by (makes (input_aims x)) r))
  input-ends-step (Takes side inside hand) (reply.Feed f) xs ys fits none is =
      plus-bit (is_the_end f) xs 0 (input_ends (behind_feed side inside hand f)) is (feed-ends side inside hand f)
  input-ends-step (Takes side inside hand) reply.Stopped xs ys fits none is = absurd cc
  input-ends-step (PutsFull side inside full hand) reply.Done xs ys fits none is = plus-nothing xs _ 0 (none-at-1 side (OfPage full (mark full))) is
  input-ends-step (PutsFull side inside full hand) reply.Failed xs ys fits none is = absurd cc
  input-ends-step (PutsLast side last opener) reply.Done xs ys fits none is = plus-nothing xs _ _ (none-at-1 side (OfPage last (mark last))) (is ∙ sym (behind-last side last opener))
  input-ends-step (PutsLast side last opener) reply.Failed xs ys fits none is = absurd cc
  input-ends-step (PutsEmptyA side) reply.Done xs ys fits none is = plus-none xs 1 is
  input-ends-step (PutsEmptyA side) reply.Failed xs ys fits none is = absurd cc
  input-ends-step (PutsEmptyB side) reply.Done xs ys fits none is = plus-none xs 1 is
  input-ends-step (PutsEmptyB side) reply.Failed xs ys fits none is = absurd cc
  input-ends-step HasDealt reply.Done xs ys fits none is = plus-none xs 1 is
  input-ends-step x r xs ys fits none is = absurd fits

  pub card-stands : (h : List (Entry L)) → law.Follows (twin J) 1 h → caused card h ≡ None → trues (marks_at J 1 1 Sender h) ≡ card_ends (place card h)
  card-stands h follows none = stands J 1 (omega arith, omega arith) 1 1 Sender Sender (OneSide card_ends) refl card-step h follows none

  pub printer-stands : (h : List (Entry L)) → law.Follows (twin J) 6 h → caused printer h ≡ None → trues (marks_at J 6 6 Receiver h) ≡ printer_ends (place printer h)
  printer-stands h follows none = stands J 6 (omega arith, omega arith) 6 6 Receiver Receiver (OneSide printer_ends) refl printer-step h follows none

  pub input-ended : (h : List (Entry L)) → law.Follows (twin J) 2 h → caused input h ≡ None → trues (marks_at J 2 1 Receiver h) ≡ input_ends (place input h)
  input-ended h follows none = stands J 2 (omega arith, omega arith) 1 1 Receiver Receiver (OneSide input_ends) refl input-ends-step h follows none

  pub output-ended : (h : List (Entry L)) → law.Follows (twin J) 5 h → caused output h ≡ None → trues (marks_at J 5 6 Sender h) ≡ output_ends (place output h)
  output-ended h follows none = stands J 5 (omega arith, omega arith) 6 6 Sender Sender (OneSide output_ends) refl output-ends-step h follows none

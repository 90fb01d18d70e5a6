-- What the input, the output and the printer process put comes of what they took.
use Rattle.std.proofs.Common.{◌≡◌, ℕ, ◌+◌, ◌≤◌, ◌%◌, ◌^◌, ◌&&◌, if◌then◌else◌, Bool, true, false, List, [], ◌∷◌, length, Option, None, Some, refl, arith}
use Rattle.solo_base.specs.declared.item.Item.{Item}
use Rattle.solo_base.specs.declared.item.Item.TheVariants.{Line, Spoiled}
use Rattle.solo_base.specs.declared.item.Feed.{Feed}
use Rattle.solo_base.specs.declared.page.Page.{Page}
use Rattle.solo_base.specs.declared.outcome.Side.TheVariants.{Receiver}
use Rattle.network_law.specs.Acts.{At, Moves, Moved}
use Rattle.page_codec.specs.Packing.{PageInHand, page_given, hand_after, fits}
use Rattle.batch_procs.specs.declared.actions.Reply.{Reply}
use Rattle.batch_procs.specs.Jobs.{Jobs}
use Rattle.batch_procs.specs.Parcels.{Parcel, OfPage}
use Rattle.batch_procs.specs.Sends.{lines_of}
use Rattle.batch_procs.proofs.Bounds.{lines_of-length}
use Rattle.deck_units.specs.Units.{opens, is_inside, is_dropped}
use Rattle.place_law.specs.Process.{Does}
use Rattle.solo_base.specs.declared.item.Feed.TheVariants as feed
use Rattle.batch_procs.specs.declared.actions.Reply.TheVariants as reply
use Rattle.twin_law.specs.Process.{Action, AwaitRoom, AwaitItem, Request, Release, Stop, Ended}
use Rattle.twin_law.specs.Sides.{Twin, A, B, from_job}
use Rattle.twin_law.specs.Ends.{PrinterPlace, TakesLine, PrintsLine, HasPrinted, printer_aims}
use Rattle.twin_law.specs.Input.{InputPlace, Takes, PutsFull, PutsLast, PutsEmptyA, PutsEmptyB, HasDealt, last_of, input_aims, pushes, packs, behind_feed}
use Rattle.twin_law.specs.Output.{Turn, OutputPlace, TakesLines, PutsLine, PutsOver, HasGathered, output_aims, puts_line, turn_behind, behind_lines, page_in_turn}
use Rattle.twin_law.specs.Twin.{Fits}
use Rattle.twin_law.proofs.Marks.{bit, makes, IsAround}
use Rattle.twin_law.proofs.Pays.{spot, many_by, prints_one, nothing}
use Rattle.twin_law.proofs.Todo.{Any}
use Rattle.twin_law.proofs.GoodPages.{good-page}
use Rattle.twin_law.proofs.Credits.{sends, not-sent, lacks-none, Spends, HasCredit}

-- ---- 2 input: the pages that go out before the next card is taken
abbrev pub input_worth : InputPlace → ℕ
input_worth (Takes side inside hand) = 0
input_worth (PutsFull side inside page hand) = 1
input_worth (PutsLast side page (Some opener)) = 1
input_worth (PutsLast side page None) = 3
input_worth (PutsEmptyA side) = 2
input_worth (PutsEmptyB side) = 1
input_worth HasDealt = 0

pushes-worth : (side : Twin) (inside : Bool) (page : Option Page) (hand : PageInHand) → input_worth (pushes side inside page hand) ≤ 3
pushes-worth side inside None hand = omega arith
pushes-worth side inside (Some page) hand = omega arith

packs-worth : (side : Twin) (inside : Bool) (hand : Option PageInHand) (item : Item) → input_worth (packs side inside hand item) ≤ 3
packs-worth side inside None item = omega arith
packs-worth side inside (Some hand) item =
    let P : Bool → Type 0 = λ t. input_worth (if t then PutsLast side (last_of hand) (Some item) else pushes side inside (page_given hand item)
    (hand_after hand item)) ≤ 3 in
    elim (opens item) as P [ true ↦ omega arith | false ↦ pushes-worth side inside (page_given hand item) (hand_after hand item) ]

feed-worth : (side : Twin) (inside : Bool) (hand : Option PageInHand) (f : Feed) → input_worth (behind_feed side inside hand f) ≤ 3
feed-worth side inside hand (feed.Item item) =
    let P : Bool → Type 0 = λ t. input_worth (if t then Takes side (is_inside inside item) hand else packs side (is_inside inside item) hand item) ≤ 3 in
    elim (is_dropped inside item) as P [ true ↦ omega arith | false ↦ packs-worth side (is_inside inside item) hand item ]
feed-worth side inside None feed.End = omega arith
feed-worth side inside (Some hand) feed.End = omega arith

module _ {L : Type 0} (J : Jobs L) where
  abbrev InputSpends : InputPlace → Reply L → Type 0
  InputSpends x r = Spends J 2 (sends (2 ∷ 3 ∷ [])) (spot 1 Receiver ∷ []) nothing 3 Any input_worth x (makes (input_aims x)) r

  input-step : (x : InputPlace) (r : Reply L) → Fits (makes (input_aims x)) r → InputSpends x r
  input-step (Takes side inside hand) (reply.Feed f) fits = record { is = tt; few = (let w = feed-worth side inside hand f in omega (arith, w)) }
  input-step (Takes side inside hand) reply.Stopped fits = record { is = tt; few = omega arith }
  input-step (PutsFull A inside page hand) reply.Done fits = record { is = tt; few = omega arith }
  input-step (PutsFull B inside page hand) reply.Done fits = record { is = tt; few = omega arith }
  input-step (PutsFull side inside page hand) reply.Failed fits = record { is = tt; few = omega arith }
  input-step (PutsLast A page (Some opener)) reply.Done fits = record { is = tt; few = omega arith }
  input-step (PutsLast B page (Some opener)) reply.Done fits = record { is = tt; few = omega arith }
  input-step (PutsLast A page None) reply.Done fits = record { is = tt; few = omega arith }
  input-step (PutsLast B page None) reply.Done fits = record { is = tt; few = omega arith }
  input-step (PutsLast side page opener) reply.Failed fits = record { is = tt; few = omega arith }
  input-step (PutsEmptyA side) reply.Done fits = record { is = tt; few = omega arith }
  input-step (PutsEmptyA side) reply.Failed fits = record { is = tt; few = omega arith }
  input-step (PutsEmptyB side) reply.Done fits = record { is = tt; few = omega arith }
  input-step (PutsEmptyB side) reply.Failed fits = record { is = tt; few = omega arith }
  input-step HasDealt reply.Done fits = record { is = tt; few = omega arith }
  input-step x r fits = absurd fits

  pub input-credit : HasCredit J 2 (sends (2 ∷ 3 ∷ [])) (spot 1 Receiver ∷ []) nothing 3 Any input_worth
  input-credit = record {
    first_is = tt;
    first = refl;
    step = λ x r fits good is. input-step x r fits;
    around = λ a r is. refl;
    waits = λ a. refl;
    lacks = λ a r may. (let none = lacks-none (2 ∷ 3 ∷ []) 2 a r may in omega (arith, none));
  }

-- ---- 5 output: the lines that go out before the next page is taken
abbrev pub output_worth : OutputPlace → ℕ
output_worth (TakesLines t) = 0
output_worth (PutsLine line later t over) = 1 + length later + bit over
output_worth PutsOver = 1
output_worth HasGathered = 0

bit-one : (t : Bool) → bit t ≤ 1
bit-one true = omega arith
bit-one false = omega arith

lines-worth : (lines : List (List ℕ)) (t : Turn) (over : Bool) → output_worth (puts_line lines t over) ≤ length lines + bit over
lines-worth [] t true = omega arith
lines-worth [] t false = omega arith
lines-worth (line ∷ later) t over = omega arith

page-worth : (t : Turn) (page : Page) (last : Bool) → output_worth (behind_lines t (page_in_turn t page last)) ≤ 507
page-worth t page last =
    good-page (λ result. output_worth (behind_lines t result) ≤ 507) (t.pages % 2 ^ 16) last page
    (λ items few are.
    (let worth = lines-worth (lines_of items) (turn_behind t last items) (last && t.ended) in
    let lines = lines_of-length items in
    let one = bit-one (last && t.ended) in
    omega (arith, worth, lines, few, one)))
    (λ bad. omega arith)

module _ {L : Type 0} (J : Jobs L) where
  abbrev OutputSpends : OutputPlace → Reply L → Type 0
  OutputSpends x r = Spends J 5 (sends (6 ∷ [])) (spot 4 Receiver ∷ spot 5 Receiver ∷ []) nothing 507 Any output_worth x (makes (output_aims x)) r

  turn-takes : (side : Twin) (parcel : Parcel L) → many_by (spot 4 Receiver ∷ spot 5 Receiver ∷ []) (At (from_job side) Receiver Moves) (Moved parcel) ≡ 1
  turn-takes A parcel = omega arith
  turn-takes B parcel = omega arith

  output-step : (x : OutputPlace) (r : Reply L) → Fits (makes (output_aims x)) r → OutputSpends x r
  output-step (TakesLines t) (reply.Page page last) fits = record {
    is = tt;
    few = (let worth = page-worth t page last in let takes = turn-takes t.side (OfPage page last) in let none = not-sent {L = L} 6 (from_job t.side)
        (OfPage page last) in omega (arith, worth, takes, none));
  }
  output-step (TakesLines t) reply.Failed fits = record { is = tt; few = omega arith }
  output-step (PutsLine line later t over) reply.Done fits = record { is = tt; few = (let worth = lines-worth later t over in omega (arith, worth)) }
  output-step (PutsLine line later t over) reply.Stopped fits = record { is = tt; few = omega arith }
  output-step PutsOver reply.Done fits = record { is = tt; few = omega arith }
  output-step PutsOver reply.Stopped fits = record { is = tt; few = omega arith }
  output-step HasGathered reply.Done fits = record { is = tt; few = omega arith }
  output-step x r fits = absurd fits

  pub output-credit : HasCredit J 5 (sends (6 ∷ [])) (spot 4 Receiver ∷ spot 5 Receiver ∷ []) nothing 507 Any output_worth
  output-credit = record {
    first_is = tt;
    first = refl;
    step = λ x r fits good is. output-step x r fits;
    around = λ a r is. refl;
    waits = λ a. refl;
    lacks = λ a r may. (let none = lacks-none (6 ∷ []) 5 a r may in omega (arith, none));
  }

-- ---- 6 printer: the line that is printed before the next is taken
abbrev pub printer_worth : PrinterPlace → ℕ
printer_worth TakesLine = 0
printer_worth (PrintsLine line) = 1
printer_worth HasPrinted = 0

module _ {L : Type 0} (J : Jobs L) where
  abbrev PrinterSpends : PrinterPlace → Reply L → Type 0
  PrinterSpends x r = Spends J 6 [] (spot 6 Receiver ∷ []) prints_one 1 Any printer_worth x (makes (printer_aims x)) r

  printer-step : (x : PrinterPlace) (r : Reply L) → Fits (makes (printer_aims x)) r → PrinterSpends x r
  printer-step TakesLine (reply.Feed (feed.Item (Line line))) fits = record { is = tt; few = omega arith }
  printer-step TakesLine (reply.Feed (feed.Item Spoiled)) fits = record { is = tt; few = omega arith }
  printer-step TakesLine (reply.Feed feed.End) fits = record { is = tt; few = omega arith }
  printer-step TakesLine reply.Stopped fits = record { is = tt; few = omega arith }
  printer-step (PrintsLine line) reply.Done fits = record { is = tt; few = omega arith }
  printer-step (PrintsLine line) reply.Failed fits = record { is = tt; few = omega arith }
  printer-step (PrintsLine line) reply.NoMemory fits = record { is = tt; few = omega arith }
  printer-step HasPrinted reply.Done fits = record { is = tt; few = omega arith }
  printer-step x r fits = absurd fits

  no-print : (a : Action) (r : Reply L) → IsAround a → prints_one (Does a r) ≡ 0
  no-print (AwaitRoom b) r is = refl
  no-print (AwaitItem b) r is = refl
  no-print Request r is = refl
  no-print Release r is = refl
  no-print (Stop b) r is = refl
  no-print (Ended how) r is = refl
  no-print a r is = absurd is

  pub printer-credit : HasCredit J 6 [] (spot 6 Receiver ∷ []) prints_one 1 Any printer_worth
  printer-credit = record {
    first_is = tt;
    first = refl;
    step = λ x r fits good is. printer-step x r fits;
    around = no-print;
    waits = λ a. refl;
    lacks = λ a r may. refl;
  }

-- The card process puts items, and what the input process makes of items are pages in order, at both sides.
use Rattle.std.proofs.Common.{ℕ, ◌+◌, Bool, true, false, if◌then◌else◌, List, [], ◌∷◌, ◌++◌, Option, None, Some, sym, subst}
use Rattle.std.specs.List.{AllByRecursion}
use Rattle.std.proofs.lemmas.List.{append-nil}
use Rattle.solo_base.specs.declared.item.Item.{Item}
use Rattle.solo_base.specs.declared.item.Feed.{Feed}
use Rattle.solo_base.specs.declared.item.Feed.TheVariants as feed
use Rattle.solo_base.specs.declared.page.Page.{Page}
use Rattle.solo_devices.specs.declared.card_read.CardRead.TheVariants as read
use Rattle.page_codec.specs.Items.{IsItem}
use Rattle.page_codec.specs.Packing.{PageInHand, page_given, hand_after}
use Rattle.batch_procs.specs.declared.actions.Reply.{Reply}
use Rattle.batch_procs.specs.declared.actions.Reply.TheVariants as reply
use Rattle.batch_procs.specs.Jobs.{Jobs}
use Rattle.batch_procs.specs.Parcels.{Parcel, OfFeed, OfPage, OfLine, OfLoad, mark}
use Rattle.deck_units.specs.Units.{opens, is_inside, is_dropped}
use Rattle.twin_law.specs.Process.{stands_behind}
use Rattle.twin_law.specs.Sides.{Twin, A, B, other}
use Rattle.twin_law.specs.Ends.{CardPlace, ReadsCard, PutsCard, PutsEnd, HasPut, card_aims, card}
use Rattle.twin_law.specs.Input.{InputPlace, Takes, PutsFull, PutsLast, PutsEmptyA, PutsEmptyB, HasDealt, last_of, empty_page, input_aims, pushes, packs, deals, ends_deck, behind_last, input}
use Rattle.twin_law.specs.Twin.{Fits, IsGood}
use Rattle.twin_law.proofs.Marks.{makes}
use Rattle.twin_law.proofs.Kahn.{seen_by}
use Rattle.twin_law.proofs.Keeping.{sent_by}
use Rattle.twin_law.proofs.Runs.{IsDue, empty-due, turned, IsRun, GoesOn, put-on, as-was, InHand, last-due, Pushed, pushed, begun-unit}

-- ---- what is fed: items
abbrev IsFedItem : Feed → Type 0
IsFedItem (feed.Item item) = IsItem item
IsFedItem feed.End = Unit {0}

abbrev pub IsFed : {L : Type 0} → Parcel L → Type 0
IsFed (OfFeed f) = IsFedItem f
IsFed (OfPage page last) = Unit {0}
IsFed (OfLine line) = Unit {0}
IsFed (OfLoad load) = Unit {0}

-- the item that opens the next unit, if any
abbrev pub IsOpener : Option Item → Type 0
IsOpener None = Unit {0}
IsOpener (Some item) = IsItem item

module _ {L : Type 0} where
  abbrev pub AreFed : List (Parcel L) → Type 0
  AreFed ps = AllByRecursion IsFed ps

  pub fed-first : (ps more : List (Parcel L)) → AreFed (ps ++ more) → AreFed ps
  fed-first [] more are = tt
  fed-first (x ∷ ps) more are = (are.0, fed-first ps more are.1)

  fed-next : (ps : List (Parcel L)) (x : Parcel L) → AreFed (ps ++ x ∷ []) → IsFed x
  fed-next [] x are = are.0
  fed-next (y ∷ ps) x are = fed-next ps x are.1

  fed-on : (ps : List (Parcel L)) (x : Parcel L) → AreFed ps → IsFed x → AreFed (ps ++ x ∷ [])
  fed-on [] x are is = (is, tt)
  fed-on (y ∷ ps) x are is = (are.0, fed-on ps x are.1 is)

  -- ---- 1 card
  abbrev pub CardIs : CardPlace → List (Parcel L) → Type 0
  CardIs ReadsCard f = AreFed f
  CardIs (PutsCard item) f = AreFed f × IsItem item
  CardIs PutsEnd f = AreFed f
  CardIs HasPut f = AreFed f

  still-fed : (f : List (Parcel L)) → AreFed f → AreFed (f ++ [])
  still-fed f are = subst AreFed (sym (append-nil f)) are

  pub card-fed : (x : CardPlace) (f : List (Parcel L)) → CardIs x f → AreFed f
  card-fed ReadsCard f is = is
  card-fed (PutsCard item) f is = is.0
  card-fed PutsEnd f is = is
  card-fed HasPut f is = is

  pub card-step : (J : Jobs L) (x : CardPlace) (r : Reply L) (f : List (Parcel L)) → Fits (makes (card_aims x)) r → IsGood J r → CardIs x f
      → CardIs (stands_behind card x (makes (card_aims x)) r) (f ++ sent_by 1 (makes (card_aims x)) r)
  card-step J ReadsCard (reply.Card (read.Card line)) f fits good is = (still-fed f is, good.0)
  card-step J ReadsCard (reply.Card read.Spoiled) f fits good is = (still-fed f is, tt)
  card-step J ReadsCard (reply.Card read.End) f fits good is = still-fed f is
  card-step J ReadsCard (reply.Card read.Failed) f fits good is = still-fed f is
  card-step J ReadsCard (reply.Card read.Limit) f fits good is = still-fed f is
  card-step J (PutsCard item) reply.Done f fits good is = fed-on f (OfFeed (feed.Item item)) is.0 is.1
  card-step J (PutsCard item) reply.Stopped f fits good is = (still-fed f is.0, is.1)
  card-step J PutsEnd reply.Done f fits good is = fed-on f (OfFeed feed.End) is tt
  card-step J PutsEnd reply.Stopped f fits good is = still-fed f is
  card-step J HasPut reply.Done f fits good is = still-fed f is
  card-step J x r f fits good is = absurd fits

  -- ---- 2 input: at one side a stream is under way, and at the other none
  abbrev pub Both : Twin → ℕ → List (Parcel L) → List (Parcel L) → Type 0
  Both A n f g = GoesOn n f × GoesOn 0 g
  Both B n f g = GoesOn 0 f × GoesOn n g

  abbrev pub HandIs : Twin → Option PageInHand → List (Parcel L) → List (Parcel L) → Type 0
  HandIs side None f g = Both side 0 f g
  HandIs side (Some hand) f g = (n : ℕ) × Both side n f g × InHand n hand

  abbrev pub InputIs : InputPlace → List (Parcel L) → List (Parcel L) → Type 0
  InputIs (Takes side inside hand) f g = HandIs side hand f g
  InputIs (PutsFull side inside page hand) f g = (n : ℕ) × Both side n f g × IsDue n false page × InHand (n + 1) hand
  InputIs (PutsLast side page opener) f g = (n : ℕ) × Both side n f g × IsDue n true page × IsOpener opener
  InputIs (PutsEmptyA side) f g = Both A 0 f g
  InputIs (PutsEmptyB side) f g = Both A 0 f g
  InputIs HasDealt f g = Both A 0 f g

  either-side : (side next : Twin) (f g : List (Parcel L)) → Both side 0 f g → Both next 0 f g
  either-side A A f g is = is
  either-side A B f g is = is
  either-side B A f g is = is
  either-side B B f g is = is

  on-a : (n : ℕ) (f g : List (Parcel L)) (last : Bool) (page : Page) → Both A n f g → IsDue n last page
      → GoesOn (turned n last) (f ++ OfPage page (mark page) ∷ []) × GoesOn 0 (g ++ [])
  on-a n f g last page is due = (put-on n f last page is.0 due, subst (GoesOn 0) (sym (append-nil g)) is.1)

  on-b : (n : ℕ) (f g : List (Parcel L)) (last : Bool) (page : Page) → Both B n f g → IsDue n last page
      → GoesOn 0 (f ++ []) × GoesOn (turned n last) (g ++ OfPage page (mark page) ∷ [])
  on-b n f g last page is due = (subst (GoesOn 0) (sym (append-nil f)) is.0, put-on n g last page is.1 due)

  pushes-well : (side : Twin) (inside : Bool) (given : Option Page) (hand : PageInHand) (n : ℕ) (f g : List (Parcel L)) → Both side n f g → Pushed n given hand
      → InputIs (pushes side inside given hand) f g
  pushes-well side inside None hand n f g both is = (n, both, is)
  pushes-well side inside (Some page) hand n f g both is = (n, both, is.0, is.1)

  packs-well : (side : Twin) (inside : Bool) (hand : Option PageInHand) (item : Item) (f g : List (Parcel L)) → IsItem item → HandIs side hand f g
      → InputIs (packs side inside hand item) f g
  packs-well side inside None item f g valid is = (0, is, begun-unit item valid)
  packs-well side inside (Some hand) item f g valid (n, both, has) =
      elim (opens item) as (λ t. InputIs
      (if t then PutsLast side (last_of hand) (Some item) else pushes side inside (page_given hand item) (hand_after hand item)) f g) [
        | true ↦ (n, both, last-due n hand has, valid)
        | false ↦ pushes-well side inside (page_given hand item) (hand_after hand item) n f g both (pushed n hand item has valid)
      ]

  deals-well : (side : Twin) (inside : Bool) (hand : Option PageInHand) (item : Item) (f g : List (Parcel L)) → IsItem item → HandIs side hand f g
      → InputIs (deals side inside hand item) f g
  deals-well side inside hand item f g valid is =
      elim (is_dropped inside item) as
      (λ t. InputIs (if t then Takes side (is_inside inside item) hand else packs side (is_inside inside item) hand item) f g) [
        | true ↦ is
        | false ↦ packs-well side (is_inside inside item) hand item f g valid is
      ]

  ends-well : (side : Twin) (hand : Option PageInHand) (f g : List (Parcel L)) → HandIs side hand f g → InputIs (ends_deck side hand) f g
  ends-well side None f g is = either-side side A f g is
  ends-well side (Some hand) f g (n, both, has) = (n, both, last-due n hand has, tt)

  last-well : (side : Twin) (opener : Option Item) (f g : List (Parcel L)) → Both side 0 f g → IsOpener opener → InputIs (behind_last side opener) f g
  last-well side (Some item) f g is valid = (0, either-side side (other side) f g is, begun-unit item valid)
  last-well side None f g is valid = either-side side A f g is

  pub input-step : (x : InputPlace) (r : Reply L) (t f g : List (Parcel L)) → Fits (makes (input_aims x)) r
      → AreFed (t ++ seen_by 1 (makes (input_aims x)) r) → InputIs x f g
      → InputIs (stands_behind input x (makes (input_aims x)) r) (f ++ sent_by 2 (makes (input_aims x)) r) (g ++ sent_by 3 (makes (input_aims x)) r)
  input-step (Takes side inside hand) (reply.Feed (feed.Item item)) t f g fits fed is =
      as-was (λ f g. InputIs (deals side inside hand item) f g) f g (deals-well side inside hand item f g (fed-next t (OfFeed (feed.Item item)) fed) is)
  input-step (Takes side inside hand) (reply.Feed feed.End) t f g fits fed is = as-was (λ f g. InputIs (ends_deck side hand) f g) f g
      (ends-well side hand f g is)
  input-step (Takes side inside hand) reply.Stopped t f g fits fed is = as-was (λ f g. HandIs side hand f g) f g is
  input-step (PutsFull A inside page hand) reply.Done t f g fits fed (n, both, due, has) = (n + 1, on-a n f g false page both due, has)
  input-step (PutsFull B inside page hand) reply.Done t f g fits fed (n, both, due, has) = (n + 1, on-b n f g false page both due, has)
  input-step (PutsFull side inside page hand) reply.Failed t f g fits fed is = as-was (λ f g. InputIs (PutsFull side inside page hand) f g) f g is
  input-step (PutsLast A page opener) reply.Done t f g fits fed (n, both, due, valid) =
      last-well A opener (f ++ OfPage page (mark page) ∷ []) (g ++ []) (on-a n f g true page both due) valid
  input-step (PutsLast B page opener) reply.Done t f g fits fed (n, both, due, valid) =
      last-well B opener (f ++ []) (g ++ OfPage page (mark page) ∷ []) (on-b n f g true page both due) valid
  input-step (PutsLast side page opener) reply.Failed t f g fits fed is = as-was (λ f g. InputIs (PutsLast side page opener) f g) f g is
  input-step (PutsEmptyA side) reply.Done t f g fits fed is = on-a 0 f g true empty_page is empty-due
  input-step (PutsEmptyA side) reply.Failed t f g fits fed is = as-was (λ f g. Both A 0 f g) f g is
  input-step (PutsEmptyB side) reply.Done t f g fits fed is = on-b 0 f g true empty_page is empty-due
  input-step (PutsEmptyB side) reply.Failed t f g fits fed is = as-was (λ f g. Both A 0 f g) f g is
  input-step HasDealt reply.Done t f g fits fed is = as-was (λ f g. Both A 0 f g) f g is
  input-step x r t f g fits fed is = absurd fits

  abbrev pub BothRun : List (Parcel L) → List (Parcel L) → Type 0
  BothRun f g = IsRun 0 f × IsRun 0 g

  both-run : (side : Twin) (n : ℕ) (f g : List (Parcel L)) → Both side n f g → BothRun f g
  both-run A n f g is = (is.0.run, is.1.run)
  both-run B n f g is = (is.0.run, is.1.run)

  pub input-runs : (x : InputPlace) (f g : List (Parcel L)) → InputIs x f g → BothRun f g
  input-runs (Takes side inside None) f g is = both-run side 0 f g is
  input-runs (Takes side inside (Some hand)) f g (n, both, has) = both-run side n f g both
  input-runs (PutsFull side inside page hand) f g (n, both, due, has) = both-run side n f g both
  input-runs (PutsLast side page opener) f g (n, both, due, valid) = both-run side n f g both
  input-runs (PutsEmptyA side) f g is = both-run A 0 f g is
  input-runs (PutsEmptyB side) f g is = both-run A 0 f g is
  input-runs HasDealt f g is = both-run A 0 f g is

-- What the input process put of whole streams at both sides, at each of its places.
use Rattle.std.proofs.Common.{◌≡◌, ℕ, ◌+◌, if◌then◌else◌, Bool, true, false, List, [], ◌∷◌, ◌++◌, Option, None, Some, refl, sym, ◌∙◌, ap, subst, arith}
use Rattle.std.proofs.lemmas.List.{append-nil}
use Rattle.network_law.specs.Network.{IsOne, acts}
use Rattle.network_law.specs.Network as law
use Rattle.page_codec.specs.Packing as pack
use Rattle.batch_procs.specs.Relays.{mark-of}
use Rattle.solo_base.specs.declared.item.Item.{Item}
use Rattle.solo_base.specs.declared.item.Feed.{Feed}
use Rattle.solo_base.specs.declared.outcome.Side.TheVariants.{Sender}
use Rattle.page_codec.specs.Form.{page_of}
use Rattle.page_codec.specs.Packing.{PageInHand, page_given, hand_after, fits}
use Rattle.batch_procs.specs.declared.actions.Reply.{Reply}
use Rattle.batch_procs.specs.Jobs.{Jobs}
use Rattle.batch_procs.specs.Parcels.{mark}
use Rattle.deck_units.specs.Units.{opens, is_inside, is_dropped}
use Rattle.solo_base.specs.declared.item.Feed.TheVariants as feed
use Rattle.batch_procs.specs.declared.actions.Reply.TheVariants as reply
use Rattle.twin_law.specs.Process.{Entry, stands_behind, place, given_cause, caused}
use Rattle.twin_law.specs.Sides.{Twin, A, B}
use Rattle.twin_law.specs.Input.{InputPlace, Takes, PutsFull, PutsLast, PutsEmptyA, PutsEmptyB, HasDealt, last_of, input_aims, pushes, packs, deals, ends_deck, behind_feed, behind_last, input}
use Rattle.twin_law.specs.Twin.{call, went_by, Fits, twin}
use Rattle.twin_law.proofs.Marks.{trues, trues-append, whole, whole-true, makes, marks_by, marks_at, stands}

-- ---- 2 input and the two spools
-- in turn: as many whole streams went to both sides, or one more to A
abbrev pub InTurn : Twin → ℕ → ℕ → Type 0
InTurn A a b = a ≡ b
InTurn B a b = a ≡ b + 1

abbrev WholeIf : Twin → List Bool → Type 0
WholeIf A xs = Unit {0}
WholeIf B xs = whole xs ≡ true

abbrev Behind : Twin → ℕ → ℕ → Type 0
Behind A a b = a ≡ b + 1
Behind B a b = a ≡ b + 2

abbrev pub InputIs : InputPlace → List Bool → List Bool → Type 0
InputIs (Takes side inside None) xs ys = InTurn side (trues xs) (trues ys) × (whole xs ≡ true)
InputIs (Takes side inside (Some hand)) xs ys = InTurn side (trues xs) (trues ys) × WholeIf side xs
InputIs (PutsFull side inside full hand) xs ys = InTurn side (trues xs) (trues ys) × WholeIf side xs × (mark full ≡ false)
InputIs (PutsLast side last opener) xs ys = InTurn side (trues xs) (trues ys) × WholeIf side xs × (mark last ≡ true)
InputIs (PutsEmptyA side) xs ys = InTurn side (trues xs) (trues ys) × (whole xs ≡ true)
InputIs (PutsEmptyB side) xs ys = Behind side (trues xs) (trues ys)
InputIs HasDealt xs ys = Unit {0}

whole-nil : (xs : List Bool) → whole xs ≡ true → whole (xs ++ []) ≡ true
whole-nil xs e = ap whole (append-nil xs) ∙ e

whole-if : (side : Twin) (xs : List Bool) → whole xs ≡ true → WholeIf side xs
whole-if A xs e = tt
whole-if B xs e = e

whole-if_nil : (side : Twin) (xs : List Bool) → WholeIf side xs → WholeIf side (xs ++ [])
whole-if_nil A xs e = tt
whole-if_nil B xs e = whole-nil xs e

-- nothing was put
pub turn-nil : (side : Twin) (xs ys : List Bool) → InTurn side (trues xs) (trues ys) → InTurn side (trues (xs ++ [])) (trues (ys ++ []))
turn-nil A xs ys e = (let a = trues-append xs [] in let b = trues-append ys [] in omega (arith, e, a, b))
turn-nil B xs ys e = (let a = trues-append xs [] in let b = trues-append ys [] in omega (arith, e, a, b))

pub turn-false-a : (xs ys : List Bool) → InTurn A (trues xs) (trues ys) → InTurn A (trues (xs ++ false ∷ [])) (trues (ys ++ []))
turn-false-a xs ys e = (let a = trues-append xs (false ∷ []) in let b = trues-append ys [] in omega (arith, e, a, b))

pub turn-false-b : (xs ys : List Bool) → InTurn B (trues xs) (trues ys) → InTurn B (trues (xs ++ [])) (trues (ys ++ false ∷ []))
turn-false-b xs ys e = (let a = trues-append xs [] in let b = trues-append ys (false ∷ []) in omega (arith, e, a, b))

pub turn-true-a : (xs ys : List Bool) → InTurn A (trues xs) (trues ys) → InTurn B (trues (xs ++ true ∷ [])) (trues (ys ++ []))
turn-true-a xs ys e = (let a = trues-append xs (true ∷ []) in let b = trues-append ys [] in omega (arith, e, a, b))

pub turn-true-b : (xs ys : List Bool) → InTurn B (trues xs) (trues ys) → InTurn A (trues (xs ++ [])) (trues (ys ++ true ∷ []))
turn-true-b xs ys e = (let a = trues-append xs [] in let b = trues-append ys (true ∷ []) in omega (arith, e, a, b))

-- what a place says of a unit under way
abbrev AtUnit : Twin → List Bool → List Bool → Type 0
AtUnit side xs ys = InTurn side (trues xs) (trues ys) × WholeIf side xs

ends-is : (side : Twin) (hand : Option PageInHand) (xs ys : List Bool) → InputIs (Takes side false hand) xs ys → InputIs (ends_deck side hand) xs ys
ends-is side None xs ys is = is
ends-is side (Some hand) xs ys is = (is.0, is.1, mark-of hand.place true hand.content)

pushes-is : (side : Twin) (inside : Bool) (hand : PageInHand) (item : Item) (xs ys : List Bool) → AtUnit side xs ys
    → InputIs (pushes side inside (page_given hand item) (hand_after hand item)) xs ys
pushes-is side inside hand item xs ys is =
    elim (pack.fits hand item) as (λ t. InputIs (pushes side inside (if t then None else Some (page_of hand.place false hand.content)) (hand_after hand item)) xs ys) [
      | true ↦ is
      | false ↦ (is.0, is.1, mark-of hand.place false hand.content)
    ]

packs-is : (side : Twin) (inside : Bool) (hand : Option PageInHand) (item : Item) (xs ys : List Bool) → InputIs (Takes side false hand) xs ys
    → InputIs (packs side inside hand item) xs ys
packs-is side inside None item xs ys is = (is.0, whole-if side xs is.1)
packs-is side inside (Some hand) item xs ys is =
    elim (opens item) as (λ t. InputIs (if t then PutsLast side (last_of hand) (Some item)
    else pushes side inside (page_given hand item) (hand_after hand item)) xs ys) [
      | true ↦ (is.0, is.1, mark-of hand.place true hand.content)
      | false ↦ pushes-is side inside hand item xs ys is
    ]

same-unit : (side : Twin) (inside now : Bool) (hand : Option PageInHand) (xs ys : List Bool) → InputIs (Takes side inside hand) xs ys → InputIs (Takes side now hand) xs ys
same-unit side inside now None xs ys is = is
same-unit side inside now (Some hand) xs ys is = is

deals-is : (side : Twin) (inside : Bool) (hand : Option PageInHand) (item : Item) (xs ys : List Bool) → InputIs (Takes side false hand) xs ys
    → InputIs (deals side inside hand item) xs ys
deals-is side inside hand item xs ys is =
    elim (is_dropped inside item) as (λ t. InputIs (if t then Takes side (is_inside inside item) hand else packs side (is_inside inside item) hand item) xs ys) [
      | true ↦ same-unit side false (is_inside inside item) hand xs ys is
      | false ↦ packs-is side (is_inside inside item) hand item xs ys is
    ]

feed-is : (side : Twin) (inside : Bool) (hand : Option PageInHand) (f : Feed) (xs ys : List Bool) → InputIs (Takes side false hand) xs ys
    → InputIs (behind_feed side inside hand f) xs ys
feed-is side inside hand feed.End xs ys is = ends-is side hand xs ys is
feed-is side inside hand (feed.Item item) xs ys is = deals-is side inside hand item xs ys is

takes-nil : (side : Twin) (inside : Bool) (hand : Option PageInHand) (xs ys : List Bool) → InputIs (Takes side inside hand) xs ys
    → InputIs (Takes side false hand) (xs ++ []) (ys ++ [])
takes-nil side inside None xs ys is = (turn-nil side xs ys is.0, whole-nil xs is.1)
takes-nil side inside (Some hand) xs ys is = (turn-nil side xs ys is.0, whole-if_nil side xs is.1)

last-a : (opener : Option Item) (xs ys : List Bool) → InTurn A (trues xs) (trues ys) → InputIs (behind_last A opener) (xs ++ true ∷ []) (ys ++ [])
last-a None xs ys is = (turn-true-a xs ys is, whole-true xs)
last-a (Some opener) xs ys is = (turn-true-a xs ys is, whole-true xs)

last-b : (opener : Option Item) (xs ys : List Bool) → InTurn B (trues xs) (trues ys) → whole xs ≡ true → InputIs (behind_last B opener) (xs ++ []) (ys ++ true ∷ [])
last-b None xs ys is w = (turn-true-b xs ys is, whole-nil xs w)
last-b (Some opener) xs ys is w = (turn-true-b xs ys is, tt)

empty-a : (side : Twin) (xs ys : List Bool) → InTurn side (trues xs) (trues ys) → Behind side (trues (xs ++ true ∷ [])) (trues (ys ++ []))
empty-a A xs ys e = (let a = trues-append xs (true ∷ []) in let b = trues-append ys [] in omega (arith, e, a, b))
empty-a B xs ys e = (let a = trues-append xs (true ∷ []) in let b = trues-append ys [] in omega (arith, e, a, b))

module _ {L : Type 0} (J : Jobs L) where
  input-step : (x : InputPlace) (r : Reply L) (xs ys : List Bool) → Fits (makes (input_aims x)) r → given_cause input x (makes (input_aims x)) r ≡ None
      → InputIs x xs ys
      → InputIs (stands_behind input x (makes (input_aims x)) r) (xs ++ marks_by 2 Sender (call 2 (makes (input_aims x))) (went_by (makes (input_aims x)) r))
      (ys ++ marks_by 3 Sender (call 2 (makes (input_aims x))) (went_by (makes (input_aims x)) r))
  input-step (Takes side inside hand) (reply.Feed f) xs ys fits none is =
      feed-is side inside hand f (xs ++ []) (ys ++ []) (takes-nil side inside hand xs ys is)
  input-step (Takes side inside hand) reply.Stopped xs ys fits none is = absurd cc
  input-step (PutsFull A inside full hand) reply.Done xs ys fits none is =
      subst (λ t. InputIs (Takes A inside (Some hand)) (xs ++ t ∷ []) (ys ++ [])) (sym is.2) (turn-false-a xs ys is.0, tt)
  input-step (PutsFull B inside full hand) reply.Done xs ys fits none is =
      subst (λ t. InputIs (Takes B inside (Some hand)) (xs ++ []) (ys ++ t ∷ [])) (sym is.2) (turn-false-b xs ys is.0, whole-nil xs is.1)
  input-step (PutsFull side inside full hand) reply.Failed xs ys fits none is = absurd cc
  input-step (PutsLast A last opener) reply.Done xs ys fits none is =
      subst (λ t. InputIs (behind_last A opener) (xs ++ t ∷ []) (ys ++ [])) (sym is.2) (last-a opener xs ys is.0)
  input-step (PutsLast B last opener) reply.Done xs ys fits none is =
      subst (λ t. InputIs (behind_last B opener) (xs ++ []) (ys ++ t ∷ [])) (sym is.2) (last-b opener xs ys is.0 is.1)
  input-step (PutsLast side last opener) reply.Failed xs ys fits none is = absurd cc
  input-step (PutsEmptyA side) reply.Done xs ys fits none is = subst (λ t. Behind side (trues (xs ++ t ∷ [])) (trues (ys ++ []))) (sym (mark-of 0 true [])) (empty-a side xs ys is.0)
  input-step (PutsEmptyA side) reply.Failed xs ys fits none is = absurd cc
  input-step (PutsEmptyB side) reply.Done xs ys fits none is = tt
  input-step (PutsEmptyB side) reply.Failed xs ys fits none is = absurd cc
  input-step HasDealt reply.Done xs ys fits none is = tt
  input-step x r xs ys fits none is = absurd fits

  pub input-stands : (h : List (Entry L)) → law.Follows (twin J) 2 h → caused input h ≡ None
      → InputIs (place input h) (marks_at J 2 2 Sender h) (marks_at J 2 3 Sender h)
  input-stands h follows none = stands J 2 (omega arith, omega arith) 2 3 Sender Sender InputIs (refl, refl) input-step h follows none

-- The steps of the input process.
use Rattle.std.proofs.Common.{◌≡◌, Bool, true, false, if◌then◌else◌, Option, None, refl, sym, ◌∙◌, ap, subst}
use Rattle.solo_base.specs.declared.item.Item.{Item}
use Rattle.solo_base.specs.declared.item.Feed.{Feed}
use Rattle.page_codec.specs.Packing.{PageInHand}
use Rattle.batch_procs.specs.declared.actions.Reply.{Reply}
use Rattle.batch_procs.specs.declared.actions.Reply.TheVariants as reply
use Rattle.deck_units.specs.Units.{is_inside, is_dropped}
use Rattle.twin_law.specs.Sides.{Twin}
use Rattle.twin_law.specs.Input.{InputPlace, Takes, PutsFull, PutsLast, PutsEmptyA, PutsEmptyB, HasDealt, input, input_aims, packs, deals, behind_feed}
use Rattle.twin_procs.specs.declared.input_proc.InputProc.{InputProc}
use Rattle.twin_procs.specs.Machine.{IsDone, IsHanded}
use Rattle.twin_procs.specs.Machine as machine
use Rattle.twin_procs.specs.Standing.{InputStands}

module _ (L : Type 0) (j : InputProc) where
  -- ---- what was taken
  pub input-takes : (new : InputProc) (r : Reply L) (f : Feed) → r ≡ reply.Feed f
      → ((side : Twin) (inside : Bool) (hand : Option PageInHand) → InputStands j (Takes side inside hand) → InputStands new (behind_feed side inside hand f))
      → (at : InputPlace) → InputStands j at → IsHanded (input_aims at) r → machine.Takes input (InputStands new) at r None
  input-takes new r f is goes (Takes side inside hand) kept handed = rw is (refl, λ none. goes side inside hand kept)
  input-takes new r f is goes (PutsFull side inside page hand) kept handed = absurd handed
  input-takes new r f is goes (PutsLast side page opener) kept handed = absurd handed
  input-takes new r f is goes (PutsEmptyA side) kept handed = absurd handed
  input-takes new r f is goes (PutsEmptyB side) kept handed = absurd handed
  input-takes new r f is goes HasDealt kept handed = absurd handed

pub no-item : {L : Type 0} (r : Reply L) → ((f : Feed) → r ≡ reply.Feed f → ⊥) → (at : InputPlace) → IsHanded (input_aims at) r → ⊥
no-item (reply.Feed f) not (Takes side inside hand) handed = not f refl
no-item r not (Takes side inside hand) handed = handed
no-item r not (PutsFull side inside page hand) handed = handed
no-item r not (PutsLast side page opener) handed = handed
no-item r not (PutsEmptyA side) handed = handed
no-item r not (PutsEmptyB side) handed = handed
no-item r not HasDealt handed = handed

-- ---- an item
module _ (j : InputProc) (item : Item) (side : Twin) (inside : Bool) (hand : Option PageInHand) (kept : InputStands j (Takes side inside hand)) where
  -- it is left out
  pub add-dropped : (dropped : Bool) (within : Bool) → dropped ≡ is_dropped j.inside item → dropped ≡ true → within ≡ is_inside j.inside item
      → InputStands (record j { inside = within }) (deals side inside hand item)
  add-dropped dropped within is yes_it_is now =
      let drops : is_dropped inside item ≡ true = ap (λ t. is_dropped t item) (sym kept.1.inside_is) ∙ sym is ∙ yes_it_is in
      subst (λ t. InputStands (record j { inside = within })
      (if t then Takes side (is_inside inside item) hand else packs side (is_inside inside item) hand item))
      (sym drops) (
        kept.0,
        record { side_is = kept.1.side_is; inside_is = now ∙ ap (λ t. is_inside t item) kept.1.inside_is; hand_is = kept.1.hand_is },
      )

  -- or packed
  pub add-packed : (new : InputProc) (dropped : Bool) (within : Bool) → dropped ≡ is_dropped j.inside item → dropped ≡ false
      → within ≡ is_inside j.inside item
      → ((side : Twin) (inside : Bool) (hand : Option PageInHand) → InputStands (record j { inside = within }) (Takes side inside hand)
      → InputStands new (packs side inside hand item)) → InputStands new (deals side inside hand item)
  add-packed new dropped within is no_it_is now packed =
      let drops : is_dropped inside item ≡ false = ap (λ t. is_dropped t item) (sym kept.1.inside_is) ∙ sym is ∙ no_it_is in
      subst (λ t. InputStands new (if t then Takes side (is_inside inside item) hand else packs side (is_inside inside item) hand item)) (sym drops)
      (packed side (is_inside inside item) hand (
        kept.0,
        record { side_is = kept.1.side_is; inside_is = now ∙ ap (λ t. is_inside t item) kept.1.inside_is; hand_is = kept.1.hand_is },
      ))

-- What is told at the opening is sound.
use Rattle.std.proofs.Common.{◌≡◌, ℕ, List, ◌++◌, Option, None, Some, subst}
use Rattle.solo_base.specs.declared.item.Item.{Item}
use Rattle.solo_devices.specs.CardUnit.{items_ahead}
use Rattle.page_codec.specs.Items.{AreItems}
use Rattle.page_codec.proofs.CardItems.{card-items}
use Rattle.solo_law.specs.Work.{Plan}
use Rattle.solo_law.specs.Devices.{AreSound}
use Rattle.solo_ends.specs.declared.units.SoloUnits.{SoloUnits}
use Rattle.solo_net.specs.Telling.{Tells}
use Rattle.solo_net.specs.Net.{solo_told_by}
use Rattle.solo_ends.specs.Told.{IsOpenedBy}

same-items : (a b : List Item) → Some a ≡ Some b → a ≡ b
same-items a b e = cc

told-items : (left : Option (List ℕ)) (pending : List ℕ) (items : List Item) → items_ahead left pending ≡ Some items → AreItems items
told-items None pending items e = absurd cc
told-items (Some rest) pending items e = subst AreItems (same-items _ _ e) (card-items (pending ++ rest))

pub opening-sound : {S Y K T F : Type 0} (tells : Tells S Y K T) (units : SoloUnits S Y K T F) (opens : Plan → Type 0) (plan : Option Plan)
    → IsOpenedBy opens plan → AreSound (solo_told_by tells units plan)
opening-sound tells units opens plan is = record {
  cards = λ items e. told-items (tells.cards.left units.cards.source) units.cards.pending items e;
  keys = λ items e. told-items (tells.keys.left units.typewriter.keys.source) units.typewriter.keys.pending items e;
  work = λ found e. (is found e).1;
}

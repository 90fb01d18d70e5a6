-- Told cards are cards.
use Rattle.std.proofs.Common.{◌≡◌, ℕ, List, ◌++◌, Option, None, Some, subst}
use Rattle.solo_base.specs.declared.item.Item.{Item}
use Rattle.solo_devices.specs.CardUnit.{items_ahead}
use Rattle.page_codec.specs.Items.{AreItems}
use Rattle.page_codec.proofs.CardItems.{card-items}
use Rattle.core_law.specs.Opening.{AreCards}

same-items : (a b : List Item) → Some a ≡ Some b → a ≡ b
same-items a b e = cc

pub told-cards : (left : Option (List ℕ)) (pending : List ℕ) → AreCards (items_ahead left pending)
told-cards None pending items e = absurd cc
told-cards (Some rest) pending items e = subst AreItems (same-items _ _ e) (card-items (pending ++ rest))

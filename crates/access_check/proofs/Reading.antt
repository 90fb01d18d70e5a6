-- How the cards of a description are read one after another.
use Rattle.std.proofs.Common.{◌≡◌, ℕ, List, [], take, drop}
use Rattle.std.specs.Prelude.{min}
use Rattle.solo_base.specs.declared.item.Item.{Item}
use Rattle.access_check.specs.declared.description.Description.{Description}
use Rattle.access_check.specs.Description.{description}
use Rattle.access_check.specs.Judgement.{first_card_fault}
use Rattle.access_check.specs.Adding.{HasFewNames}

-- so many cards are read, and none has a fault
pub record Reads (items : List Item) (count number : ℕ) (d : Description) : Type 0 where
  pub so_far : d ≡ description (take count items)
  pub others : first_card_fault [] items ≡ first_card_fault (take count items) (drop count items)
  pub number_is : number ≡ min count 4294967295
  pub small : HasFewNames d

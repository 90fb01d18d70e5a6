-- What the cards of a description declare.
use Rattle.std.specs.Prelude.{ℕ, List, [], ◌∷◌, flat_map}
use Rattle.solo_base.specs.declared.item.Item.{Item}
use Rattle.access_check.specs.Cards.{card_meaning}
use Rattle.access_check.specs.declared.description.Description.{Description}
use Rattle.access_check.specs.declared.card.Card.{Card}
use Rattle.access_check.specs.declared.card.Card.TheVariants.{Monitor, Process, Right, Order}

-- the right of a holder, a process or a monitor, to call a monitor
pub record Access : Type 0 where
  pub holder : List ℕ
  pub monitor : List ℕ

abbrev pub monitors_in : Card → List (List ℕ)
monitors_in (Monitor name) = name ∷ []
monitors_in card = []

abbrev pub processes_in : Card → List (List ℕ)
processes_in (Process name) = name ∷ []
processes_in card = []

abbrev pub order_in : Card → List (List ℕ)
order_in (Order monitors) = monitors
order_in card = []

-- a right to each of the monitors
abbrev pub rights_to : List ℕ → List (List ℕ) → List Access
rights_to holder [] = []
rights_to holder (monitor ∷ more) = record { holder = holder; monitor = monitor } ∷ rights_to holder more

abbrev pub rights_in : Card → List Access
rights_in (Right holder monitors) = rights_to holder monitors
rights_in card = []

-- the monitors and the processes that all cards declare, and the monitors as they order them
abbrev pub description : List Item → Description
description items = record {
  monitors = flat_map (λ item. monitors_in (card_meaning item)) items;
  processes = flat_map (λ item. processes_in (card_meaning item)) items;
  order = flat_map (λ item. order_in (card_meaning item)) items;
}

abbrev pub rights : List Item → List Access
rights items = flat_map (λ item. rights_in (card_meaning item)) items

-- The judgement of a description: its first card with a fault, and the least fault of it; then what isn't in
-- the order; then what goes backward in it.
use Rattle.std.specs.Prelude.{ℕ, ◌+◌, min, Bool, true, false, ◌&&◌, ◌||◌, not, ◌==◌, nat_lt, List, [], ◌∷◌, ◌++◌, length, find, Option, Some, None, Result, Ok, Err}
use Rattle.std.specs.Option.{option_map, option_map_or}
use Rattle.std.specs.List.{list_all}
use Rattle.solo_base.specs.declared.item.Item.{Item}
use Rattle.access_check.specs.Cards.{card_meaning}
use Rattle.access_check.specs.Places.{place, has}
use Rattle.access_check.specs.Description.{Access, description, rights}
use Rattle.access_check.specs.declared.description.Description.{Description}
use Rattle.access_check.specs.declared.card.Card.{Card}
use Rattle.access_check.specs.declared.card.Card.TheVariants as card
use Rattle.access_check.specs.declared.fault.Accepted.{Accepted}
use Rattle.access_check.specs.declared.fault.AccessFault.{AccessFault}
use Rattle.access_check.specs.declared.fault.AccessFault.TheVariants.{BadLine, Twice, TooMany, Unknown, Again, Missing, Backward}

-- a fault where this holds
abbrev pub when : Bool → AccessFault → Option AccessFault
when true fault = Some fault
when false fault = None

-- the first of two, and the second where there is no first
abbrev pub or_else : Option AccessFault → Option AccessFault → Option AccessFault
or_else (Some fault) later = Some fault
or_else None later = later

-- the numbers of cards stand still at 4,294,967,295
abbrev pub card_number : List Item → ℕ
card_number before = min (length before + 1) 4294967295

abbrev pub is_declared : Description → List ℕ → Bool
is_declared d name = has d.monitors name || has d.processes name

-- how many names are declared
abbrev pub count : Description → ℕ
count d = length d.monitors + length d.processes

-- a name that is declared once more, or the 256th declaration
abbrev pub declaration_fault : Description → ℕ → List ℕ → Option AccessFault
declaration_fault d number name =
    or_else (when (is_declared d name) (Twice number)) (when (count d == 255) (TooMany number))

-- a holder that isn't declared, or another name that is no monitor
abbrev pub right_fault : Description → ℕ → List ℕ → List (List ℕ) → Option AccessFault
right_fault d number holder monitors =
    when (not (is_declared d holder && list_all (has d.monitors) monitors)) (Unknown number)

-- whether one of the monitors stands in the order, or earlier among themselves
abbrev pub again : List (List ℕ) → List (List ℕ) → Bool
again order [] = false
again order (monitor ∷ more) = has order monitor || again (order ++ monitor ∷ []) more

-- a name that is no monitor, or one that stands earlier in the order
abbrev pub order_fault : Description → ℕ → List (List ℕ) → Option AccessFault
order_fault d number monitors =
    or_else
    (when (not (list_all (has d.monitors) monitors)) (Unknown number))
    (when (again d.order monitors) (Again number))

-- the least fault of a card of this number, behind the cards that gave the description
abbrev pub card_fault : Description → ℕ → Card → Option AccessFault
card_fault d number card.Blank = None
card_fault d number card.Bad = Some (BadLine number)
card_fault d number (card.Monitor name) = declaration_fault d number name
card_fault d number (card.Process name) = declaration_fault d number name
card_fault d number (card.Right holder monitors) = right_fault d number holder monitors
card_fault d number (card.Order monitors) = order_fault d number monitors

-- the fault of the first card that has one, behind those before
abbrev pub first_card_fault : List Item → List Item → Option AccessFault
first_card_fault before [] = None
first_card_fault before (item ∷ behind) =
    or_else
    (card_fault (description before) (card_number before) (card_meaning item))
    (first_card_fault (before ++ item ∷ []) behind)

-- the first declared monitor that isn't in the order
abbrev pub missing : Description → Option (List ℕ)
missing d = find (λ monitor. not (has d.order monitor)) d.monitors

-- whether the second place is behind the first
abbrev pub is_later : Option ℕ → Option ℕ → Bool
is_later (Some here) (Some there) = nat_lt here there
is_later (Some here) None = false
is_later None there = false

-- a right of a monitor to one that isn't later in the order
abbrev pub is_backward : Description → Access → Bool
is_backward d access =
    has d.monitors access.holder
    && not (is_later (place d.order access.holder) (place d.order access.monitor))

abbrev pub backward : Description → List Access → Option Access
backward d accesses = find (is_backward d) accesses

abbrev pub missing_fault : Option (List ℕ) → Option AccessFault
missing_fault monitor = option_map (λ name. Missing name) monitor

abbrev pub backward_fault : Option Access → Option AccessFault
backward_fault access = option_map (λ a. Backward a.holder a.monitor) access

-- the fault of a description, or none
abbrev pub fault : List Item → Option AccessFault
fault items =
    or_else
    (first_card_fault [] items)
    (or_else
    (missing_fault (missing (description items)))
    (backward_fault (backward (description items) (rights items))))

-- what is said of a description without a fault
abbrev pub accepted : Description → Accepted
accepted d = record { monitors = length d.monitors; processes = length d.processes }

abbrev pub judge : List Item → Result Accepted AccessFault
judge items = option_map_or Err (fault items) (Ok (accepted (description items)))

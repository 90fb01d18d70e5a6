-- The units of a deck: an opener with all that stands behind it up to the next, each worked on apart.
use Rattle.std.specs.Prelude.{Bool, true, false, not, ◌&&◌, ◌||◌, List, [], ◌∷◌, ◌++◌, is_some}
use Rattle.solo_base.specs.declared.item.Item.{Item}
use Rattle.deck_format.specs.Jobs.{opener_of, is_end, counts}

-- whether an item opens a group
abbrev pub opens : Item → Bool
opens item = is_some (opener_of item)

-- whether what stands behind an item stands in a group
abbrev pub is_inside : Bool → Item → Bool
is_inside inside item = opens item || (inside && not (is_end item))

-- a blank card outside groups is left out
abbrev pub is_dropped : Bool → Item → Bool
is_dropped inside item = not inside && not (counts item)

abbrev pub unless_dropped : Bool → Item → List Item → List Item
unless_dropped true item rest = rest
unless_dropped false item rest = item ∷ rest

-- the items without the blank cards outside groups, by whether the first of them stands in a group
abbrev pub kept : Bool → List Item → List Item
kept inside [] = []
kept inside (item ∷ rest) = unless_dropped (is_dropped inside item) item (kept (is_inside inside item) rest)

-- ---- items cut before their openers: what stands before the first, and each opener with what follows it
pub record Cut : Type 0 where
  pub front : List Item
  pub groups : List (List Item)

abbrev pub before_cut : Bool → Item → Cut → Cut
before_cut true item behind = record { front = []; groups = (item ∷ behind.front) ∷ behind.groups }
before_cut false item behind = record { front = item ∷ behind.front; groups = behind.groups }

abbrev pub cut_before_openers : List Item → Cut
cut_before_openers [] = record { front = []; groups = [] }
cut_before_openers (item ∷ rest) = before_cut (opens item) item (cut_before_openers rest)

-- what stands before the first opener is a unit, where there is anything
abbrev pub first_unit : List Item → List (List Item)
first_unit [] = []
first_unit (item ∷ rest) = (item ∷ rest) ∷ []

abbrev pub units_of : Cut → List (List Item)
units_of cut = first_unit cut.front ++ cut.groups

-- `X`, a blank card, `#LIST A`, `#END`, `Y` has the units `X` and `#LIST A`, `#END`, `Y`.
abbrev pub units : List Item → List (List Item)
units items = units_of (cut_before_openers (kept false items))

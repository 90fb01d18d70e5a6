-- What items are as bytes.
use Rattle.std.specs.Prelude.{ℕ, List, [], ◌∷◌, ◌++◌, length}
use Rattle.std.specs.List.{AllByRecursion}
use Rattle.solo_base.specs.Line.{IsLine}
use Rattle.solo_base.specs.declared.item.Item.{Item}
use Rattle.solo_base.specs.declared.item.Item.TheVariants.{Line, Spoiled}

-- a line is its length and its characters, a spoiled card the one byte 255: `HI` gives 2, 72, 73
abbrev pub item_bytes : Item → List ℕ
item_bytes (Line line) = length line ∷ line
item_bytes Spoiled = 255 ∷ []

-- each item, one behind the other
abbrev pub items_bytes : List Item → List ℕ
items_bytes [] = []
items_bytes (item ∷ rest) = item_bytes item ++ items_bytes rest

-- an item that there can be: a line has at most 132 characters, each of which prints
abbrev pub IsItem : Item → Type 0
IsItem (Line line) = IsLine line
IsItem Spoiled = Unit {0}

abbrev pub AreItems : List Item → Type 0
AreItems items = AllByRecursion IsItem items

-- Decks that are cut by hand, by computing.
use Rattle.std.proofs.Common.{◌≡◌, [], ◌∷◌, codes, refl}
use Rattle.solo_base.specs.declared.item.Item.{Item}
use Rattle.solo_base.specs.declared.item.Item.TheVariants.{Line, Spoiled}
use Rattle.deck_units.specs.Units.{units}

-- no card, and blank cards alone
none : units [] ≡ []
none = refl

blank : units (Line [] ∷ Line [] ∷ []) ≡ []
blank = refl

-- three groups
abbrev list_a : Item
list_a = Line (codes "#LIST A")

abbrev list_b : Item
list_b = Line (codes "#LIST B")

abbrev list_c : Item
list_c = Line (codes "#LIST C")

abbrev x : Item
x = Line (codes "X")

abbrev y : Item
y = Line (codes "Y")

abbrev end : Item
end = Line (codes "#END")

three : units (list_a ∷ x ∷ list_b ∷ y ∷ list_c ∷ []) ≡ (list_a ∷ x ∷ []) ∷ (list_b ∷ y ∷ []) ∷ (list_c ∷ []) ∷ []
three = refl

-- A stretch before the first opener is a unit, and one behind an end belongs to its group's unit.
skipped : units (x ∷ Line [] ∷ list_a ∷ end ∷ y ∷ []) ≡ (x ∷ []) ∷ (list_a ∷ end ∷ y ∷ []) ∷ []
skipped = refl

-- a blank card in a group stays, one behind its end doesn't
blanks : units (list_a ∷ Line [] ∷ end ∷ Line [] ∷ Spoiled ∷ []) ≡ (list_a ∷ Line [] ∷ end ∷ Spoiled ∷ []) ∷ []
blanks = refl

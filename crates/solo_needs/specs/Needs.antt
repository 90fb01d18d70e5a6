-- What a command needs, and what a piece of its work begins with.
use Rattle.std.specs.Prelude.{ℕ, Bool, List}
use Rattle.solo_base.specs.declared.item.Item.{Item}
use Rattle.solo_base.specs.declared.item.Feed.{Feed}

-- A piece of work begins with a typed line; with a card file, its cards up to the first spoiled one and
-- whether there is one; with a typed line that a program accepts, or that there is none; or with nothing but
-- that a line was displayed or a page was put.
pub data Given : Type 0 where
  OfLine : Item → Given
  OfCards : List (List ℕ) → Bool → Given
  OfTyped : Feed → Given
  OfNothing : Given

-- What a command needs next: a card file, a typed line, that a line is displayed, that a page with these
-- lines is put, or its end, with the lines that it printed since and the lines that answer it.
pub data Need : Type 0 where
  CardsNeeded : Need
  LineNeeded : Need
  DisplayNeeded : List ℕ → Need
  PageNeeded : List (List ℕ) → Need
  EndNeeded : List (List ℕ) → List (List ℕ) → Need

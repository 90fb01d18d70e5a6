-- The cards of a text: the whole text is cut into lines, and each line is judged by itself.
use Rattle.std.specs.Prelude.{ℕ, ◌&&◌, nat_le, List, [], ◌∷◌, length, map, ◌==◌, if◌then◌else◌}
use Rattle.std.specs.List.{list_all}
use Rattle.solo_base.specs.Line.{is_printable}
use Rattle.solo_base.specs.Blanks.{trimmed}
use Rattle.solo_base.specs.declared.item.Item.{Item}
use Rattle.solo_base.specs.declared.item.Item.TheVariants.{Line, Spoiled}

-- a character in front of a text that was cut: it begins the first line
abbrev pub before_lines : ℕ → List (List ℕ) → List (List ℕ)
before_lines code [] = (code ∷ []) ∷ []
before_lines code (first ∷ others) = (code ∷ first) ∷ others

-- the pieces between the line feeds, and the last piece where it isn't empty:
-- `A`, line feed, line feed, `B` gives `A`, the empty line and `B`
abbrev pub lines : List ℕ → List (List ℕ)
lines [] = []
lines (code ∷ rest) = if code == 10 then [] ∷ lines rest else before_lines code (lines rest)

-- one carriage return at the end of a line doesn't count
abbrev pub without_return : List ℕ → List ℕ
without_return [] = []
without_return (code ∷ []) = if code == 13 then [] else code ∷ []
without_return (code ∷ next ∷ rest) = code ∷ without_return (next ∷ rest)

-- at most 80 columns that print are a card, without the blanks at its end; anything else is spoiled
abbrev pub judged : List ℕ → Item
judged columns =
    if nat_le (length columns) 80 && list_all is_printable columns then Line (trimmed columns) else Spoiled

-- what one line of the text gives
abbrev pub card_of : List ℕ → Item
card_of line = judged (without_return line)

-- what the text gives: `HI`, line feed, `X` 81 times gives the card `HI` and a spoiled one
abbrev pub cards : List ℕ → List Item
cards bytes = map card_of (lines bytes)

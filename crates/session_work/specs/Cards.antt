-- The lines of a text as the cards of a program.
use Rattle.std.specs.Prelude.{◌≡◌, ◌<◌, ◌==◌, ℕ, Bool, true, false, List, [], ◌∷◌, ◌++◌, length, take, codes, Option, Some, None, if◌then◌else◌}
use Rattle.std.specs.List.{position_or_len}
use Rattle.solo_base.specs.Card.{lines}
use Rattle.solo_base.specs.Line.{line_of}
use Rattle.solo_base.specs.LineList.{AreLines}
use Rattle.stack_code.specs.CodeLists.{CodeLists}
use Rattle.pascal_tree.specs.Program.{Program}
use Rattle.pascal_read.specs.Scan.{next_line}
use Rattle.pascal_code.specs.Code.{code_of}
use Rattle.code_law.specs.Compiling.{compiled}
use Rattle.solo_base.specs.Line.{IsLine}
use Rattle.solo_task.specs.Compiles.{bad_line_from, compiling_text}

-- the card that ends at a place, of a text that isn't empty
abbrev pub card_of : List ℕ → ℕ → Option (List ℕ)
card_of [] end = None
card_of (code ∷ text) end = line_of (take end (code ∷ text))

-- the number of the line at which reading stops, where a text is left
abbrev pub stops_at : List ℕ → ℕ → Option ℕ
stops_at [] line = None
stops_at (code ∷ rest) line = Some line

-- the next line is this card, or the text is at its end or at a line that is none
abbrev pub NextCard : List ℕ → ℕ → Option (List ℕ) → List ℕ → ℕ → Type 0
NextCard rest line None rest_now line_now =
    (rest_now ≡ rest) × (line_now ≡ line) × (bad_line_from line (lines rest) ≡ stops_at rest line)
NextCard rest line (Some card) rest_now line_now =
    (lines rest ≡ card ∷ lines rest_now) × IsLine card × (line_now ≡ next_line line)
    × (length rest_now < length rest)

-- the number of the line behind some
abbrev pub line_behind : ℕ → List (List ℕ) → ℕ
line_behind line [] = line
line_behind line (card ∷ cards) = line_behind (next_line line) cards

-- these cards are the first lines of a text, of which this is left, from this line on
pub record ReadsOn (text : List ℕ) (cards : List (List ℕ)) (rest : List ℕ) (line : ℕ) : Type 0 where
  pub lines_are : lines text ≡ cards ++ lines rest
  pub are_cards : AreLines cards
  pub number : line ≡ line_behind 1 cards

-- and the next line, if there is one, is none
pub record ReadSo (text : List ℕ) (cards : List (List ℕ)) (rest : List ℕ) (line : ℕ) : Type 0 where
  pub reads : ReadsOn text cards rest line
  pub stops : bad_line_from line (lines rest) ≡ stops_at rest line

-- a card that ends a comment, where a text has a `"`
abbrev pub closing_if : Bool → List (List ℕ)
closing_if true = []
closing_if false = (34 ∷ []) ∷ []

abbrev pub closing : List ℕ → List (List ℕ)
closing rest = closing_if (position_or_len (λ code. code == 34) rest == length rest)

-- the code is that of the program that a text comes to
pub record IsCodeOfText (text : List ℕ) (code : CodeLists) : Type 0 where
  pub program : Program
  pub comes_to : compiling_text text ≡ compiled program
  pub is : code ≡ code_of program

abbrev pub compiler_name : List ℕ
compiler_name = codes "COMPILE     "

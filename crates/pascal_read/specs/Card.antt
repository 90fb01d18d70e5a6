-- How the words of one card and of those behind it make the words of a text.
use Rattle.std.specs.Prelude.{◌≡◌, ℕ, ◌++◌, ◌==◌, if◌then◌else◌, List, [], ◌∷◌, Option, Some, None, Err}
use Rattle.pascal_tree.specs.Word.{Spot}
use Rattle.pascal_read.specs.Scan.{Words, before, line_after, next_line, words_from}

-- words before others
abbrev pub before_all : List Spot → Words → Words
before_all [] others = others
before_all (first ∷ rest) others = before first (before_all rest others)

-- what stands behind the first `"`
abbrev pub behind_quote : List ℕ → Option (List ℕ)
behind_quote [] = None
behind_quote (code ∷ text) = if code == 34 then Some text else behind_quote text

-- the words of a text that begins inside a comment, which began on line `first`
abbrev pub words_inside : (first line : ℕ) → List ℕ → Words
words_inside first line [] = Err first
words_inside first line (code ∷ text) =
    if code == 34 then words_from line 0 text else words_inside first (line_after code line) text

-- the words from a line on, where a comment that began on an earlier line may be open
abbrev pub words_behind : Option ℕ → ℕ → List ℕ → Words
words_behind None line text = words_from line 0 text
words_behind (Some first) line text = words_inside first line text

-- a card on a line, and the text behind its end
abbrev pub words_of_card : Option ℕ → ℕ → List ℕ → List ℕ → Words
words_of_card comment line card later = words_behind comment line (card ++ 10 ∷ later)

-- the card's words were read: the tokens got them, and what is left are the words behind the card
pub record ReadsCard (old new : List Spot) (comment : Option ℕ) (line : ℕ) (card : List ℕ) (open_comment : Option ℕ) : Type 0 where
  pub words : (later : List ℕ) →
      before_all old (words_of_card comment line card later) ≡ before_all new (words_behind open_comment (next_line line) later)

-- The words of a card or of a typed line, parted by blanks.
use Rattle.std.specs.Prelude.{ℕ, ◌+◌, Bool, true, false, ◌&&◌, ◌==◌, List, [], ◌∷◌, filter, if◌then◌else◌}
use Rattle.solo_base.specs.Ident.{capital}

-- a character in front of a text that was parted: it goes in front of the first part
abbrev pub before_parts : ℕ → List (List ℕ) → List (List ℕ)
before_parts code [] = (code ∷ []) ∷ []
before_parts code (first ∷ others) = (code ∷ first) ∷ others

-- the parts between the blanks, of which some may be empty
abbrev pub parts : List ℕ → List (List ℕ)
parts [] = [] ∷ []
parts (code ∷ rest) = if code == 32 then [] ∷ parts rest else before_parts code (parts rest)

abbrev pub is_word : List ℕ → Bool
is_word [] = false
is_word (code ∷ rest) = true

-- the words of a text: the parts that aren't empty
abbrev pub words : List ℕ → List (List ℕ)
words text = filter is_word (parts text)

-- the same letters, of either case
abbrev pub spells : List ℕ → List ℕ → Bool
spells [] [] = true
spells (code ∷ rest) (letter ∷ letters) = (capital code == letter) && spells rest letters
spells [] (letter ∷ letters) = false
spells (code ∷ rest) [] = false

-- how long the word is with which a text begins
abbrev pub word_length : List ℕ → ℕ
word_length [] = 0
word_length (code ∷ rest) = if code == 32 then 0 else word_length rest + 1

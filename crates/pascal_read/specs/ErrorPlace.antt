-- Which words spell a tree, and the place of the first error in others.
use Rattle.std.specs.Prelude.{◌≡◌, ℕ, List, [], ◌∷◌, ◌++◌}
use Rattle.pascal_tree.specs.Word.{Spot}
use Rattle.pascal_tree.specs.Program.{Program}
use Rattle.pascal_tree.specs.Limits.{IsTree}
use Rattle.pascal_tree.specs.SpellProgram.{spelled}
use Rattle.pascal_read.specs.ParseFirst.{end_at}

-- the words are the spelling of some tree
pub record SpellATree (words : List Spot) : Type 0 where
  pub tree : Program
  pub is_tree : IsTree tree
  pub is : spelled tree ≡ words

-- the spelling of some tree begins with these words
pub record BeginATree (words : List Spot) : Type 0 where
  pub tree : Program
  pub is_tree : IsTree tree
  pub more : List Spot
  pub is : spelled tree ≡ words ++ more

-- the last word is the end of the program
abbrev pub EndAtTheEnd : List Spot → Type 0
EndAtTheEnd words = (others : List Spot) × (line : ℕ) × (words ≡ others ++ end_at line ∷ [])

-- The line of the first error: some spelling begins with the words before the one there, and none
-- begins with the words up to and including it. In `BEGIN X := END.` it is the line of END.
pub record ErrorPlace (words : List Spot) (line : ℕ) : Type 0 where
  pub before : List Spot
  pub at : Spot
  pub behind : List Spot
  pub words_are : words ≡ before ++ at ∷ behind
  pub line_is : line ≡ at.line
  pub possible : BeginATree before
  pub impossible : BeginATree (before ++ at ∷ []) → ⊥

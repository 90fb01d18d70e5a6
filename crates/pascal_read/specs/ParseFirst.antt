-- The first of the words that are left.
use Rattle.std.specs.Prelude.{ℕ, Bool, false, List, [], ◌∷◌}
use Rattle.pascal_tree.specs.Word.{Spot}
use Rattle.pascal_tree.specs.declared.token.Word.{Word}
use Rattle.pascal_tree.specs.declared.token.Word.TheVariants as word

-- the line of the first word
abbrev pub first_line : List Spot → ℕ
first_line [] = 0
first_line (t ∷ more) = t.line

-- the first word passes a test
abbrev pub first_is : (Word → Bool) → List Spot → Bool
first_is test [] = false
first_is test (t ∷ more) = test t.word

-- the end token on its line
abbrev pub end_at : ℕ → Spot
end_at line = record { word = word.End; line = line }

-- a word on its line
abbrev pub word_at : Word → ℕ → Spot
word_at w line = record { word = w; line = line }

-- What lines are as bytes.
use Rattle.std.specs.Prelude.{ℕ, List, [], ◌∷◌, ◌++◌}

-- a line, followed by a line feed: `HI` gives 72, 73, 10
abbrev pub line_text : List ℕ → List ℕ
line_text line = line ++ 10 ∷ []

-- each line, followed by a line feed
abbrev pub text : List (List ℕ) → List ℕ
text [] = []
text (line ∷ rest) = line_text line ++ text rest

-- What some characters make of the line in hand, when they complete at most one line.
use Rattle.std.specs.Prelude.{◌≡◌, ℕ, List, [], ◌∷◌, Option, Some, None}
use Rattle.pascal_mean.specs.Batch.{with_characters}

-- the line that was completed, if one was
abbrev pub completed : Option (List ℕ) → List (List ℕ)
completed None = []
completed (Some line) = line ∷ []

-- these characters complete this line or none, and leave that one in hand
abbrev pub Prints : List ℕ → List ℕ → Option (List ℕ) → List ℕ → Type 0
Prints before codes line after =
    with_characters (record { lines = []; line = before }) codes
    ≡ record { lines = completed line; line = after }

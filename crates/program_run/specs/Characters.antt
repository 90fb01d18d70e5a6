-- Characters that are read one by one.
use Rattle.std.specs.Prelude.{ℕ, List, [], ◌∷◌, Option, Some, None}

-- the next of them, if one is left
abbrev pub first_of : List ℕ → Option ℕ
first_of [] = None
first_of (code ∷ rest) = Some code

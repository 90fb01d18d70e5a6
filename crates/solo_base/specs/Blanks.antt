-- A text without the blanks at its end.
use Rattle.std.specs.Prelude.{ℕ, List, [], ◌∷◌, ◌==◌, if◌then◌else◌}

-- a character before what is left of a text: a blank with nothing behind it goes too
abbrev pub before_trimmed : ℕ → List ℕ → List ℕ
before_trimmed code [] = if code == 32 then [] else code ∷ []
before_trimmed code (next ∷ rest) = code ∷ next ∷ rest

-- `A B` and three blanks give `A B`; three blanks give nothing
abbrev pub trimmed : List ℕ → List ℕ
trimmed [] = []
trimmed (code ∷ rest) = before_trimmed code (trimmed rest)

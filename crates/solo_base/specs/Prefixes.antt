-- Beginnings of lists.
use Rattle.std.specs.Prelude.{◌≡◌, List, ◌++◌}

-- The whole begins with the part.
abbrev pub IsPrefixOf : {T : Type 0} → List T → List T → Type 0
IsPrefixOf {T} part whole = (rest : List T) × (part ++ rest ≡ whole)

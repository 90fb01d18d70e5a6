-- What an identifier is: a letter, then letters and digits, at most 12 of them.
use Rattle.std.specs.Prelude.{◌≡◌, ℕ, ◌-◌, Bool, false, ◌&&◌, ◌||◌, nat_le, List, [], ◌∷◌, ◌++◌, length, map, replicate, Option, Some, None, if◌then◌else◌}
use Rattle.std.specs.List.{list_all}
use Rattle.solo_base.specs.Blanks.{trimmed}

abbrev pub is_capital : ℕ → Bool
is_capital code = nat_le 65 code && nat_le code 90

abbrev pub is_small : ℕ → Bool
is_small code = nat_le 97 code && nat_le code 122

abbrev pub is_digit : ℕ → Bool
is_digit code = nat_le 48 code && nat_le code 57

abbrev pub is_letter : ℕ → Bool
is_letter code = is_capital code || is_small code

abbrev pub is_letter_or_digit : ℕ → Bool
is_letter_or_digit code = is_letter code || is_digit code

-- the capital of a small letter, and any other code itself
abbrev pub capital : ℕ → ℕ
capital code = if is_small code then code - 32 else code

-- a letter, then letters and digits
abbrev pub is_name : List ℕ → Bool
is_name [] = false
is_name (first ∷ others) = is_letter first && list_all is_letter_or_digit others

-- with blanks behind it, up to 12 characters
abbrev pub padded : List ℕ → List ℕ
padded name = name ++ replicate (12 - length name) 32

-- the identifier that these bytes spell: `sum` gives `SUM` and nine blanks, `2X` gives none
abbrev pub identifier : List ℕ → Option (List ℕ)
identifier bytes =
    if nat_le (length bytes) 12 && is_name bytes then Some (padded (map capital bytes)) else None

-- what each identifier keeps: it is the identifier of itself without its blanks
abbrev pub IsIdent : List ℕ → Type 0
IsIdent bytes = identifier (trimmed bytes) ≡ Some bytes

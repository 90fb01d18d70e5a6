-- What a line of text is.
use Rattle.std.specs.Prelude.{◌≡◌, ℕ, ◌≤◌, Bool, true, ◌&&◌, nat_le, List, length, Option, Some, None, if◌then◌else◌}
use Rattle.std.specs.List.{list_all}

-- a code that prints: the blank, a letter, a digit or a sign
abbrev pub is_printable : ℕ → Bool
is_printable code = nat_le 32 code && nat_le code 126

-- at most 132 codes, each of which prints
pub record IsLine (bytes : List ℕ) : Type 0 where
  pub short : length bytes ≤ 132
  pub printable : list_all is_printable bytes ≡ true

-- the line of these bytes, where they are one
abbrev pub line_of : List ℕ → Option (List ℕ)
line_of bytes = if nat_le (length bytes) 132 && list_all is_printable bytes then Some bytes else None

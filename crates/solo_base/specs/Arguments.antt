-- The names and numbers that a program's words stand for in its calls.
use Rattle.std.specs.Prelude.{ℕ, List, map, Option, None, ℤ, pos, unsigned_abs, min, if◌then◌else◌}
use Rattle.solo_base.specs.Arithmetic.{are_bytes}
use Rattle.solo_base.specs.Blanks.{trimmed}
use Rattle.solo_base.specs.Ident.{identifier}
use Rattle.solo_base.specs.declared.outcome.ProgResult.{ProgResult}
use Rattle.solo_base.specs.declared.outcome.ProgResult.TheVariants as result

-- the words of an identifier: a character each, the blanks behind it too
abbrev pub name_words : List ℕ → List ℤ
name_words name = map pos name

-- the identifier that the words of a call spell, without the blanks at their end; words that aren't bytes
-- spell none, and neither do bytes that no identifier has
abbrev pub word_name : List ℤ → Option (List ℕ)
word_name words = if are_bytes words then identifier (trimmed (map unsigned_abs words)) else None

-- the number by which a program is told how another ended
abbrev pub result_number : ProgResult → ℕ
result_number result.Terminated = 0
result_number result.Overflow = 1
result_number result.RangeError = 2
result_number result.StackLimit = 3
result_number result.CodeLimit = 4
result_number result.TimeLimit = 5
result_number result.CallError = 6

-- the line in which a program ended, as a word: a greater one is told as 32767
abbrev pub line_number : ℕ → ℕ
line_number line = min line 32767

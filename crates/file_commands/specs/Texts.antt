-- A text as the lines that it makes, character by character.
use Rattle.std.specs.Prelude.{◌≡◌, ◌==◌, ℕ, List, true, false, length, nat_lt}
use Rattle.std.specs.List.{position_or_len}
use Rattle.disk_contents.specs.Contents.{text_in}
use Rattle.pascal_mean.specs.Batch.{Printed, with_character, with_characters}
use Rattle.file_commands.specs.declared.texts.Reading.{Reading}

-- a character made these lines, and the one in hand, of those before it
abbrev pub IsAdded : List (List ℕ) → List ℕ → ℕ → List (List ℕ) → List ℕ → Type 0
IsAdded lines line code lines_now line_now =
    with_character (record { lines = lines; line = line }) code
    ≡ record { lines = lines_now; line = line_now }

-- and so did the characters of a text
abbrev pub AreAdded : List (List ℕ) → List ℕ → List ℕ → List (List ℕ) → List ℕ → Type 0
AreAdded lines line text lines_now line_now =
    with_characters (record { lines = lines; line = line }) text
    ≡ record { lines = lines_now; line = line_now }

-- what is printed of a text so far
abbrev pub printed_so_far : Reading → Printed
printed_so_far reading = record { lines = reading.lines; line = reading.line }

-- a piece was read: of a text that has ended nothing, else what is before its first byte 25, which ends it
pub record ReadsOn (before : Reading) (piece : List ℕ) (after : Reading) : Type 0 where
  pub over : before.ended ≡ true → after ≡ before
  pub ends : before.ended ≡ false
      → after.ended ≡ nat_lt (position_or_len (λ byte. byte == 25) piece) (length piece)
  pub reads : before.ended ≡ false
      → printed_so_far after ≡ with_characters (printed_so_far before) (text_in piece)

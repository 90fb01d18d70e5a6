-- The words of a program, from place to place of its text.
use Rattle.std.specs.Prelude.{◌≡◌, ⊤, ℕ, length, zero, suc, ◌+◌, ◌-◌, min, ◌==◌, if◌then◌else◌, List, [], ◌∷◌, ◌++◌, Result, Ok, Err}
use Rattle.solo_base.specs.Text.{text}
use Rattle.pascal_tree.specs.Word.{Spot}
use Rattle.pascal_tree.specs.declared.token.Word.{Word}
use Rattle.pascal_tree.specs.declared.token.Word.TheVariants as word
use Rattle.pascal_read.specs.declared.scan_fault.ScanFault.{ScanFault}
use Rattle.pascal_read.specs.declared.scan_fault.ScanFault.TheVariants as fault
use Rattle.pascal_read.specs.Piece.{Piece, Gap, Spells, Bad, piece_at}

-- the words of a program with the lines on which they begin, or the line of its first bad word
abbrev pub Words : Type 0
Words = Result (List Spot) ℕ

-- the number of the line behind a line, or behind so many lines; the greatest number stays
abbrev pub next_line : ℕ → ℕ
next_line line = min (line + 1) 4294967295

-- the line behind a character: a card's end ends the line
abbrev pub line_after : ℕ → ℕ → ℕ
line_after code line = if code == 10 then next_line line else line

-- a word on a line
abbrev pub spot : Word → ℕ → Spot
spot found line = record { word = found; line = line }

-- a word before others
abbrev pub before : Spot → Words → Words
before first (Ok others) = Ok (first ∷ others)
before first (Err line) = Err line

-- What stands at a place, and then the words behind it, by the length of what stands there.
abbrev pub words_at : ℕ → Piece → (ℕ → Words) → Words
words_at line (Gap length) behind = behind length
words_at line (Spells found length) behind = before (spot found line) (behind length)
words_at line Bad behind = Err line

-- The words of a text whose first `covered` characters belong to what stood before it.
abbrev pub words_from : (line covered : ℕ) → List ℕ → Words
words_from line covered [] = Ok (spot word.End line ∷ [])
words_from line (suc covered) (code ∷ text) = words_from (line_after code line) covered text
words_from line zero (code ∷ text) =
    words_at line (piece_at (code ∷ text)) (λ length. words_from (line_after code line) (length - 1) text)

-- the words of a program's cards, with the end token behind the last card: `X := 1` gives the name X,
-- the symbol `:=` and the number 1 on line 1, and the end on line 2
abbrev pub words : List (List ℕ) → Words
words program = words_from 1 0 (text program)

-- the last token is the end, on the line behind the program's last card
abbrev pub IsEnded : List (List ℕ) → List Spot → Type 0
IsEnded program tokens = (others : List Spot) × (tokens ≡ others ++ spot word.End (next_line (length program)) ∷ [])

-- a fault names the line of the words' first bad word, or says that memory was refused
abbrev pub Explains : ScanFault → Words → Type 0
Explains (fault.BadWord line) words = words ≡ Err line
Explains fault.NoMemory words = ⊤

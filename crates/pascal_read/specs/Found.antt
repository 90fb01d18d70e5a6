-- What the scanner finds at a place.
use Rattle.std.specs.Prelude.{ℕ, List, [], ◌∷◌, bytes_eq, if◌then◌else◌, Option, Some, None}
use Rattle.std.specs.Borrow.{Bor}
use Rattle.pascal_read.specs.Piece.{Piece, Spells, Bad}
use Rattle.pascal_read.specs.declared.found.Found.{Found}
use Rattle.pascal_tree.specs.declared.token.Symbol.{Symbol}
use Rattle.pascal_tree.specs.declared.token.Reserved.{Reserved}
use Rattle.pascal_tree.specs.declared.token.Word.TheVariants as word

-- a word that was found, or none
abbrev pub piece_of : Option Found → Piece
piece_of None = Bad
piece_of (Some found) = Spells found.word found.length

-- a symbol of so many characters
abbrev pub found_symbol : Symbol → ℕ → Found
found_symbol symbol length = record { word = word.Symbol symbol; length = length }

-- the entry of a table of the code that has this spelling
abbrev pub in_table : List (Bor (List ℕ) × Reserved) → List ℕ → Option Reserved
in_table [] spelling = None
in_table (entry ∷ others) spelling = if bytes_eq spelling entry.0.now then Some entry.1 else in_table others spelling

-- What stands at a place of a program's text.
use Rattle.std.specs.Prelude.{ℕ, zero, suc, take, ◌+◌, ◌-◌, ◌*◌, ◌&&◌, ◌||◌, not, nat_lt, nat_le, ◌==◌, if◌then◌else◌, List, [], ◌∷◌, length, map, drop, take_while, position, codes, Option, Some, None}
use Rattle.std.specs.List.{starts_with}
use Rattle.std.specs.Prelude.{bytes_eq, nat_eq}
use Rattle.solo_base.specs.Line.{is_printable}
use Rattle.solo_base.specs.Ident.{is_letter, is_digit, is_letter_or_digit, capital}
use Rattle.pascal_tree.specs.declared.token.Word.{Word}
use Rattle.pascal_tree.specs.declared.token.Word.TheVariants as word
use Rattle.pascal_tree.specs.declared.token.Reserved.{Reserved}
use Rattle.pascal_tree.specs.declared.token.Reserved.TheVariants as reserved
use Rattle.pascal_tree.specs.declared.token.Symbol.{Symbol}
use Rattle.pascal_tree.specs.declared.token.Symbol.TheVariants as symbol

-- so many characters that part words, a word of so many characters, or neither
pub data Piece : Type 0 where
  Gap : ℕ → Piece
  Spells : Word → ℕ → Piece
  Bad : Piece

-- the entry of a table that has this spelling
abbrev pub look_up : {Entry : Type 0} → List (List ℕ × Entry) → List ℕ → Option Entry
look_up [] spelling = None
look_up (entry ∷ others) spelling = if bytes_eq spelling entry.0 then Some entry.1 else look_up others spelling

abbrev pub reserved_words : List (List ℕ × Reserved)
reserved_words =
    (codes "ARRAY", reserved.Array)
    ∷ (codes "BEGIN", reserved.Begin)
    ∷ (codes "CASE", reserved.Case)
    ∷ (codes "CONST", reserved.Const)
    ∷ (codes "DIV", reserved.Div)
    ∷ (codes "DO", reserved.Do)
    ∷ (codes "DOWNTO", reserved.Downto)
    ∷ (codes "ELSE", reserved.Else)
    ∷ (codes "END", reserved.End)
    ∷ (codes "FOR", reserved.For)
    ∷ (codes "FUNCTION", reserved.Function)
    ∷ (codes "IF", reserved.If)
    ∷ (codes "MOD", reserved.Mod)
    ∷ (codes "NOT", reserved.Not)
    ∷ (codes "OF", reserved.Of)
    ∷ (codes "OR", reserved.Or)
    ∷ (codes "PROCEDURE", reserved.Procedure)
    ∷ (codes "PROGRAM", reserved.Program)
    ∷ (codes "REPEAT", reserved.Repeat)
    ∷ (codes "THEN", reserved.Then)
    ∷ (codes "TO", reserved.To)
    ∷ (codes "UNTIL", reserved.Until)
    ∷ (codes "VAR", reserved.Var)
    ∷ (codes "WHILE", reserved.While)
    ∷ []

-- a reserved word, or else a name
abbrev pub reserved_or_name : Option Reserved → List ℕ → Word
reserved_or_name None letters = word.Name letters
reserved_or_name (Some found) letters = word.Reserved found

-- the word that these letters and digits are, in capitals: `END` is a reserved word, and `AND` is the symbol `&`
abbrev pub word_named : List ℕ → Word
word_named letters =
    if bytes_eq letters (codes "AND") then word.Symbol symbol.And
    else reserved_or_name (look_up reserved_words letters) letters

-- a letter, and the letters and digits behind it: `Sum1` and `SUM1` are one name, `end` is END
abbrev pub name_at : List ℕ → Piece
name_at text = let letters = take_while is_letter_or_digit text in
    Spells (word_named (map capital letters)) (length letters)

-- what digits stand for, behind a first part that stands for a number
abbrev pub value_from : ℕ → List ℕ → ℕ
value_from number [] = number
value_from number (digit ∷ others) = value_from (number * 10 + (digit - 48)) others

-- what digits stand for: `007` is 7
abbrev pub value : List ℕ → ℕ
value digits = value_from 0 digits

-- all the digits that stand here, as a number of at most 32767
abbrev pub number_at : List ℕ → Piece
number_at text = let digits = take_while is_digit text in
    if nat_le (value digits) 32767 then Spells (word.Number (value digits)) (length digits) else Bad

-- a character by its code, from the digits on: `65:)'` behind `'(:` is the character A
abbrev pub code_at : List ℕ → Piece
code_at text = let digits = take_while is_digit text in
    if nat_lt 0 (length digits) && nat_le (value digits) 127 && starts_with nat_eq (drop (length digits) text) (codes ":)'")
    then Spells (word.Character (value digits)) (length digits + 6) else Bad

-- a character, from the place behind its first quote on: `A'` is the character A, and so is `(:65:)'`
abbrev pub character_at : List ℕ → Piece
character_at [] = Bad
character_at (code ∷ []) = Bad
character_at (code ∷ next ∷ text) =
    if next == 39 then (if is_printable code && not (code == 39) then Spells (word.Character code) 3 else Bad)
    else (if code == 40 && next == 58 then code_at text else Bad)

-- how a symbol is spelled
abbrev pub symbols : List (List ℕ × Symbol)
symbols =
    (codes "+", symbol.Plus)
    ∷ (codes "-", symbol.Minus)
    ∷ (codes "*", symbol.Times)
    ∷ (codes "&", symbol.And)
    ∷ (codes "=", symbol.Equal)
    ∷ (codes "<>", symbol.NotEqual)
    ∷ (codes "<", symbol.Less)
    ∷ (codes ">", symbol.Greater)
    ∷ (codes "<=", symbol.LessOrEqual)
    ∷ (codes ">=", symbol.GreaterOrEqual)
    ∷ (codes ":=", symbol.Becomes)
    ∷ (codes "(", symbol.Open)
    ∷ (codes ")", symbol.Close)
    ∷ (codes "(.", symbol.OpenIndex)
    ∷ (codes ".)", symbol.CloseIndex)
    ∷ (codes "[", symbol.OpenIndex)
    ∷ (codes "]", symbol.CloseIndex)
    ∷ (codes ",", symbol.Comma)
    ∷ (codes ";", symbol.Semicolon)
    ∷ (codes ":", symbol.Colon)
    ∷ (codes ".", symbol.Period)
    ∷ (codes "..", symbol.UpTo)
    ∷ []

-- a symbol of so many characters, or else a shorter one
abbrev pub symbol_or : Option Symbol → ℕ → Piece → Piece
symbol_or None length shorter = shorter
symbol_or (Some found) length shorter = Spells (word.Symbol found) length

-- the longest symbol of at most so many characters
abbrev pub symbol_within : ℕ → List ℕ → Piece
symbol_within zero text = Bad
symbol_within (suc shorter) text =
    let front = take (suc shorter) text in
    symbol_or (look_up symbols front) (length front) (symbol_within shorter text)

-- the longest symbol, `..` and not `.` at `..)`: none has more than two characters
abbrev pub symbol_at : List ℕ → Piece
symbol_at text = symbol_within 2 text

-- how many characters the word at a place has, 0 where none stands there
abbrev pub covered : Piece → ℕ
covered (Gap length) = 0
covered (Spells found length) = length
covered Bad = 0

abbrev pub comment_piece : Option ℕ → Piece
comment_piece None = Bad
comment_piece (Some place) = Gap (place + 2)

-- a comment, from the place behind its first `"` on: it ends at the next `"`
abbrev pub comment_at : List ℕ → Piece
comment_at text = comment_piece (position (λ code. code == 34) text)

-- What the text begins with. Letters begin a name, digits a number, a quote a character and `"` a comment;
-- a blank and a card's end part words, and what is left are symbols.
abbrev pub piece_at : List ℕ → Piece
piece_at [] = Bad
piece_at (code ∷ text) =
    if is_letter code then name_at (code ∷ text)
    else (if is_digit code then number_at (code ∷ text)
    else (if code == 39 then character_at text
    else (if code == 34 then comment_at text
    else (if code == 32 || code == 10 then Gap 1
    else symbol_at (code ∷ text)))))

-- compile: the text of a file to a new file of code.
use Rattle.std.specs.Prelude.{ℕ, min, ◌&&◌, Bool, nat_le, List, [], ◌∷◌, length, codes, Option, Some, None, Ok, Err, if◌then◌else◌}
use Rattle.std.specs.List.{list_all}
use Rattle.std.specs.FinMap as fin
use Rattle.solo_base.specs.Card.{lines}
use Rattle.solo_base.specs.Line.{is_printable}
use Rattle.disk_layout.specs.declared.kind.FileKind.{FileKind}
use Rattle.disk_layout.specs.declared.kind.FileKind.TheVariants.{Scratch, Ascii, SeqCode, ConCode}
use Rattle.disk_layout.specs.Files.{File, Files}
use Rattle.disk_contents.specs.Contents.{file_bytes, text_in, code_file}
use Rattle.pascal_read.specs.Scan.{Words, words, next_line}
use Rattle.pascal_code.specs.Code.{code_of}
use Rattle.code_law.specs.Compiling.{Compiling, compiling, compiled, bad_word, syntax_error, semantic_error, code_limit}
use Rattle.code_law.specs.Texts.{bad_word_line, syntax_line, semantic_line, code_limit_line}
use Rattle.program_task.specs.Task.{Gives}
use Rattle.solo_task.specs.Answers.{Doing, no_file, file_exists, not_text, stores}

-- ---- The lines of a text, as the compiler wants them

-- at most 132 characters, each of which prints
abbrev pub is_line : List ℕ → Bool
is_line line = nat_le (length line) 132 && list_all is_printable line

-- the number of the first that is none, if one is
abbrev pub bad_line_from : ℕ → List (List ℕ) → Option ℕ
bad_line_from number [] = None
bad_line_from number (line ∷ others) =
    if is_line line then bad_line_from (next_line number) others else Some number

-- the line of the first bad word, where one is on an earlier line than this
abbrev pub first_bad : ℕ → Words → ℕ
first_bad line (Ok tokens) = line
first_bad line (Err other) = min other line

-- A bad line is a bad word, also inside a comment; a comment that nothing closes is one on its first line.
abbrev pub by_bad_line : List (List ℕ) → Option ℕ → Compiling
by_bad_line program None = compiling program
by_bad_line program (Some line) = bad_word (first_bad line (words program))

-- what the text of a file comes to: it is cut at code 10, and a last piece behind the last one is a line too
abbrev pub compiling_text : List ℕ → Compiling
compiling_text text = by_bad_line (lines text) (bad_line_from 1 (lines text))

-- ---- The command

abbrev pub compiler : List ℕ
compiler = codes "COMPILE"

abbrev pub stores_program : Files → List ℕ → Compiling → Doing
stores_program all to (compiled program) = stores compiler all to (code_file (code_of program))
stores_program all to (bad_word line) = Gives (bad_word_line compiler line ∷ [])
stores_program all to (syntax_error line) = Gives (syntax_line compiler line ∷ [])
stores_program all to (semantic_error line rule) = Gives (semantic_line compiler line rule ∷ [])
stores_program all to code_limit = Gives (code_limit_line compiler ∷ [])

abbrev pub compiles_file : FileKind → List ℕ → Files → List ℕ → Doing
compiles_file Ascii bytes all to = stores_program all to (compiling_text (text_in bytes))
compiles_file Scratch bytes all to = not_text compiler
compiles_file SeqCode bytes all to = not_text compiler
compiles_file ConCode bytes all to = not_text compiler

abbrev pub compiles_to : File → Files → List ℕ → Option File → Doing
compiles_to file all to (Some other) = file_exists compiler
compiles_to file all to None = compiles_file file.kind (file_bytes file) all to

abbrev pub compiles_from : Option File → Files → List ℕ → Doing
compiles_from None all to = no_file compiler
compiles_from (Some file) all to = compiles_to file all to (fin.get all to)

-- `compile(text, prog)`
abbrev pub compiles : Files → List ℕ → List ℕ → Doing
compiles all from to = compiles_from (fin.get all from) all to

-- Two sessions with files that were worked by hand: one that stores a text, compiles it and runs the program;
-- and a program that runs itself.
use Rattle.std.specs.Prelude.{◌≡◌, ℕ, false, List, [], ◌∷◌, codes}
use Rattle.std.specs.FinMap as fin
use Rattle.solo_base.specs.declared.item.Item.{Item}
use Rattle.solo_base.specs.Text.{text}
use Rattle.disk_layout.specs.Files.{Files}
use Rattle.disk_contents.specs.Contents.{text_file, code_file}
use Rattle.disk_contents.specs.Loading.{program_of}
use Rattle.disk_contents.specs.declared.loading.Loaded.TheVariants.{Code}
use Rattle.stack_code.specs.CodeLists.{CodeLists}
use Rattle.stack_code.specs.declared.table.Op.TheVariants as op
use Rattle.pascal_tree.specs.Program.{Program}
use Rattle.pascal_code.specs.Code.{code_of}
use Rattle.code_law.specs.Compiling.{compiling, compiled}
use Rattle.solo_task.specs.Session.{Transcript, session}
use Rattle.solo_task.specs.Rows.{lines_of, told_over, does_op, tick_1, text_name}

-- ---- A text, its code, and both listed

abbrev pub hi_card : List ℕ
hi_card = codes "BEGIN WRITE('H'); WRITE('I') END."

-- the code of that one card, by the schemes
abbrev pub hi_written : CodeLists
hi_written = record {
  routines = record { start = 0; params = 0; function = false; words = 0; height = 1 } ∷ [];
  instrs =
      tick_1 ∷ does_op op.Push 72 0 ∷ does_op op.Sys 1 0 ∷ tick_1 ∷ does_op op.Push 73 0 ∷ does_op op.Sys 1 0
      ∷ does_op op.Halt 0 0 ∷ [];
}

abbrev pub prog_file : List ℕ
prog_file = codes "PROG        "

abbrev pub no_files : Files
no_files = fin.empty

abbrev pub with_text : Files
with_text = fin.insert no_files text_name (text_file (text (hi_card ∷ [])))

abbrev pub with_program : Files
with_program = fin.insert with_text prog_file (code_file hi_written)

abbrev pub stored_lines : List Item
stored_lines = lines_of
    (codes "copy(cards, text)" ∷ codes "compile(text, prog)" ∷ codes "prog" ∷ codes "copy(text, printer)"
    ∷ codes "copy(cards, text)" ∷ codes "list" ∷ [])

abbrev pub stored_cards : List Item
stored_cards = lines_of (hi_card ∷ codes "#END" ∷ [])

abbrev pub stored_told : Transcript
stored_told = record {
  console =
      codes "COPY: OK" ∷ codes "COMPILE: OK" ∷ codes "PROG: TERMINATED" ∷ codes "COPY: OK"
      ∷ codes "COPY: FILE EXISTS" ∷ codes "PROG SEQCODE 1 PAGES" ∷ codes "TEXT ASCII 1 PAGES"
      ∷ codes "LIST: 2 FILES" ∷ [];
  paper = codes "HI" ∷ hi_card ∷ [];
  maps = no_files ∷ with_text ∷ with_program ∷ [];
}

pub record StoredRows : Type 0 where
  pub whole : session stored_lines stored_cards no_files ≡ stored_told

-- ---- A program that runs itself

-- it puts its own name together, runs the program of that name, and writes how that ended
abbrev pub deep_lines : List (List ℕ)
deep_lines =
    codes "VAR ID: ARRAY (.1..12.) OF CHAR; L, R, I: INTEGER;"
    ∷ codes "BEGIN FOR I := 1 TO 12 DO ID(.I.) := ' ';"
    ∷ codes "ID(.1.) := 'D'; ID(.2.) := 'E'; ID(.3.) := 'E'; ID(.4.) := 'P';"
    ∷ codes "RUN(ID, L, R); WRITEINT(R); WRITE(NL) END." ∷ []

abbrev pub deep_name : List ℕ
deep_name = codes "DEEP        "

pub record DeepRows : Type 0 where
  -- Five stand on the stack; the fifth finds no room for another, which is result 6, and the others end with
  -- result 0.
  pub deep : (cards : List Item) (all : Files) (program : Program) → compiling deep_lines ≡ compiled program
      → program_of all deep_name ≡ Code (code_of program)
      → session (lines_of (codes "deep" ∷ [])) cards all
      ≡ told_over all (codes "DEEP: TERMINATED" ∷ [])
      (codes "6" ∷ codes "0" ∷ codes "0" ∷ codes "0" ∷ codes "0" ∷ [])
  -- and such a program there is
  pub compiles : (program : Program) × (compiling deep_lines ≡ compiled program)

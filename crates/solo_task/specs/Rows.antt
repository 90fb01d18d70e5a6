-- Sessions that were worked by hand, over any files of which the little is known that they need.
use Rattle.std.specs.Prelude.{◌≡◌, ℕ, false, List, [], ◌∷◌, ◌++◌, map, codes, Some, None}
use Rattle.std.specs.Fmt.{decimal}
use Rattle.std.specs.FinMap as fin
use Rattle.solo_base.specs.declared.item.Item.{Item}
use Rattle.solo_base.specs.declared.item.Item.TheVariants.{Line, Spoiled}
use Rattle.disk_layout.specs.Files.{File, Files}
use Rattle.disk_contents.specs.Loading.{program_of}
use Rattle.disk_contents.specs.declared.loading.Loaded.TheVariants.{Code, NoFile, NotCode, BadCode}
use Rattle.stack_code.specs.CodeLists.{CodeLists}
use Rattle.stack_code.specs.declared.instr.Instr.{Instr}
use Rattle.stack_code.specs.declared.table.Op.{Op}
use Rattle.stack_code.specs.declared.table.Op.TheVariants as op
use Rattle.solo_task.specs.Session.{Transcript, session}

abbrev pub lines_of : List (List ℕ) → List Item
lines_of lines = map Line lines

-- a session that changes no file
abbrev pub told_over : Files → List (List ℕ) → List (List ℕ) → Transcript
told_over all console paper = record { console = console; paper = paper; maps = all ∷ [] }

-- ---- Nothing, blank lines, and lines that are no commands

abbrev pub bad_lines : List Item
bad_lines =
    Spoiled
    ∷ lines_of (codes "copy(a)" ∷ codes "list(x)" ∷ codes "prog(a,)" ∷ codes "copy(cards, cards)" ∷ [])

abbrev pub bad_answer : List ℕ
bad_answer = codes "BAD COMMAND"

pub record QuietRows : Type 0 where
  pub nothing : (cards : List Item) (all : Files) → session [] cards all ≡ told_over all [] []
  pub blank : (cards : List Item) (all : Files)
      → session (lines_of (codes "   " ∷ [])) cards all ≡ told_over all [] []
  pub bad : (cards : List Item) (all : Files) → session bad_lines cards all
      ≡ told_over all (bad_answer ∷ bad_answer ∷ bad_answer ∷ bad_answer ∷ bad_answer ∷ []) []

-- ---- Card files

-- a card file with a spoiled card, and one that the end of the deck ends
abbrev pub two_files : List Item
two_files = Line (codes "A") ∷ Spoiled ∷ Line (codes "B") ∷ Line (codes "#End") ∷ Line (codes "C") ∷ []

abbrev pub prints_cards_line : List ℕ
prints_cards_line = codes "copy(cards, printer)"

abbrev pub text_name : List ℕ
text_name = codes "TEXT        "

pub record CardRows : Type 0 where
  -- the third card file stands behind the end of the deck, and is empty
  pub spoiled : (all : Files)
      → session (lines_of (prints_cards_line ∷ prints_cards_line ∷ prints_cards_line ∷ [])) two_files all
      ≡ told_over all (codes "COPY: SPOILED CARD" ∷ codes "COPY: OK" ∷ codes "COPY: OK" ∷ []) (codes "C" ∷ [])
  -- a copy to a file that exists leaves the cards to the next one
  pub exists : (all : Files) (file : File) → fin.get all text_name ≡ Some file
      → session (lines_of (codes "copy(cards, text)" ∷ prints_cards_line ∷ [])) (lines_of (codes "A" ∷ []))
      all ≡ told_over all (codes "COPY: FILE EXISTS" ∷ codes "COPY: OK" ∷ []) (codes "A" ∷ [])
  pub no_file : (all : Files) → fin.get all text_name ≡ None
      → session (lines_of (codes "Copy ( Text , Printer )" ∷ [])) [] all
      ≡ told_over all (codes "COPY: NO FILE" ∷ []) []

-- ---- Programs

abbrev pub does_op : Op → ℕ → ℕ → Instr
does_op o a b = record { op = o; a = a; b = b }

abbrev pub tick_1 : Instr
tick_1 = does_op op.Tick 0 1

abbrev pub code_with : ℕ → List Instr → CodeLists
code_with words instrs = record {
  routines = record { start = 0; params = 0; function = false; words = words; height = 2 } ∷ [];
  instrs = instrs;
}

-- it writes H and I
abbrev pub hi_code : CodeLists
hi_code = code_with 0
    (tick_1 ∷ does_op op.Push 72 0 ∷ does_op op.Sys 1 0 ∷ does_op op.Push 73 0 ∷ does_op op.Sys 1 0
    ∷ does_op op.Halt 0 0 ∷ [])

abbrev pub hi_name : List ℕ
hi_name = codes "HI          "

-- it displays each character that it accepts, and ends behind code 25
abbrev pub echo_code : CodeLists
echo_code = code_with 1
    (tick_1 ∷ does_op op.Sys 3 0 ∷ does_op op.StoreG 0 0 ∷ does_op op.LoadG 0 0 ∷ does_op op.Sys 4 0
    ∷ does_op op.LoadG 0 0 ∷ does_op op.Push 25 0 ∷ does_op op.Eq 0 0 ∷ does_op op.JumpF 0 0
    ∷ does_op op.Halt 0 0 ∷ [])

abbrev pub echo_name : List ℕ
echo_name = codes "ECHO        "

-- it writes the number of its first argument as a character, and its tag as a digit
abbrev pub argument_code : CodeLists
argument_code = code_with 12
    (tick_1 ∷ does_op op.SysG 11 0 ∷ does_op op.Sys 1 0 ∷ does_op op.Push 48 0 ∷ does_op op.Add 0 0
    ∷ does_op op.Sys 1 0 ∷ does_op op.Halt 0 0 ∷ [])

-- it reads two characters and writes them, the second one first
abbrev pub read_code : CodeLists
read_code = code_with 0
    (tick_1 ∷ does_op op.Sys 0 0 ∷ does_op op.Sys 0 0 ∷ does_op op.Sys 1 0 ∷ does_op op.Sys 1 0
    ∷ does_op op.Halt 0 0 ∷ [])

pub record ProgramRows : Type 0 where
  pub hi : (cards : List Item) (all : Files) → program_of all hi_name ≡ Code hi_code
      → session (lines_of (codes "hi" ∷ [])) cards all
      ≡ told_over all (codes "HI: TERMINATED" ∷ []) (codes "HI" ∷ [])
  -- the lines that it accepts are no commands, and behind the last one it is given code 25
  pub echo : (cards : List Item) (all : Files) → program_of all echo_name ≡ Code echo_code
      → session (lines_of (codes "echo" ∷ codes "AB" ∷ codes "" ∷ codes "list" ∷ [])) cards all
      ≡ told_over all (codes "AB" ∷ codes "" ∷ codes "list" ∷ codes "?" ∷ codes "ECHO: TERMINATED" ∷ []) []
  -- a spoiled line is an empty one to it
  pub echo_spoiled : (cards : List Item) (all : Files) → program_of all echo_name ≡ Code echo_code
      → session (Line (codes "echo") ∷ Spoiled ∷ []) cards all
      ≡ told_over all (codes "" ∷ codes "?" ∷ codes "ECHO: TERMINATED" ∷ []) []
  pub argument : (cards : List Item) (all : Files) → program_of all hi_name ≡ Code argument_code
      → session (lines_of (codes "hi(66, nil)" ∷ [])) cards all
      ≡ told_over all (codes "HI: TERMINATED" ∷ []) (codes "B2" ∷ [])
  -- a name has the tag 3 and the number 0, and where no argument is left the tag is 0
  pub no_argument : (cards : List Item) (all : Files) → program_of all hi_name ≡ Code argument_code
      → session (lines_of (codes "hi(cards)" ∷ codes "hi" ∷ [])) cards all
      ≡ told_over all (codes "HI: TERMINATED" ∷ codes "HI: TERMINATED" ∷ []) (codes "?3" ∷ codes "?0" ∷ [])
  -- of a card file with a spoiled card a program reads the cards before it; each command reads a card file of
  -- its own
  pub reads : (all : Files) → program_of all hi_name ≡ Code read_code
      → session (lines_of (codes "hi" ∷ codes "hi" ∷ codes "hi" ∷ [])) two_files all
      ≡ told_over all
      (codes "HI: TERMINATED" ∷ codes "HI: SPOILED CARD" ∷ codes "HI: TERMINATED" ∷ codes "HI: TERMINATED"
      ∷ []) ([] ∷ codes "A" ∷ [] ∷ codes "C" ∷ codes "??" ∷ [])
  pub no_file : (cards : List Item) (all : Files) → program_of all hi_name ≡ NoFile
      → session (lines_of (codes "Hi" ∷ [])) cards all ≡ told_over all (codes "HI: NO FILE" ∷ []) []
  pub bad_code : (cards : List Item) (all : Files) → program_of all hi_name ≡ BadCode 12
      → session (lines_of (codes "hi" ∷ [])) cards all
      ≡ told_over all ((codes "HI: BAD CODE AT " ++ decimal 12) ∷ []) []
  pub not_code : (cards : List Item) (all : Files) → program_of all hi_name ≡ NotCode
      → session (lines_of (codes "hi" ∷ [])) cards all ≡ told_over all (codes "HI: NOT CODE" ∷ []) []

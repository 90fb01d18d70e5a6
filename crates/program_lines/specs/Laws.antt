-- The laws of a program's lines.
use Rattle.std.specs.Prelude.{◌≡◌, ℕ, ◌+◌, ◌≤◌, Bool, true, false, List, ◌++◌, length}
use Rattle.solo_base.specs.LineList.{AreLines}
use Rattle.stack_code.specs.CodeLists.{CodeLists, IsCode}
use Rattle.stack_code.specs.Rules.{IsGood}
use Rattle.code_law.specs.Compiling.{compiling}
use Rattle.batch_program.specs.Laws.{IsPrefix, most_lines}
use Rattle.program_lines.specs.Task.{Source, RunsCode, source_of, program_lines, source_lines}

-- with more cards its lines go on
abbrev pub MoreCardsGoOn : Type 0
MoreCardsGoOn =
    (name : List ℕ) (limit : ℕ) (source : Source) (input more : List (List ℕ)) (closed : Bool)
    → IsPrefix (source_lines name limit source input false)
    (source_lines name limit source (input ++ more) closed)

-- and with all of them they are those of its meaning
abbrev pub AllCardsGiveAll : Type 0
AllCardsGiveAll =
    (name : List ℕ) (limit : ℕ) (source : Source) (input : List (List ℕ))
    → source_lines name limit source input true ≡ program_lines name limit source input

-- They are no more than its limit of ticks allows, and the one that says how it ended.
abbrev pub FewLines : Type 0
FewLines =
    (name : List ℕ) (limit : ℕ) (cards input : List (List ℕ)) (closed : Bool)
    → AreLines cards → AreLines input
    → length (source_lines name limit (source_of name (compiling cards)) input closed) ≤ most_lines limit + 1

-- and so are those of the good code of a file
abbrev pub FewLinesOfCode : Type 0
FewLinesOfCode =
    (name : List ℕ) (limit : ℕ) (code : CodeLists) (input : List (List ℕ)) (closed : Bool) → IsCode code
    → IsGood code → AreLines input
    → length (source_lines name limit (RunsCode code) input closed) ≤ most_lines limit + 1

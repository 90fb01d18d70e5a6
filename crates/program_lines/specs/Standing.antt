-- What a job's program that is under way stands for.
use Rattle.std.specs.Prelude.{◌≡◌, ℕ, ◌+◌, Bool, false, List, [], ◌∷◌, ◌++◌}
use Rattle.stack_code.specs.CodeLists.{CodeLists, IsCode}
use Rattle.stack_code.specs.Rules.{IsGood}
use Rattle.batch_program.specs.Progress.{Progress, NeedsCard, most_lines_left}
use Rattle.batch_program.specs.Told.{IsAt}
use Rattle.batch_program.specs.Laws.{MeansItsSource}
use Rattle.program_lines.specs.Task.{Source, Runs, RunsCode, Says, Task, task_lines, with_more}
use Rattle.program_lines.specs.declared.program_lines.ProgramLines.{ProgramLines}
use Rattle.program_lines.specs.declared.program_lines.ProgramLines.TheVariants as lines

-- These are all its lines, whatever cards still come.
pub record IsSettled (t : Task) (all : List (List ℕ)) : Type 0 where
  pub now : task_lines t ≡ all
  pub later : t.closed ≡ false → (more : List (List ℕ)) (closed : Bool)
      → task_lines (with_more t more closed) ≡ all

-- this code does what a job has to run: what its program means, or it is the good code of its file
abbrev pub Serves : CodeLists → Source → Type 0
Serves code (Runs program) = MeansItsSource code program
Serves code (RunsCode file) = (code ≡ file) × IsCode file × IsGood file
Serves code (Says line) = ⊥

-- Such code was given the cards so far and has given these lines.
pub record IsUnderWay (name : List ℕ) (r : Progress) (t : Task) (given : List (List ℕ)) : Type 0 where
  pub name_is : t.name ≡ name
  pub code : CodeLists
  pub serves : Serves code t.source
  pub at : IsAt r (record { code = code; limit = t.limit; cards = t.input; closed = t.closed }) given

-- It is at this task, of which it has given these lines.
abbrev pub StandsFor : ProgramLines → Task → List (List ℕ) → Type 0
StandsFor (lines.Runs name r) t given = IsUnderWay name r t given
StandsFor (lines.Last line) t given = IsSettled t (given ++ line ∷ [])
StandsFor lines.Over t given = IsSettled t given

-- It gives no more lines before the next card.
abbrev pub IsSpent : ProgramLines → Type 0
IsSpent (lines.Runs name r) = NeedsCard r
IsSpent (lines.Last line) = ⊥
IsSpent lines.Over = Unit {0}

-- no more lines than these are still to come, whatever cards follow
abbrev pub lines_left : ProgramLines → ℕ
lines_left (lines.Runs name r) = most_lines_left r + 1
lines_left (lines.Last line) = 1
lines_left lines.Over = 0

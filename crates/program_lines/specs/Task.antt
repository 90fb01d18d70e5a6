-- The lines of a job's program: those that it prints, and the one that says how it ended; or the one that
-- says why there is none to run.
use Rattle.std.specs.Prelude.{ℕ, Bool, true, false, List, [], ◌∷◌, ◌++◌}
use Rattle.solo_base.specs.RunOutcome.{RunOutcome, Ends, Waits}
use Rattle.pascal_tree.specs.Program.{Program}
use Rattle.pascal_mean.specs.Batch.{Ending, ending_in_batch}
use Rattle.stack_code.specs.CodeLists.{CodeLists}
use Rattle.code_law.specs.Compiling.{Compiling, compiled, bad_word, syntax_error, semantic_error, code_limit}
use Rattle.batch_program.specs.Outcome.{lines_of, meaning_so_far}
use Rattle.batch_program.specs.RunSoFar.{run_so_far}
use Rattle.code_law.specs.Texts.{result_line, bad_word_line, syntax_line, semantic_line, code_limit_line}

-- what a job has to run: a program, the code of a file, or none, of which this line says why
pub data Source : Type 0 where
  Runs : Program → Source
  RunsCode : CodeLists → Source
  Says : List ℕ → Source

-- what compiling a job's cards comes to
abbrev pub source_of : List ℕ → Compiling → Source
source_of name (compiled p) = Runs p
source_of name (bad_word line) = Says (bad_word_line name line)
source_of name (syntax_error line) = Says (syntax_line name line)
source_of name (semantic_error line rule) = Says (semantic_line name line rule)
source_of name code_limit = Says (code_limit_line name)

-- ---- what comes of a run
abbrev pub end_lines : List ℕ → RunOutcome → List (List ℕ)
end_lines name (Ends r line ticks calls) = result_line name r line ∷ []
end_lines name (Waits calls) = []

-- the lines that it has completed, and how it ended, where it has
abbrev pub outcome_lines : List ℕ → RunOutcome → List (List ℕ)
outcome_lines name outcome = lines_of outcome ++ end_lines name outcome

-- ---- with all cards of its input
-- what it printed, and how it ended
abbrev pub ending_lines : List ℕ → Ending → List (List ℕ)
ending_lines name e = e.output ++ result_line name e.result e.line ∷ []

-- By its meaning: `SUM`, a program that writes 10, has the lines `10` and `SUM: TERMINATED`. The code of a
-- file has those of its run.
abbrev pub program_lines : List ℕ → ℕ → Source → List (List ℕ) → List (List ℕ)
program_lines name limit (Runs p) input = ending_lines name (ending_in_batch p limit input)
program_lines name limit (RunsCode code) input = outcome_lines name (run_so_far code limit input true)
program_lines name limit (Says line) input = line ∷ []

-- ---- with the cards so far

-- The lines that a program has completed, and how it ended, where it has. It reads code 25 behind the last
-- card where no further one comes.
abbrev pub source_lines : List ℕ → ℕ → Source → List (List ℕ) → Bool → List (List ℕ)
source_lines name limit (Runs p) input closed = outcome_lines name (meaning_so_far p limit input closed)
source_lines name limit (RunsCode code) input closed = outcome_lines name (run_so_far code limit input closed)
source_lines name limit (Says line) input closed = line ∷ []

-- a job's program, with the cards of its input so far, and whether no further one comes
pub record Task : Type 0 where
  pub name : List ℕ
  pub limit : ℕ
  pub source : Source
  pub input : List (List ℕ)
  pub closed : Bool

-- before its first card
abbrev pub new_task : List ℕ → ℕ → Source → Task
new_task name limit source = record {
  name = name;
  limit = limit;
  source = source;
  input = [];
  closed = false;
}

-- with more cards, or no further one
abbrev pub with_more : Task → List (List ℕ) → Bool → Task
with_more t more closed = record t { input = t.input ++ more; closed = closed }

abbrev pub with_card : Task → List ℕ → Task
with_card t card = record t { input = t.input ++ card ∷ [] }

abbrev pub at_end : Task → Task
at_end t = record t { closed = true }

abbrev pub task_lines : Task → List (List ℕ)
task_lines t = source_lines t.name t.limit t.source t.input t.closed

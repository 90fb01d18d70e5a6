-- The lines that a job prints.
use Rattle.std.specs.Prelude.{ℕ, Bool, true, false, List, [], ◌∷◌, ◌++◌, length, Option, Some, None, codes, if◌then◌else◌}
use Rattle.std.specs.Fmt.{decimal}
use Rattle.solo_base.specs.Blanks.{trimmed}
use Rattle.deck_format.specs.Jobs.{card_count}
use Rattle.deck_format.specs.declared.job.Job.{Job}
use Rattle.deck_format.specs.declared.job.Job.TheVariants.{List as Listing, Pascal, Run, Skipped}
use Rattle.deck_format.specs.declared.job.CardFault.{CardFault}
use Rattle.deck_format.specs.declared.job.CardFaultKind.{CardFaultKind}
use Rattle.deck_format.specs.declared.job.CardFaultKind.TheVariants.{Spoiled, Control}
use Rattle.code_law.specs.Compiling.{compiling}
use Rattle.disk_contents.specs.declared.loading.Loaded.{Loaded}
use Rattle.disk_contents.specs.declared.loading.Loaded.TheVariants.{Code, NoFile, NotCode, BadCode}
use Rattle.code_law.specs.Texts.{no_file_line, not_code_line, bad_code_line}
use Rattle.program_lines.specs.Task.{Source, RunsCode, Says, source_of, program_lines}

-- `JOB A`
abbrev pub heading : List ℕ → List ℕ
heading name = codes "JOB " ++ trimmed name

-- `A: LISTED 1 CARDS`
abbrev pub listed_line : List ℕ → ℕ → List ℕ
listed_line name count = trimmed name ++ codes ": LISTED " ++ decimal count ++ codes " CARDS"

abbrev pub kind_text : CardFaultKind → List ℕ
kind_text Spoiled = codes ": SPOILED CARD "
kind_text Control = codes ": BAD CONTROL CARD "

-- `A: SPOILED CARD 2`
abbrev pub fault_line : List ℕ → CardFault → List ℕ
fault_line name fault = trimmed name ++ kind_text fault.kind ++ decimal fault.card

-- the last line of a listing
abbrev pub listing_end : List ℕ → List (List ℕ) → Option CardFault → List ℕ
listing_end name cards None = listed_line name (card_count (length cards))
listing_end name cards (Some fault) = fault_line name fault

-- `3 CARDS SKIPPED`
abbrev pub skipped_line : ℕ → List ℕ
skipped_line count = decimal count ++ codes " CARDS SKIPPED"

-- The lines of a program, and behind them the fault of its input. A program with a fault among its own cards
-- isn't run: its fault alone is told.
abbrev pub run_lines : List ℕ → ℕ → Source → List (List ℕ) → Option CardFault → List (List ℕ)
run_lines name limit source input None = program_lines name limit source input
run_lines name limit source input (Some fault) =
    if fault.in_input then program_lines name limit source input ++ fault_line name fault ∷ []
    else fault_line name fault ∷ []

-- ---- Jobs of files

-- a program of a file may take so many ticks
abbrev pub file_limit : ℕ
file_limit = 10000

-- what a job of a file has to run, by what its file was loaded as
abbrev pub source_loaded : List ℕ → Loaded → Source
source_loaded name (Code code) = RunsCode code
source_loaded name NoFile = Says (no_file_line name)
source_loaded name NotCode = Says (not_code_line name)
source_loaded name (BadCode at) = Says (bad_code_line name at)

-- whether a job runs the code of a file
abbrev pub is_of_file : Job → Bool
is_of_file (Listing name cards fault) = false
is_of_file (Pascal name limit program input fault) = false
is_of_file (Run name file input fault) = true
is_of_file (Skipped count) = false

-- what the file of each name is loaded as
abbrev pub Loads : Type 0
Loads = List ℕ → Loaded

-- where there are no files
abbrev pub no_files : Loads
no_files file = NoFile

-- ---- The report

-- A list of the card `HELLO` has the lines `JOB A`, `HELLO`, `A: LISTED 1 CARDS`. A program has those of its
-- run, by what its source means: `JOB SUM`, `10`, `SUM: TERMINATED`. A job of a file has those of the run of
-- its code, or `JOB A`, `A: NO FILE`.
abbrev pub report : Loads → Job → List (List ℕ)
report files (Listing name cards fault) = heading name ∷ cards ++ listing_end name cards fault ∷ []
report files (Pascal name limit program input fault) =
    heading name ∷ run_lines name limit (source_of name (compiling program)) input fault
report files (Run name file input fault) =
    heading name ∷ run_lines name file_limit (source_loaded name (files file)) input fault
report files (Skipped count) = skipped_line count ∷ []

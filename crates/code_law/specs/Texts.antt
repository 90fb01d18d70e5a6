-- The lines that say how a program ended, or why there was none to run.
use Rattle.std.specs.Prelude.{ℕ, min, List, ◌++◌, codes}
use Rattle.std.specs.Fmt.{decimal}
use Rattle.solo_base.specs.Blanks.{trimmed}
use Rattle.solo_base.specs.declared.outcome.ProgResult.{ProgResult}
use Rattle.solo_base.specs.declared.outcome.ProgResult.TheVariants as result

-- a number on a line stands still at 4,294,967,295
abbrev pub number_text : ℕ → List ℕ
number_text n = decimal (min n 4294967295)

-- `SUM: CODE LIMIT`
abbrev pub note : List ℕ → List ℕ → List ℕ
note name text = trimmed name ++ text

-- `SUM: BAD WORD IN LINE 3`
abbrev pub numbered_note : List ℕ → List ℕ → ℕ → List ℕ
numbered_note name text line = trimmed name ++ text ++ number_text line

-- How a program ended: `SUM: TERMINATED`, or what went wrong and where, as `SUM: OVERFLOW IN LINE 3`. The
-- line of a program that has terminated is not told.
abbrev pub result_line : List ℕ → ProgResult → ℕ → List ℕ
result_line name result.Terminated line = note name (codes ": TERMINATED")
result_line name result.Overflow line = numbered_note name (codes ": OVERFLOW IN LINE ") line
result_line name result.RangeError line = numbered_note name (codes ": RANGE ERROR IN LINE ") line
result_line name result.StackLimit line = numbered_note name (codes ": STACK LIMIT IN LINE ") line
result_line name result.CodeLimit line = note name (codes ": CODE LIMIT")
result_line name result.TimeLimit line = numbered_note name (codes ": TIME LIMIT IN LINE ") line
result_line name result.CallError line = numbered_note name (codes ": CALL ERROR IN LINE ") line

-- ---- why there is no program to run
-- `SUM: BAD WORD IN LINE 2`
abbrev pub bad_word_line : List ℕ → ℕ → List ℕ
bad_word_line name line = numbered_note name (codes ": BAD WORD IN LINE ") line

-- `SUM: SYNTAX ERROR IN LINE 1`
abbrev pub syntax_line : List ℕ → ℕ → List ℕ
syntax_line name line = numbered_note name (codes ": SYNTAX ERROR IN LINE ") line

-- `SUM: SEMANTIC ERROR 2 IN LINE 4`, for the rule 2
abbrev pub semantic_line : List ℕ → ℕ → ℕ → List ℕ
semantic_line name line rule =
    numbered_note name (codes ": SEMANTIC ERROR ") rule ++ codes " IN LINE " ++ number_text line

-- `SUM: CODE LIMIT`
abbrev pub code_limit_line : List ℕ → List ℕ
code_limit_line name = note name (codes ": CODE LIMIT")

-- `SUM: NO FILE`
abbrev pub no_file_line : List ℕ → List ℕ
no_file_line name = note name (codes ": NO FILE")

-- `SUM: NOT CODE`
abbrev pub not_code_line : List ℕ → List ℕ
not_code_line name = note name (codes ": NOT CODE")

-- `SUM: BAD CODE AT 12`, for the byte of the file
abbrev pub bad_code_line : List ℕ → ℕ → List ℕ
bad_code_line name at = numbered_note name (codes ": BAD CODE AT ") at

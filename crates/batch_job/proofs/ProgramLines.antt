-- The lines of a job's program are lines: each that it prints is cut at 132 characters, and what doesn't print is shown as `?`.
use Rattle.std.proofs.Common.{◌≡◌, ℕ, ◌<◌, ◌==◌, Bool, true, false, nat_lt, if◌then◌else◌, List, [], ◌∷◌, ◌++◌, length, refl, ◌∙◌, arith}
use Rattle.std.specs.Prelude.{flat_map}
use Rattle.std.proofs.lemmas.List.{length-append}
use Rattle.std.proofs.lemmas.List.Folds.{list_all-append}
use Rattle.std.proofs.lemmas.Bool.Decides.{nat_tests}
use Rattle.solo_base.specs.declared.system_call.SysCall.{SysCall}
use Rattle.solo_base.specs.Line.{is_printable, IsLine}
use Rattle.solo_base.specs.RunOutcome.{RunOutcome, Ends, Waits}
use Rattle.solo_base.specs.Text.{text}
use Rattle.pascal_mean.specs.Meaning.{meaning_with}
use Rattle.pascal_mean.specs.Batch.{batch_answers, characters_of, shown, Printed, nothing_printed, with_character, with_characters, last_line, lines_in, output_of, ending_of}
use Rattle.code_law.specs.Compiling.{Compiling, compiled, bad_word, syntax_error, semantic_error, code_limit}
use Rattle.batch_program.specs.Outcome.{lines_of, printed_by}
use Rattle.batch_program.specs.RunSoFar.{run_so_far}
use Rattle.disk_contents.specs.declared.loading.Loaded.{Loaded}
use Rattle.disk_contents.specs.declared.loading.Loaded.TheVariants.{Code, NoFile, NotCode, BadCode}
use Rattle.batch_job.specs.Report.{source_loaded}
use Rattle.code_law.specs.Texts.{result_line}
use Rattle.program_lines.specs.Task.{Source, Runs, RunsCode, Says, source_of, end_lines, outcome_lines, ending_lines, program_lines}
use Rattle.batch_job.proofs.PrintedTexts.{AreLinesOf, append-lines, IsNamed}
use Rattle.batch_job.proofs.NoteLines.{result-line, bad-word-line, syntax-line, semantic-line, code-limit-line, no-file-line, not-code-line, bad-code-line}

-- ---- what a program prints
record AreInLines (p : Printed) : Type 0 where
  lines : AreLinesOf p.lines
  line : IsLine p.line

shown-by : (t : Bool) (code : ℕ) → is_printable code ≡ t → is_printable (if t then code else 63) ≡ true
shown-by true code e = e
shown-by false code e = refl

shown-prints : (code : ℕ) → is_printable (shown code) ≡ true
shown-prints code = shown-by (is_printable code) code refl

one-code : (code : ℕ) → is_printable code ≡ true → IsLine (code ∷ [])
one-code code is = record { short = omega arith; printable = rw is refl }

longer-line : (line : List ℕ) (code : ℕ) → length line < 132 → is_printable code ≡ true → IsLine line → IsLine (line ++ code ∷ [])
longer-line line code few is l = record {
  short = (let sum = length-append line (code ∷ []) in omega (arith, few, sum));
  printable = list_all-append is_printable line (code ∷ []) ∙ rw (l.printable, is) refl;
}

fits-by : (t : Bool) (n m : ℕ) → nat_lt n m ≡ t → t ≡ true → n < m
fits-by t n m e is = grind (arith, nat_tests, e, is)

code-in-lines : (t : Bool) (p : Printed) (code : ℕ) → nat_lt (length p.line) 132 ≡ t → is_printable code ≡ true → AreInLines p
    → AreInLines (if t then record { lines = p.lines; line = p.line ++ code ∷ [] } else record { lines = p.lines ++ p.line ∷ []; line = code ∷ [] })
code-in-lines true p code e is a = record {
  lines = a.lines;
  line = longer-line p.line code (fits-by true (length p.line) 132 e refl) is a.line;
}
code-in-lines false p code e is a = record { lines = append-lines p.lines (p.line ∷ []) a.lines (a.line, tt); line = one-code code is }

no-codes : IsLine []
no-codes = record { short = omega arith; printable = refl }

character-in-lines : (p : Printed) (code : ℕ) → AreInLines p → AreInLines (with_character p code)
character-in-lines p code a =
    let P : Bool → Type 0 = λ t. AreInLines (if t then record { lines = p.lines ++ p.line ∷ []; line = [] }
    else if nat_lt (length p.line) 132 then record { lines = p.lines; line = p.line ++ shown code ∷ [] }
    else record { lines = p.lines ++ p.line ∷ []; line = shown code ∷ [] }) in
    elim (code == 10) as P [
      | true ↦ record { lines = append-lines p.lines (p.line ∷ []) a.lines (a.line, tt); line = no-codes }
      | false ↦ code-in-lines (nat_lt (length p.line) 132) p (shown code) refl (shown-prints code) a
    ]

characters-in-lines : (p : Printed) (codes : List ℕ) → AreInLines p → AreInLines (with_characters p codes)
characters-in-lines p [] a = a
characters-in-lines p (code ∷ more) a = characters-in-lines (with_character p code) more (character-in-lines p code a)

last-is-line : (line : List ℕ) → IsLine line → AreLinesOf (last_line line)
last-is-line [] is = tt
last-is-line (code ∷ rest) is = (is, tt)

in-lines : (p : Printed) → AreInLines p → AreLinesOf (lines_in p)
in-lines p a = append-lines p.lines (last_line p.line) a.lines (last-is-line p.line a.line)

printed-in-lines : (calls : List SysCall) → AreInLines (printed_by calls)
printed-in-lines calls = characters-in-lines nothing_printed (flat_map characters_of calls) record { lines = tt; line = no-codes }

output-lines : (calls : List SysCall) → AreLinesOf (output_of calls)
output-lines calls = in-lines (printed_by calls) (printed-in-lines calls)

-- ---- how it ended
outcome-lines : (outcome : RunOutcome) → AreLinesOf (ending_of outcome).output
outcome-lines (Ends r line ticks calls) = output-lines calls
outcome-lines (Waits calls) = tt

ended-lines : (name : List ℕ) (outcome : RunOutcome) → IsNamed name → AreLinesOf (ending_lines name (ending_of outcome))
ended-lines name outcome is =
    append-lines (ending_of outcome).output (result_line name (ending_of outcome).result (ending_of outcome).line ∷ [])
    (outcome-lines outcome) (result-line name (ending_of outcome).result (ending_of outcome).line is, tt)

-- ---- what the code of a file prints, and how it ended
so-far-lines : (outcome : RunOutcome) → AreLinesOf (lines_of outcome)
so-far-lines (Ends r line ticks calls) = output-lines calls
so-far-lines (Waits calls) = (printed-in-lines calls).lines

end-lines : (name : List ℕ) (outcome : RunOutcome) → IsNamed name → AreLinesOf (end_lines name outcome)
end-lines name (Ends r line ticks calls) is = (result-line name r line is, tt)
end-lines name (Waits calls) is = tt

code-lines : (name : List ℕ) (outcome : RunOutcome) → IsNamed name → AreLinesOf (outcome_lines name outcome)
code-lines name outcome is = append-lines (lines_of outcome) (end_lines name outcome) (so-far-lines outcome) (end-lines name outcome is)

-- ---- or why there is none to run
abbrev pub SaysLine : Source → Type 0
SaysLine (Runs p) = Unit {0}
SaysLine (RunsCode code) = Unit {0}
SaysLine (Says line) = IsLine line

pub source-says : (name : List ℕ) (c : Compiling) → IsNamed name → SaysLine (source_of name c)
source-says name (compiled p) is = tt
source-says name (bad_word line) is = bad-word-line name line is
source-says name (syntax_error line) is = syntax-line name line is
source-says name (semantic_error line rule) is = semantic-line name line rule is
source-says name code_limit is = code-limit-line name is

pub loaded-says : (name : List ℕ) (load : Loaded) → IsNamed name → SaysLine (source_loaded name load)
loaded-says name (Code code) is = tt
loaded-says name NoFile is = no-file-line name is
loaded-says name NotCode is = not-code-line name is
loaded-says name (BadCode at) is = bad-code-line name at is

pub lines-of-program : (name : List ℕ) (limit : ℕ) (source : Source) (input : List (List ℕ)) → IsNamed name → SaysLine source
    → AreLinesOf (program_lines name limit source input)
lines-of-program name limit (Runs p) input is says = ended-lines name (meaning_with (batch_answers (text input)) p limit) is
lines-of-program name limit (RunsCode code) input is says = code-lines name (run_so_far code limit input true) is
lines-of-program name limit (Says line) input is says = (says, tt)

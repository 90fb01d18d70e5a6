-- The lines that say something of a job: its heading, its faults, how its program ended, or why there is none to run.
use Rattle.std.proofs.Common.{ℕ, ◌+◌, ◌^◌, ◌≤◌, ◌<◌, List, ◌++◌, length, Option, None, Some, refl, arith}
use Rattle.std.specs.Prelude.{codes, min}
use Rattle.std.specs.Fmt.{decimal}
use Rattle.solo_base.specs.declared.outcome.ProgResult.{ProgResult}
use Rattle.solo_base.specs.declared.outcome.ProgResult.TheVariants as result
use Rattle.solo_base.specs.Line.{IsLine}
use Rattle.solo_base.specs.Blanks.{trimmed}
use Rattle.deck_format.specs.declared.job.CardFault.{CardFault}
use Rattle.deck_format.specs.declared.job.CardFaultKind.{CardFaultKind}
use Rattle.deck_format.specs.declared.job.CardFaultKind.TheVariants as kind
use Rattle.deck_format.specs.Jobs.{card_count}
use Rattle.batch_job.specs.Report.{heading, listed_line, kind_text, fault_line, listing_end, skipped_line}
use Rattle.code_law.specs.Texts.{number_text, note, numbered_note, result_line, bad_word_line, syntax_line, semantic_line, code_limit_line, no_file_line, not_code_line, bad_code_line}
use Rattle.batch_job.proofs.PrintedTexts.{Prints, append-prints, is-line, IsNamed, number-prints}

pub count-small : (n : ℕ) → card_count n < 2 ^ 32
count-small n = omega arith

pub heading-line : (name : List ℕ) → IsNamed name → IsLine (heading name)
heading-line name is = is-line 16 (heading name) (omega arith) (append-prints 4 12 (codes "JOB ")
    (trimmed name) record { short = omega arith; printable = refl } is)

listed-line : (name : List ℕ) (count : ℕ) → count < 2 ^ 32 → IsNamed name → IsLine (listed_line name count)
listed-line name count small is =
    is-line (12 + 9 + 10 + 6) (listed_line name count) (omega arith)
    (append-prints (12 + 9 + 10) 6 _ (codes " CARDS") (append-prints (12 + 9) 10 _ (decimal count)
    (append-prints 12 9 (trimmed name) (codes ": LISTED ") is record { short = omega arith; printable = refl }) (number-prints count small))
    record { short = omega arith; printable = refl })

kind-prints : (k : CardFaultKind) → Prints 19 (kind_text k)
kind-prints kind.Spoiled = record { short = omega arith; printable = refl }
kind-prints kind.Control = record { short = omega arith; printable = refl }

pub fault-line : (name : List ℕ) (fault : CardFault) → fault.card < 2 ^ 32 → IsNamed name → IsLine (fault_line name fault)
fault-line name fault small is =
    is-line (12 + 19 + 10) (fault_line name fault) (omega arith)
    (append-prints (12 + 19) 10 _ (decimal fault.card) (append-prints 12 19 (trimmed name) (kind_text fault.kind) is (kind-prints fault.kind))
    (number-prints fault.card small))

abbrev pub IsSmallFault : Option CardFault → Type 0
IsSmallFault None = Unit {0}
IsSmallFault (Some fault) = fault.card < 2 ^ 32

pub end-line : (name : List ℕ) (cards : List (List ℕ)) (fault : Option CardFault) → IsSmallFault fault → IsNamed name → IsLine (listing_end name cards fault)
end-line name cards None small is = listed-line name (card_count (length cards)) (count-small (length cards)) is
end-line name cards (Some fault) small is = fault-line name fault small is

pub skipped-line : (n : ℕ) → IsLine (skipped_line (card_count n))
skipped-line n = is-line (10 + 14) (skipped_line (card_count n)) (omega arith)
    (append-prints 10 14 (decimal (card_count n)) (codes " CARDS SKIPPED") (number-prints (card_count n) (count-small n))
    record { short = omega arith; printable = refl })

-- ---- how a program ended, or why there is none to run
number-text-prints : (n : ℕ) → Prints 10 (number_text n)
number-text-prints n = number-prints (min n 4294967295) (omega arith)

note-line : (k : ℕ) (name text : List ℕ) → k ≤ 100 → Prints k text → IsNamed name → IsLine (note name text)
note-line k name text few p is = is-line (12 + k) (note name text) (omega (arith, few)) (append-prints 12 k (trimmed name) text is p)

numbered-prints : (k : ℕ) (name text : List ℕ) (line : ℕ) → Prints k text → IsNamed name → Prints (12 + k + 10) (numbered_note name text line)
numbered-prints k name text line p is =
    append-prints (12 + k) 10 (trimmed name ++ text) (number_text line) (append-prints 12 k (trimmed name) text is p) (number-text-prints line)

numbered-line : (k : ℕ) (name text : List ℕ) (line : ℕ) → k ≤ 100 → Prints k text → IsNamed name → IsLine (numbered_note name text line)
numbered-line k name text line few p is =
    is-line (12 + k + 10) (numbered_note name text line) (omega (arith, few)) (numbered-prints k name text line p is)

pub result-line : (name : List ℕ) (r : ProgResult) (line : ℕ) → IsNamed name → IsLine (result_line name r line)
result-line name result.Terminated line is =
    note-line 12 name (codes ": TERMINATED") (omega arith) record { short = omega arith; printable = refl } is
result-line name result.Overflow line is =
    numbered-line 19 name (codes ": OVERFLOW IN LINE ") line (omega arith) record { short = omega arith; printable = refl } is
result-line name result.RangeError line is =
    numbered-line 22 name (codes ": RANGE ERROR IN LINE ") line (omega arith) record { short = omega arith; printable = refl } is
result-line name result.StackLimit line is =
    numbered-line 22 name (codes ": STACK LIMIT IN LINE ") line (omega arith) record { short = omega arith; printable = refl } is
result-line name result.CodeLimit line is =
    note-line 12 name (codes ": CODE LIMIT") (omega arith) record { short = omega arith; printable = refl } is
result-line name result.TimeLimit line is =
    numbered-line 21 name (codes ": TIME LIMIT IN LINE ") line (omega arith) record { short = omega arith; printable = refl } is
result-line name result.CallError line is =
    numbered-line 21 name (codes ": CALL ERROR IN LINE ") line (omega arith) record { short = omega arith; printable = refl } is

pub bad-word-line : (name : List ℕ) (line : ℕ) → IsNamed name → IsLine (bad_word_line name line)
bad-word-line name line is =
    numbered-line 19 name (codes ": BAD WORD IN LINE ") line (omega arith) record { short = omega arith; printable = refl } is

pub syntax-line : (name : List ℕ) (line : ℕ) → IsNamed name → IsLine (syntax_line name line)
syntax-line name line is =
    numbered-line 23 name (codes ": SYNTAX ERROR IN LINE ") line (omega arith) record { short = omega arith; printable = refl } is

pub semantic-line : (name : List ℕ) (line rule : ℕ) → IsNamed name → IsLine (semantic_line name line rule)
semantic-line name line rule is =
    is-line (12 + 17 + 10 + 9 + 10) (semantic_line name line rule) (omega arith)
    (append-prints (12 + 17 + 10 + 9) 10 (numbered_note name (codes ": SEMANTIC ERROR ") rule ++ codes " IN LINE ") (number_text line)
    (append-prints (12 + 17 + 10) 9 (numbered_note name (codes ": SEMANTIC ERROR ") rule) (codes " IN LINE ")
    (numbered-prints 17 name (codes ": SEMANTIC ERROR ") rule record { short = omega arith; printable = refl } is)
    record { short = omega arith; printable = refl })
    (number-text-prints line))

pub code-limit-line : (name : List ℕ) → IsNamed name → IsLine (code_limit_line name)
code-limit-line name is = note-line 12 name (codes ": CODE LIMIT") (omega arith) record { short = omega arith; printable = refl } is

pub no-file-line : (name : List ℕ) → IsNamed name → IsLine (no_file_line name)
no-file-line name is = note-line 9 name (codes ": NO FILE") (omega arith) record { short = omega arith; printable = refl } is

pub not-code-line : (name : List ℕ) → IsNamed name → IsLine (not_code_line name)
not-code-line name is = note-line 10 name (codes ": NOT CODE") (omega arith) record { short = omega arith; printable = refl } is

pub bad-code-line : (name : List ℕ) (at : ℕ) → IsNamed name → IsLine (bad_code_line name at)
bad-code-line name at is =
    numbered-line 14 name (codes ": BAD CODE AT ") at (omega arith) record { short = omega arith; printable = refl } is

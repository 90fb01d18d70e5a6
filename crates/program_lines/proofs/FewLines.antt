-- A job's program has few lines, whatever its cards.
use Rattle.std.proofs.Common.{◌≡◌, ℕ, ◌+◌, ◌≤◌, Bool, true, false, Option, Some, None, List, length, refl, subst, length-append, arith}
use Rattle.std.specs.Prelude.{cond, nat_le}
use Rattle.std.proofs.lemmas.Bool.{leb-true}
use Rattle.solo_base.specs.LineList.{AreLines}
use Rattle.solo_base.specs.RunOutcome.{RunOutcome, Ends, Waits}
use Rattle.solo_base.specs.Text.{text}
use Rattle.pascal_tree.specs.declared.broken.Broken.{Broken}
use Rattle.pascal_tree.specs.Program.{Program}
use Rattle.pascal_tree.specs.DeclarationRules.{broken}
use Rattle.pascal_reading.specs.Reading as reads
use Rattle.pascal_reading.proofs.Readings.{read_tree}
use Rattle.pascal_code.specs.Code.{code_of}
use Rattle.pascal_code.specs.Size.{size}
use Rattle.code_law.specs.Law.{Compiles}
use Rattle.code_law.proofs.Lawful.{code_is_code, code_is_good, does_what_it_means}
use Rattle.code_law.specs.Compiling.{Compiling, compiled, bad_word, syntax_error, semantic_error, code_limit, by_rule, by_reading, compiling}
use Rattle.batch_program.specs.Outcome.{Work, lines_of, meaning_so_far}
use Rattle.batch_program.specs.RunSoFar.{run_so_far}
use Rattle.batch_program.specs.Laws.{most_lines}
use Rattle.batch_program.proofs.Bytes.{text_is_bytes}
use Rattle.batch_program.proofs.FewLines.{few-lines as few-printed}
use Rattle.batch_program.proofs.Source.{reaches_meaning}
use Rattle.batch_program.proofs.RunSoFar.{reaches_run}
use Rattle.program_lines.specs.Task.{source_of, source_lines, outcome_lines, end_lines}
use Rattle.program_lines.specs.Laws.{FewLinesOfCode}

-- ---- What compiles
by-its-size : (t p : Program) (b : Bool) → nat_le (size t) 8192 ≡ b → cond b (compiled t) code_limit ≡ compiled p → (t ≡ p) × (size t ≤ 8192)
by-its-size t p true low is = (cc, leb-true (size t) 8192 low)
by-its-size t p false low is = absurd cc

by-its-rule : (t p : Program) (o : Option Broken) → broken t ≡ o → by_rule t o ≡ compiled p → (t ≡ p) × (broken t ≡ None) × (size t ≤ 8192)
by-its-rule t p None unbroken is = let same = by-its-size t p (nat_le (size t) 8192) refl is in (same.0, unbroken, same.1)
by-its-rule t p (Some b) unbroken is = absurd cc

by-its-reading : (cards : List (List ℕ)) (p : Program) (r : reads.Reading) → AreLines cards → reads.reading cards ≡ r → by_reading r ≡ compiled p → Compiles p
by-its-reading cards p (reads.tree t) lines read is =
    let same = by-its-rule t p (broken t) refl is in
    subst Compiles same.0 (record { tree = (read_tree cards t lines read).1; unbroken = same.1; fits = same.2 })
by-its-reading cards p (reads.bad_word line) lines read is = absurd cc
by-its-reading cards p (reads.syntax_error line) lines read is = absurd cc

compiles : (cards : List (List ℕ)) (p : Program) → AreLines cards → compiling cards ≡ compiled p → Compiles p
unfolding compiling
compiles cards p lines is = by-its-reading cards p (reads.reading cards) lines refl is

-- ---- Lines
few-ends : (name : List ℕ) (outcome : RunOutcome) → length (end_lines name outcome) ≤ 1
few-ends name (Ends r line ticks calls) = omega arith
few-ends name (Waits calls) = omega arith

with-end : (name : List ℕ) (outcome : RunOutcome) (most : ℕ) → length (lines_of outcome) ≤ most → length (outcome_lines name outcome) ≤ most + 1
with-end name outcome most few =
    let last = few-ends name outcome in
    let whole = length-append (lines_of outcome) (end_lines name outcome) in
    omega (arith, few, last, whole)

few-so : (name : List ℕ) (limit : ℕ) (p : Program) (input : List (List ℕ)) (closed : Bool) → Compiles p → AreLines input
    → length (outcome_lines name (meaning_so_far p limit input closed)) ≤ most_lines limit + 1
few-so name limit p input closed is lines =
    let outcome = meaning_so_far p limit input closed in
    let comes =
    reaches_meaning (code_of p) p limit (text input) closed (λ limit replies fit. does_what_it_means p limit replies is fit) (text_is_bytes input lines) in
    with-end name outcome (most_lines limit)
    (few-printed (record { code = code_of p; limit = limit; cards = input; closed = closed }) outcome (code_is_code p is) (code_is_good p is) lines comes)

pub few-of-code : FewLinesOfCode
few-of-code name limit code input closed is good lines =
    let w : Work = record { code = code; limit = limit; cards = input; closed = closed } in
    let outcome = run_so_far code limit input closed in
    with-end name outcome (most_lines limit) (few-printed w outcome is good lines (reaches_run w is good lines))

pub few-lines : (name : List ℕ) (limit : ℕ) (cards input : List (List ℕ)) (closed : Bool) → AreLines cards → AreLines input
    → length (source_lines name limit (source_of name (compiling cards)) input closed) ≤ most_lines limit + 1
few-lines name limit cards input closed are lines = by (compiling cards) refl
  where
    by : (k : Compiling) → compiling cards ≡ k → length (source_lines name limit (source_of name k) input closed) ≤ most_lines limit + 1
    by (compiled p) is = few-so name limit p input closed (compiles cards p are is) lines
    by (bad_word line) is = omega arith
    by (syntax_error line) is = omega arith
    by (semantic_error line rule) is = omega arith
    by code_limit is = omega arith

-- Statements, one behind another, and the words that they take.
use Rattle.std.proofs.Common.{◌≡◌, ℕ, ◌+◌, ◌<◌, List, ◌++◌, length, arith, ap, ◌∙◌, length-append, append_assoc}
use Rattle.std.specs.Prelude.{max}
use Rattle.stack_code.specs.declared.instr.Instr.{Instr}
use Rattle.pascal_tree.specs.Statement.{Statement, Statements, next_statement}
use Rattle.pascal_code.specs.Senses.{Site}
use Rattle.pascal_code.specs.Statements.{statement_code, statements_code}

-- a statement, and those behind it
pub next_code : (site : Site) (free : ℕ) (s : Statement) (line : ℕ) (more : Statements) (old one : List Instr)
    → one ≡ old ++ statement_code site free s (length old)
    → one ++ statements_code site free more (length one) ≡ old ++ statements_code site free (next_statement line s more) (length old)
next_code site free s line more old one e =
    let first = statement_code site free s (length old) in
    let place = length old + length first in
    let count : length one ≡ place = ap length e ∙ length-append old first in
    ap (λ n. one ++ statements_code site free more n) count
    ∙ ap (λ a. a ++ statements_code site free more place) e
    ∙ append_assoc old first (statements_code site free more place)

-- words that both of two parts have
pub first_fits : (free a b n : ℕ) → free + max a b < n → free + a < n
first_fits free a b n fits = omega (arith, fits)

pub second_fits : (free a b n : ℕ) → free + max a b < n → free + b < n
second_fits free a b n fits = omega (arith, fits)

-- and one word besides
pub second_fits_with_one : (free a b n : ℕ) → free + max a b + 1 < n → free + b + 1 < n
second_fits_with_one free a b n fits = omega (arith, fits)

-- What one word makes of a statement that is wanted, a lemma for each way to go on.
use Rattle.std.proofs.Common.{◌≡◌, ℕ, ◌-◌, ◌≤◌, ◌<◌, false, List, [], ◌∷◌, ◌++◌, Some, refl, sym, ◌∙◌}
use Rattle.pascal_tree.specs.Word.{Spot, NameAt}
use Rattle.pascal_tree.specs.SpellExpression.{reserved_at, symbol_at, name_at}
use Rattle.pascal_tree.specs.declared.token.Reserved.TheVariants as reserved
use Rattle.pascal_tree.specs.declared.token.Symbol.TheVariants as symbol
use Rattle.pascal_read.specs.ParseFirst.{first_line, first_is}
use Rattle.pascal_read.specs.ParseWants.{Want, report, reserved_word, mark, is_reserved, is_symbol, is_name, branch_wants, case_wants}
use Rattle.pascal_read.specs.ParseWants as want
use Rattle.pascal_read.proofs.ParseRows.{taken, skipped, refused, at_end, two, not_two, mark_goes, mark_stuck, reserved_goes, reserved_stuck}

pub statement_name : (x : NameAt) (ts : List Spot) (n : ℕ) (rest : List Want) → report (name_at x ∷ ts) (want.statement n ∷ rest) ≡ report ts (want.behind_first_name ∷ rest)
statement_name x ts n rest = taken (name_at x) ts (want.statement n) (want.behind_first_name ∷ []) rest refl

pub statement_begin : (l : ℕ) (ts : List Spot) (n : ℕ) (rest : List Want) → 2 ≤ n → report (reserved_at reserved.Begin l ∷ ts) (want.statement n ∷ rest) ≡ report ts (want.statement (n - 1) ∷ (want.more_statements (n - 1) ∷ (reserved_word reserved.End ∷ rest)))
statement_begin l ts n rest h = taken (reserved_at reserved.Begin l) ts (want.statement n) (want.statement (n - 1) ∷ (want.more_statements (n - 1) ∷ (reserved_word reserved.End ∷ []))) rest (rw (two n h))

pub statement_begin_no : (l : ℕ) (ts : List Spot) (n : ℕ) (rest : List Want) → n < 2 → report (reserved_at reserved.Begin l ∷ ts) (want.statement n ∷ rest) ≡ Some l
statement_begin_no l ts n rest h = refused (reserved_at reserved.Begin l) ts (want.statement n) rest (rw (not_two n h))

pub statement_if : (l : ℕ) (ts : List Spot) (n : ℕ) (rest : List Want) → 2 ≤ n → report (reserved_at reserved.If l ∷ ts) (want.statement n ∷ rest) ≡ report ts (want.expr 64 ∷ (reserved_word reserved.Then ∷ (want.statement (n - 1) ∷ (want.otherwise (n - 1) ∷ rest))))
statement_if l ts n rest h = taken (reserved_at reserved.If l) ts (want.statement n) (want.expr 64 ∷ (reserved_word reserved.Then ∷ (want.statement (n - 1) ∷ (want.otherwise (n - 1) ∷ [])))) rest (rw (two n h))

pub statement_if_no : (l : ℕ) (ts : List Spot) (n : ℕ) (rest : List Want) → n < 2 → report (reserved_at reserved.If l ∷ ts) (want.statement n ∷ rest) ≡ Some l
statement_if_no l ts n rest h = refused (reserved_at reserved.If l) ts (want.statement n) rest (rw (not_two n h))

pub statement_while : (l : ℕ) (ts : List Spot) (n : ℕ) (rest : List Want) → 2 ≤ n → report (reserved_at reserved.While l ∷ ts) (want.statement n ∷ rest) ≡ report ts (want.expr 64 ∷ (reserved_word reserved.Do ∷ (want.statement (n - 1) ∷ rest)))
statement_while l ts n rest h = taken (reserved_at reserved.While l) ts (want.statement n) (want.expr 64 ∷ (reserved_word reserved.Do ∷ (want.statement (n - 1) ∷ []))) rest (rw (two n h))

pub statement_while_no : (l : ℕ) (ts : List Spot) (n : ℕ) (rest : List Want) → n < 2 → report (reserved_at reserved.While l ∷ ts) (want.statement n ∷ rest) ≡ Some l
statement_while_no l ts n rest h = refused (reserved_at reserved.While l) ts (want.statement n) rest (rw (not_two n h))

pub statement_repeat : (l : ℕ) (ts : List Spot) (n : ℕ) (rest : List Want) → 2 ≤ n → report (reserved_at reserved.Repeat l ∷ ts) (want.statement n ∷ rest) ≡ report ts (want.statement (n - 1) ∷ (want.more_statements (n - 1) ∷ (reserved_word reserved.Until ∷ (want.expr 64 ∷ rest))))
statement_repeat l ts n rest h = taken (reserved_at reserved.Repeat l) ts (want.statement n) (want.statement (n - 1) ∷ (want.more_statements (n - 1) ∷ (reserved_word reserved.Until ∷ (want.expr 64 ∷ [])))) rest (rw (two n h))

pub statement_repeat_no : (l : ℕ) (ts : List Spot) (n : ℕ) (rest : List Want) → n < 2 → report (reserved_at reserved.Repeat l ∷ ts) (want.statement n ∷ rest) ≡ Some l
statement_repeat_no l ts n rest h = refused (reserved_at reserved.Repeat l) ts (want.statement n) rest (rw (not_two n h))

pub statement_for : (l : ℕ) (ts : List Spot) (n : ℕ) (rest : List Want) → 2 ≤ n → report (reserved_at reserved.For l ∷ ts) (want.statement n ∷ rest) ≡ report ts (want.name ∷ (mark symbol.Becomes ∷ (want.expr 64 ∷ (want.direction ∷ (want.expr 64 ∷ (reserved_word reserved.Do ∷ (want.statement (n - 1) ∷ rest)))))))
statement_for l ts n rest h = taken (reserved_at reserved.For l) ts (want.statement n) (want.name ∷ (mark symbol.Becomes ∷ (want.expr 64 ∷ (want.direction ∷ (want.expr 64 ∷ (reserved_word reserved.Do ∷ (want.statement (n - 1) ∷ []))))))) rest (rw (two n h))

pub statement_for_no : (l : ℕ) (ts : List Spot) (n : ℕ) (rest : List Want) → n < 2 → report (reserved_at reserved.For l ∷ ts) (want.statement n ∷ rest) ≡ Some l
statement_for_no l ts n rest h = refused (reserved_at reserved.For l) ts (want.statement n) rest (rw (not_two n h))

pub statement_case : (l : ℕ) (ts : List Spot) (n : ℕ) (rest : List Want) → 2 ≤ n → report (reserved_at reserved.Case l ∷ ts) (want.statement n ∷ rest) ≡ report ts (case_wants (n - 1) ++ rest)
statement_case l ts n rest h = taken (reserved_at reserved.Case l) ts (want.statement n) (case_wants (n - 1)) rest (rw (two n h))

pub statement_case_no : (l : ℕ) (ts : List Spot) (n : ℕ) (rest : List Want) → n < 2 → report (reserved_at reserved.Case l ∷ ts) (want.statement n ∷ rest) ≡ Some l
statement_case_no l ts n rest h = refused (reserved_at reserved.Case l) ts (want.statement n) rest (rw (not_two n h))

pub statement_skip : (before : List Spot) (n : ℕ) (y : Want) (rest : List Want) → first_is is_name before ≡ false → first_is (λ w. is_reserved w reserved.Begin) before ≡ false →
    first_is (λ w. is_reserved w reserved.If) before ≡ false → first_is (λ w. is_reserved w reserved.While) before ≡ false → first_is (λ w. is_reserved w reserved.Repeat) before ≡ false →
    first_is (λ w. is_reserved w reserved.For) before ≡ false → first_is (λ w. is_reserved w reserved.Case) before ≡ false → report before (want.statement n ∷ (y ∷ rest)) ≡ report before (y ∷ rest)
statement_skip [] n y rest a b c d e f g = at_end (want.statement n) (y ∷ rest) ∙ sym (at_end y rest)
statement_skip (t ∷ ts) n y rest a b c d e f g = skipped t ts (want.statement n) y rest (rw (a, b, c, d, e, f, g))

pub first_becomes : (l : ℕ) (ts : List Spot) (rest : List Want) → report (symbol_at symbol.Becomes l ∷ ts) (want.behind_first_name ∷ rest) ≡ report ts (want.expr 64 ∷ rest)
first_becomes l ts rest = taken (symbol_at symbol.Becomes l) ts want.behind_first_name (want.expr 64 ∷ []) rest refl

pub first_index : (l : ℕ) (ts : List Spot) (rest : List Want) → report (symbol_at symbol.OpenIndex l ∷ ts) (want.behind_first_name ∷ rest) ≡ report ts (want.expr 64 ∷ (mark symbol.CloseIndex ∷ (mark symbol.Becomes ∷ (want.expr 64 ∷ rest))))
first_index l ts rest = taken (symbol_at symbol.OpenIndex l) ts want.behind_first_name (want.expr 64 ∷ (mark symbol.CloseIndex ∷ (mark symbol.Becomes ∷ (want.expr 64 ∷ [])))) rest refl

pub first_open : (l : ℕ) (ts : List Spot) (rest : List Want) → report (symbol_at symbol.Open l ∷ ts) (want.behind_first_name ∷ rest) ≡ report ts (want.expr 64 ∷ (want.more_exprs 64 ∷ (mark symbol.Close ∷ rest)))
first_open l ts rest = taken (symbol_at symbol.Open l) ts want.behind_first_name (want.expr 64 ∷ (want.more_exprs 64 ∷ (mark symbol.Close ∷ []))) rest refl

pub first_skip : (before : List Spot) (y : Want) (rest : List Want) → first_is (λ w. is_symbol w symbol.Becomes) before ≡ false → first_is (λ w. is_symbol w symbol.OpenIndex) before ≡ false →
    first_is (λ w. is_symbol w symbol.Open) before ≡ false → report before (want.behind_first_name ∷ (y ∷ rest)) ≡ report before (y ∷ rest)
first_skip [] y rest a b c = at_end want.behind_first_name (y ∷ rest) ∙ sym (at_end y rest)
first_skip (t ∷ ts) y rest a b c = skipped t ts want.behind_first_name y rest (rw (a, b, c))

pub else_goes : (l : ℕ) (ts : List Spot) (n : ℕ) (rest : List Want) → report (reserved_at reserved.Else l ∷ ts) (want.otherwise n ∷ rest) ≡ report ts (want.statement n ∷ rest)
else_goes l ts n rest = taken (reserved_at reserved.Else l) ts (want.otherwise n) (want.statement n ∷ []) rest refl

pub else_skip : (before : List Spot) (n : ℕ) (y : Want) (rest : List Want) → first_is (λ w. is_reserved w reserved.Else) before ≡ false → report before (want.otherwise n ∷ (y ∷ rest)) ≡ report before (y ∷ rest)
else_skip [] n y rest a = at_end (want.otherwise n) (y ∷ rest) ∙ sym (at_end y rest)
else_skip (t ∷ ts) n y rest a = skipped t ts (want.otherwise n) y rest (rw a)

pub semicolon_goes : (l : ℕ) (ts : List Spot) (n : ℕ) (rest : List Want) → report (symbol_at symbol.Semicolon l ∷ ts) (want.more_statements n ∷ rest) ≡ report ts (want.statement n ∷ (want.more_statements n ∷ rest))
semicolon_goes l ts n rest = taken (symbol_at symbol.Semicolon l) ts (want.more_statements n) (want.statement n ∷ (want.more_statements n ∷ [])) rest refl

pub semicolon_skip : (before : List Spot) (n : ℕ) (y : Want) (rest : List Want) → first_is (λ w. is_symbol w symbol.Semicolon) before ≡ false → report before (want.more_statements n ∷ (y ∷ rest)) ≡ report before (y ∷ rest)
semicolon_skip [] n y rest a = at_end (want.more_statements n) (y ∷ rest) ∙ sym (at_end y rest)
semicolon_skip (t ∷ ts) n y rest a = skipped t ts (want.more_statements n) y rest (rw a)

pub branch_goes : (l : ℕ) (ts : List Spot) (n : ℕ) (rest : List Want) → report (symbol_at symbol.Semicolon l ∷ ts) (want.more_branches n ∷ rest) ≡ report ts (branch_wants n ++ (want.more_branches n ∷ rest))
branch_goes l ts n rest = taken (symbol_at symbol.Semicolon l) ts (want.more_branches n) (branch_wants n ++ want.more_branches n ∷ []) rest refl

pub branch_skip : (before : List Spot) (n : ℕ) (y : Want) (rest : List Want) → first_is (λ w. is_symbol w symbol.Semicolon) before ≡ false → report before (want.more_branches n ∷ (y ∷ rest)) ≡ report before (y ∷ rest)
branch_skip [] n y rest a = at_end (want.more_branches n) (y ∷ rest) ∙ sym (at_end y rest)
branch_skip (t ∷ ts) n y rest a = skipped t ts (want.more_branches n) y rest (rw a)

pub label_goes : (l : ℕ) (ts : List Spot) (rest : List Want) → report (symbol_at symbol.Comma l ∷ ts) (want.more_labels ∷ rest) ≡ report ts (want.constant ∷ (want.more_labels ∷ rest))
label_goes l ts rest = taken (symbol_at symbol.Comma l) ts want.more_labels (want.constant ∷ want.more_labels ∷ []) rest refl

pub label_skip : (before : List Spot) (y : Want) (rest : List Want) → first_is (λ w. is_symbol w symbol.Comma) before ≡ false → report before (want.more_labels ∷ (y ∷ rest)) ≡ report before (y ∷ rest)
label_skip [] y rest a = at_end want.more_labels (y ∷ rest) ∙ sym (at_end y rest)
label_skip (t ∷ ts) y rest a = skipped t ts want.more_labels y rest (rw a)

pub direction_to : (l : ℕ) (ts : List Spot) (rest : List Want) → report (reserved_at reserved.To l ∷ ts) (want.direction ∷ rest) ≡ report ts rest
direction_to l ts rest = taken (reserved_at reserved.To l) ts want.direction [] rest refl

pub direction_downto : (l : ℕ) (ts : List Spot) (rest : List Want) → report (reserved_at reserved.Downto l ∷ ts) (want.direction ∷ rest) ≡ report ts rest
direction_downto l ts rest = taken (reserved_at reserved.Downto l) ts want.direction [] rest refl

pub direction_stuck : (before : List Spot) (rest : List Want) → first_is (λ w. is_reserved w reserved.To) before ≡ false → first_is (λ w. is_reserved w reserved.Downto) before ≡ false →
    report before (want.direction ∷ rest) ≡ Some (first_line before)
direction_stuck [] rest a b = at_end want.direction rest
direction_stuck (t ∷ ts) rest a b = refused t ts want.direction rest (rw (a, b))

pub name_goes : (x : NameAt) (ts : List Spot) (rest : List Want) → report (name_at x ∷ ts) (want.name ∷ rest) ≡ report ts rest
name_goes x ts rest = taken (name_at x) ts want.name [] rest refl

pub name_stuck : (before : List Spot) (rest : List Want) → first_is is_name before ≡ false → report before (want.name ∷ rest) ≡ Some (first_line before)
name_stuck [] rest a = at_end want.name rest
name_stuck (t ∷ ts) rest a = refused t ts want.name rest (rw a)

pub body_goes : (l : ℕ) (ts : List Spot) (rest : List Want) → report (reserved_at reserved.Begin l ∷ ts) (want.body ∷ rest) ≡ report ts (want.statement 64 ∷ (want.more_statements 64 ∷ (reserved_word reserved.End ∷ rest)))
body_goes l ts rest = taken (reserved_at reserved.Begin l) ts want.body (want.statement 64 ∷ (want.more_statements 64 ∷ (reserved_word reserved.End ∷ []))) rest refl

pub body_stuck : (before : List Spot) (rest : List Want) → first_is (λ w. is_reserved w reserved.Begin) before ≡ false → report before (want.body ∷ rest) ≡ Some (first_line before)
body_stuck [] rest a = at_end want.body rest
body_stuck (t ∷ ts) rest a = refused t ts want.body rest (rw a)

pub ruleset statement_rows = (mark_goes, mark_stuck, reserved_goes, reserved_stuck, statement_name, statement_begin, statement_begin_no, statement_if, statement_if_no, statement_while, statement_while_no, statement_repeat, statement_repeat_no, statement_for, statement_for_no, statement_case, statement_case_no, statement_skip, first_becomes, first_index, first_open, first_skip, else_goes, else_skip, semicolon_goes, semicolon_skip, branch_goes, branch_skip, label_goes, label_skip, direction_to, direction_downto, direction_stuck, name_goes, name_stuck, body_goes, body_stuck)

pub ruleset label_rows = (label_goes, label_skip)

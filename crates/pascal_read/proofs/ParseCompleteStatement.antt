-- Each statement's spelling is read to its end.
use Rattle.std.proofs.Common.{◌≡◌, ℕ, ◌-◌, ◌≤◌, false, List, [], ◌∷◌, ◌++◌, Option, Some, None, refl, ap, ◌∙◌, append_assoc, arith}
use Rattle.pascal_tree.specs.Word.{Spot}
use Rattle.pascal_tree.specs.Expression.{Expr, Index, index, Arguments, arguments}
use Rattle.pascal_tree.specs.Statement.{Statement, empty, assign, call, compound, if_then, if_else, while_do, repeat_until, for_do, case_of, Body, body, Sequence, sequence, Statements, no_statement, next_statement, Branch, branch, Branches, no_branch, next_branch}
use Rattle.pascal_tree.specs.SpellExpression.{spelled_expr, spelled_exprs, symbol_at, reserved_at, name_at}
use Rattle.pascal_tree.specs.SpellStatement.{direction_word, spelled_place, spelled_call, spelled_statement, spelled_body, spelled_sequence, spelled_statements, spelled_branch, spelled_branches}
use Rattle.pascal_tree.specs.SpellConstant.{spelled_labels}
use Rattle.pascal_tree.specs.Limits.{PlaceFits, CallFits, StatementFits, BodyFits, SequenceFits, StatementsFit, BranchFits, BranchesFit}
use Rattle.pascal_tree.proofs.UniqueExpression.{below_exprs}
use Rattle.pascal_tree.proofs.Following.{Ender, ender_word, semicolon, end, until, else, Closes, Follows, begins, first_begins, marks, first_marks, Closer, by_end, by_until, closer_word, follows_strength, follows_begins, follows_marks, follows_then, follows_else, follows_while, follows_for, else_follows, follows_list, follows_branches}
use Rattle.pascal_tree.proofs.UniqueStatement.{direction_strength}
use Rattle.pascal_tree.specs.declared.statement.Direction.{Direction}
use Rattle.pascal_tree.specs.declared.statement.Direction.TheVariants as directions
use Rattle.pascal_tree.specs.declared.token.Word.{Word}
use Rattle.pascal_tree.specs.declared.token.Word.TheVariants as word
use Rattle.pascal_tree.specs.declared.token.Reserved.TheVariants as reserved
use Rattle.pascal_tree.specs.declared.token.Symbol.TheVariants as symbol
use Rattle.pascal_read.specs.ParseFirst.{first_is}
use Rattle.pascal_read.specs.ParseWants.{Want, report, reserved_word, mark, is_symbol, is_reserved, is_name, case_wants}
use Rattle.pascal_read.specs.ParseWants as want
use Rattle.pascal_read.proofs.ParseRows.{mark_goes, reserved_goes}
use Rattle.pascal_read.proofs.ParseStatementRows.{statement_name, statement_begin, statement_if, statement_while, statement_repeat, statement_for, statement_case, statement_skip, first_becomes, first_index, first_open, first_skip, else_goes, else_skip, semicolon_goes, semicolon_skip, branch_goes, branch_skip, direction_to, direction_downto, name_goes, body_goes}
use Rattle.pascal_read.proofs.ParseComplete.{read_expr, read_exprs, at_wants}
use Rattle.pascal_read.proofs.ParseCompleteConstant.{read_labels}

no_begin-name : (w : Word) → begins w ≡ 0 → is_name w ≡ false
no_begin-name (word.Name letters) h = absurd (omega arith)
no_begin-name other h = refl

not-name : (r : List Spot) → first_begins r ≡ 0 → first_is is_name r ≡ false
not-name [] h = refl
not-name (t ∷ r) h = no_begin-name t.word h

no_begin-Begin : (w : Word) → begins w ≡ 0 → is_reserved w reserved.Begin ≡ false
no_begin-Begin (word.Reserved reserved.Begin) h = absurd (omega arith)
no_begin-Begin (word.Reserved other) h = refl
no_begin-Begin other h = refl

not-Begin : (r : List Spot) → first_begins r ≡ 0 → first_is (λ w. is_reserved w reserved.Begin) r ≡ false
not-Begin [] h = refl
not-Begin (t ∷ r) h = no_begin-Begin t.word h

no_begin-If : (w : Word) → begins w ≡ 0 → is_reserved w reserved.If ≡ false
no_begin-If (word.Reserved reserved.If) h = absurd (omega arith)
no_begin-If (word.Reserved other) h = refl
no_begin-If other h = refl

not-If : (r : List Spot) → first_begins r ≡ 0 → first_is (λ w. is_reserved w reserved.If) r ≡ false
not-If [] h = refl
not-If (t ∷ r) h = no_begin-If t.word h

no_begin-While : (w : Word) → begins w ≡ 0 → is_reserved w reserved.While ≡ false
no_begin-While (word.Reserved reserved.While) h = absurd (omega arith)
no_begin-While (word.Reserved other) h = refl
no_begin-While other h = refl

not-While : (r : List Spot) → first_begins r ≡ 0 → first_is (λ w. is_reserved w reserved.While) r ≡ false
not-While [] h = refl
not-While (t ∷ r) h = no_begin-While t.word h

no_begin-Repeat : (w : Word) → begins w ≡ 0 → is_reserved w reserved.Repeat ≡ false
no_begin-Repeat (word.Reserved reserved.Repeat) h = absurd (omega arith)
no_begin-Repeat (word.Reserved other) h = refl
no_begin-Repeat other h = refl

not-Repeat : (r : List Spot) → first_begins r ≡ 0 → first_is (λ w. is_reserved w reserved.Repeat) r ≡ false
not-Repeat [] h = refl
not-Repeat (t ∷ r) h = no_begin-Repeat t.word h

no_begin-For : (w : Word) → begins w ≡ 0 → is_reserved w reserved.For ≡ false
no_begin-For (word.Reserved reserved.For) h = absurd (omega arith)
no_begin-For (word.Reserved other) h = refl
no_begin-For other h = refl

not-For : (r : List Spot) → first_begins r ≡ 0 → first_is (λ w. is_reserved w reserved.For) r ≡ false
not-For [] h = refl
not-For (t ∷ r) h = no_begin-For t.word h

no_begin-Case : (w : Word) → begins w ≡ 0 → is_reserved w reserved.Case ≡ false
no_begin-Case (word.Reserved reserved.Case) h = absurd (omega arith)
no_begin-Case (word.Reserved other) h = refl
no_begin-Case other h = refl

not-Case : (r : List Spot) → first_begins r ≡ 0 → first_is (λ w. is_reserved w reserved.Case) r ≡ false
not-Case [] h = refl
not-Case (t ∷ r) h = no_begin-Case t.word h

no_mark-Becomes : (w : Word) → marks w ≡ 0 → is_symbol w symbol.Becomes ≡ false
no_mark-Becomes (word.Symbol symbol.Becomes) h = absurd (omega arith)
no_mark-Becomes (word.Symbol other) h = refl
no_mark-Becomes other h = refl

not-Becomes : (r : List Spot) → first_marks r ≡ 0 → first_is (λ w. is_symbol w symbol.Becomes) r ≡ false
not-Becomes [] h = refl
not-Becomes (t ∷ r) h = no_mark-Becomes t.word h

no_mark-OpenIndex : (w : Word) → marks w ≡ 0 → is_symbol w symbol.OpenIndex ≡ false
no_mark-OpenIndex (word.Symbol symbol.OpenIndex) h = absurd (omega arith)
no_mark-OpenIndex (word.Symbol other) h = refl
no_mark-OpenIndex other h = refl

not_mark-OpenIndex : (r : List Spot) → first_marks r ≡ 0 → first_is (λ w. is_symbol w symbol.OpenIndex) r ≡ false
not_mark-OpenIndex [] h = refl
not_mark-OpenIndex (t ∷ r) h = no_mark-OpenIndex t.word h

no_mark-Open : (w : Word) → marks w ≡ 0 → is_symbol w symbol.Open ≡ false
no_mark-Open (word.Symbol symbol.Open) h = absurd (omega arith)
no_mark-Open (word.Symbol other) h = refl
no_mark-Open other h = refl

not_mark-Open : (r : List Spot) → first_marks r ≡ 0 → first_is (λ w. is_symbol w symbol.Open) r ≡ false
not_mark-Open [] h = refl
not_mark-Open (t ∷ r) h = no_mark-Open t.word h

-- what follows an IF without ELSE is no ELSE
open_ender : (k : Ender) (l : ℕ) (e : Expr) (t : ℕ) (s : Statement) (line : ℕ) (more : List Spot) → Closes k (if_then l e t s) →
    first_is (λ w. is_reserved w reserved.Else) ((let i : Spot = record { word = ender_word k; line = line } in i) ∷ more) ≡ false
open_ender semicolon l e t s line more c = refl
open_ender end l e t s line more c = refl
open_ender until l e t s line more c = refl
open_ender else l e t s line more c = absurd c

not-Else : (l : ℕ) (e : Expr) (t : ℕ) (s : Statement) (r : List Spot) → Follows (if_then l e t s) r → first_is (λ w. is_reserved w reserved.Else) r ≡ false
not-Else l e t s r f = ap (first_is (λ w. is_reserved w reserved.Else)) f.is ∙ open_ender f.ender l e t s f.line f.more f.closes

-- what fits inside has a level of its own
deep_statement : (x : Statement) (n : ℕ) → StatementFits x (n - 1) → 2 ≤ n
deep_statement empty n f = omega arith
deep_statement (assign x i b e) n f = omega arith
deep_statement (call x a) n f = omega arith
deep_statement (compound b) n f = omega arith
deep_statement (if_then l e t s) n f = omega arith
deep_statement (if_else l e t s o u) n f = omega arith
deep_statement (while_do l e d s) n f = omega arith
deep_statement (repeat_until l s u e) n f = omega arith
deep_statement (for_do l x b e w t f d s) n g = omega arith
deep_statement (case_of l e o b more c) n f = omega arith

deep_sequence : (x : Sequence) (n : ℕ) → SequenceFits x (n - 1) → 2 ≤ n
deep_sequence (sequence x xs) n f = deep_statement x n f.0

deep_branch : (x : Branch) (n : ℕ) → BranchFits x (n - 1) → 2 ≤ n
deep_branch (branch l c x) n f = deep_statement x n f

read_direction : (w : Direction) (l : ℕ) (r : List Spot) (rest : List Want) → report (reserved_at (direction_word w) l ∷ r) (want.direction ∷ rest) ≡ report r rest
read_direction directions.To l r rest = direction_to l r rest
read_direction directions.Downto l r rest = direction_downto l r rest

read_assignment : (i : Option Index) (b : ℕ) (e : Expr) (r : List Spot) (y : Want) (rest : List Want) → PlaceFits i →
    report (spelled_place i ++ (symbol_at symbol.Becomes b ∷ (spelled_expr e ++ r))) (want.behind_first_name ∷ (y ∷ rest)) ≡ report (spelled_expr e ++ r) (want.expr 64 ∷ (y ∷ rest))
read_assignment None b e r y rest f = first_becomes b (spelled_expr e ++ r) (y ∷ rest)
read_assignment (Some (index o p c)) b e r y rest f =
    let tail : List Spot = symbol_at symbol.Becomes b ∷ (spelled_expr e ++ r) in
    first_index o ((spelled_expr p ++ symbol_at symbol.CloseIndex c ∷ []) ++ tail) (y ∷ rest)
    ∙ at_wants (want.expr 64 ∷ (mark symbol.CloseIndex ∷ (mark symbol.Becomes ∷ (want.expr 64 ∷ (y ∷ rest))))) (append_assoc (spelled_expr p) (symbol_at symbol.CloseIndex c ∷ []) tail)
    ∙ read_expr p 64 (symbol_at symbol.CloseIndex c ∷ tail) (mark symbol.CloseIndex) (mark symbol.Becomes ∷ (want.expr 64 ∷ (y ∷ rest))) f (omega arith)
    ∙ mark_goes symbol.CloseIndex c tail (mark symbol.Becomes ∷ (want.expr 64 ∷ (y ∷ rest)))
    ∙ mark_goes symbol.Becomes b (spelled_expr e ++ r) (want.expr 64 ∷ (y ∷ rest))

read_call : (a : Option Arguments) (r : List Spot) (y : Want) (rest : List Want) → CallFits a → first_marks r ≡ 0 → report (spelled_call a ++ r) (want.behind_first_name ∷ (y ∷ rest)) ≡ report r (y ∷ rest)
read_call None r y rest f h = first_skip r y rest (not-Becomes r h) (not_mark-OpenIndex r h) (not_mark-Open r h)
read_call (Some (arguments o e es c)) r y rest f h =
    let tail : List Spot = spelled_exprs es ++ (symbol_at symbol.Close c ∷ r) in
    first_open o ((spelled_expr e ++ (spelled_exprs es ++ symbol_at symbol.Close c ∷ [])) ++ r) (y ∷ rest)
    ∙ at_wants (want.expr 64 ∷ (want.more_exprs 64 ∷ (mark symbol.Close ∷ (y ∷ rest)))) (append_assoc (spelled_expr e) (spelled_exprs es ++ symbol_at symbol.Close c ∷ []) r ∙ ap (λ s. spelled_expr e ++ s) (append_assoc (spelled_exprs es) (symbol_at symbol.Close c ∷ []) r))
    ∙ read_expr e 64 tail (want.more_exprs 64) (mark symbol.Close ∷ (y ∷ rest)) f.0 (rw below_exprs (omega arith))
    ∙ read_exprs es 64 c r (mark symbol.Close) (y ∷ rest) f.1
    ∙ mark_goes symbol.Close c r (y ∷ rest)

closer_skip : (k : Closer) (c : ℕ) (r : List Spot) (n : ℕ) (y : Want) (rest : List Want) → report (reserved_at (closer_word k) c ∷ r) (want.more_statements n ∷ (y ∷ rest)) ≡ report (reserved_at (closer_word k) c ∷ r) (y ∷ rest)
closer_skip k c r n y rest = semicolon_skip (reserved_at (closer_word k) c ∷ r) n y rest refl

mutual
  pub read_statement : (x : Statement) (n : ℕ) (r : List Spot) (y : Want) (rest : List Want) → StatementFits x n → Follows x r →
      report (spelled_statement x ++ r) (want.statement n ∷ (y ∷ rest)) ≡ report r (y ∷ rest)
  read_statement empty n r y rest f h =
      let b = follows_begins empty r h in
      statement_skip r n y rest (not-name r b) (not-Begin r b) (not-If r b) (not-While r b) (not-Repeat r b) (not-For r b) (not-Case r b)
  read_statement (assign x i b e) n r y rest f h =
      let s = follows_strength _ r h in
      statement_name x ((spelled_place i ++ (symbol_at symbol.Becomes b ∷ spelled_expr e)) ++ r) n (y ∷ rest)
      ∙ at_wants (want.behind_first_name ∷ (y ∷ rest)) (append_assoc (spelled_place i) (symbol_at symbol.Becomes b ∷ spelled_expr e) r)
      ∙ read_assignment i b e r y rest f.1
      ∙ read_expr e 64 r y rest f.2 (omega arith)
  read_statement (call x a) n r y rest f h =
      statement_name x (spelled_call a ++ r) n (y ∷ rest) ∙ read_call a r y rest f.1 (follows_marks _ r h)
  read_statement (compound (body b x c)) n r y rest f h =
      statement_begin b ((spelled_sequence x ++ reserved_at reserved.End c ∷ []) ++ r) n (y ∷ rest) (deep_sequence x n f.1)
      ∙ at_wants (want.statement (n - 1) ∷ (want.more_statements (n - 1) ∷ (reserved_word reserved.End ∷ (y ∷ rest)))) (append_assoc (spelled_sequence x) (reserved_at reserved.End c ∷ []) r)
      ∙ read_sequence x (n - 1) by_end c r (reserved_word reserved.End) (y ∷ rest) f.1
      ∙ reserved_goes reserved.End c r (y ∷ rest)
  read_statement (if_then l e t x) n r y rest f h =
      statement_if l ((spelled_expr e ++ (reserved_at reserved.Then t ∷ spelled_statement x)) ++ r) n (y ∷ rest) (deep_statement x n f.2)
      ∙ at_wants (want.expr 64 ∷ (reserved_word reserved.Then ∷ (want.statement (n - 1) ∷ (want.otherwise (n - 1) ∷ (y ∷ rest))))) (append_assoc (spelled_expr e) (reserved_at reserved.Then t ∷ spelled_statement x) r)
      ∙ read_expr e 64 (reserved_at reserved.Then t ∷ (spelled_statement x ++ r)) (reserved_word reserved.Then) (want.statement (n - 1) ∷ (want.otherwise (n - 1) ∷ (y ∷ rest))) f.1 (omega arith)
      ∙ reserved_goes reserved.Then t (spelled_statement x ++ r) (want.statement (n - 1) ∷ (want.otherwise (n - 1) ∷ (y ∷ rest)))
      ∙ read_statement x (n - 1) r (want.otherwise (n - 1)) (y ∷ rest) f.2 (follows_then l e t x r h)
      ∙ else_skip r (n - 1) y rest (not-Else l e t x r h)
  read_statement (if_else l e t x o u) n r y rest f h =
      let tail : List Spot = reserved_at reserved.Else o ∷ (spelled_statement u ++ r) in
      statement_if l ((spelled_expr e ++ (reserved_at reserved.Then t ∷ (spelled_statement x ++ (reserved_at reserved.Else o ∷ spelled_statement u)))) ++ r) n (y ∷ rest) (deep_statement x n f.2)
      ∙ at_wants (want.expr 64 ∷ (reserved_word reserved.Then ∷ (want.statement (n - 1) ∷ (want.otherwise (n - 1) ∷ (y ∷ rest))))) (append_assoc (spelled_expr e) (reserved_at reserved.Then t ∷ (spelled_statement x ++ (reserved_at reserved.Else o ∷ spelled_statement u))) r)
      ∙ read_expr e 64 (reserved_at reserved.Then t ∷ ((spelled_statement x ++ (reserved_at reserved.Else o ∷ spelled_statement u)) ++ r)) (reserved_word reserved.Then) (want.statement (n - 1) ∷ (want.otherwise (n - 1) ∷ (y ∷ rest))) f.1 (omega arith)
      ∙ reserved_goes reserved.Then t ((spelled_statement x ++ (reserved_at reserved.Else o ∷ spelled_statement u)) ++ r) (want.statement (n - 1) ∷ (want.otherwise (n - 1) ∷ (y ∷ rest)))
      ∙ at_wants (want.statement (n - 1) ∷ (want.otherwise (n - 1) ∷ (y ∷ rest))) (append_assoc (spelled_statement x) (reserved_at reserved.Else o ∷ spelled_statement u) r)
      ∙ read_statement x (n - 1) tail (want.otherwise (n - 1)) (y ∷ rest) f.2 (else_follows x o (spelled_statement u ++ r) f.3)
      ∙ else_goes o (spelled_statement u ++ r) (n - 1) (y ∷ rest)
      ∙ read_statement u (n - 1) r y rest f.4 (follows_else l e t x o u r h)
  read_statement (while_do l e d x) n r y rest f h =
      statement_while l ((spelled_expr e ++ (reserved_at reserved.Do d ∷ spelled_statement x)) ++ r) n (y ∷ rest) (deep_statement x n f.2)
      ∙ at_wants (want.expr 64 ∷ (reserved_word reserved.Do ∷ (want.statement (n - 1) ∷ (y ∷ rest)))) (append_assoc (spelled_expr e) (reserved_at reserved.Do d ∷ spelled_statement x) r)
      ∙ read_expr e 64 (reserved_at reserved.Do d ∷ (spelled_statement x ++ r)) (reserved_word reserved.Do) (want.statement (n - 1) ∷ (y ∷ rest)) f.1 (omega arith)
      ∙ reserved_goes reserved.Do d (spelled_statement x ++ r) (want.statement (n - 1) ∷ (y ∷ rest))
      ∙ read_statement x (n - 1) r y rest f.2 (follows_while l e d x r h)
  read_statement (repeat_until l x u e) n r y rest f h =
      let s = follows_strength _ r h in
      let k : List Want = reserved_word reserved.Until ∷ (want.expr 64 ∷ (y ∷ rest)) in
      statement_repeat l ((spelled_sequence x ++ (reserved_at reserved.Until u ∷ spelled_expr e)) ++ r) n (y ∷ rest) (deep_sequence x n f.1)
      ∙ at_wants (want.statement (n - 1) ∷ (want.more_statements (n - 1) ∷ k)) (append_assoc (spelled_sequence x) (reserved_at reserved.Until u ∷ spelled_expr e) r)
      ∙ read_sequence x (n - 1) by_until u (spelled_expr e ++ r) (reserved_word reserved.Until) (want.expr 64 ∷ (y ∷ rest)) f.1
      ∙ reserved_goes reserved.Until u (spelled_expr e ++ r) (want.expr 64 ∷ (y ∷ rest))
      ∙ read_expr e 64 r y rest f.2 (omega arith)
  read_statement (for_do l x b e w t v d z) n r y rest f h =
      let t1 : List Spot = reserved_at reserved.Do d ∷ spelled_statement z in
      let t2 : List Spot = reserved_at (direction_word w) t ∷ (spelled_expr v ++ t1) in
      let s = direction_strength w t ((spelled_expr v ++ t1) ++ r) in
      let k : List Want = want.expr 64 ∷ (reserved_word reserved.Do ∷ (want.statement (n - 1) ∷ (y ∷ rest))) in
      statement_for l (name_at x ∷ (symbol_at symbol.Becomes b ∷ ((spelled_expr e ++ t2) ++ r))) n (y ∷ rest) (deep_statement z n f.3)
      ∙ name_goes x (symbol_at symbol.Becomes b ∷ ((spelled_expr e ++ t2) ++ r)) (mark symbol.Becomes ∷ (want.expr 64 ∷ (want.direction ∷ k)))
      ∙ mark_goes symbol.Becomes b ((spelled_expr e ++ t2) ++ r) (want.expr 64 ∷ (want.direction ∷ k))
      ∙ at_wants (want.expr 64 ∷ (want.direction ∷ k)) (append_assoc (spelled_expr e) t2 r)
      ∙ read_expr e 64 (t2 ++ r) want.direction k f.1 (omega arith)
      ∙ read_direction w t ((spelled_expr v ++ t1) ++ r) k
      ∙ at_wants k (append_assoc (spelled_expr v) t1 r)
      ∙ read_expr v 64 (t1 ++ r) (reserved_word reserved.Do) (want.statement (n - 1) ∷ (y ∷ rest)) f.2 (omega arith)
      ∙ reserved_goes reserved.Do d (spelled_statement z ++ r) (want.statement (n - 1) ∷ (y ∷ rest))
      ∙ read_statement z (n - 1) r y rest f.3 (follows_for l x b e w t v d z r h)
  read_statement (case_of l e o b bs c) n r y rest f h =
      let m : ℕ = n - 1 in
      let tail : List Spot = spelled_branches bs ++ (reserved_at reserved.End c ∷ r) in
      let inside : List Spot = spelled_branch b ++ (spelled_branches bs ++ reserved_at reserved.End c ∷ []) in
      let k : List Want = want.more_branches m ∷ (reserved_word reserved.End ∷ (y ∷ rest)) in
      let j : List Want = want.constant ∷ (want.more_labels ∷ (mark symbol.Colon ∷ (want.statement m ∷ k))) in
      statement_case l ((spelled_expr e ++ (reserved_at reserved.Of o ∷ inside)) ++ r) n (y ∷ rest) (deep_branch b n f.2)
      ∙ at_wants (want.expr 64 ∷ (reserved_word reserved.Of ∷ j)) (append_assoc (spelled_expr e) (reserved_at reserved.Of o ∷ inside) r)
      ∙ read_expr e 64 (reserved_at reserved.Of o ∷ (inside ++ r)) (reserved_word reserved.Of) j f.1 (omega arith)
      ∙ reserved_goes reserved.Of o (inside ++ r) j
      ∙ at_wants j (append_assoc (spelled_branch b) (spelled_branches bs ++ reserved_at reserved.End c ∷ []) r ∙ ap (λ s. spelled_branch b ++ s) (append_assoc (spelled_branches bs) (reserved_at reserved.End c ∷ []) r))
      ∙ read_branch b m tail (want.more_branches m) (reserved_word reserved.End ∷ (y ∷ rest)) f.2 (follows_branches bs c r)
      ∙ read_branches bs m c r (y ∷ rest) f.3
      ∙ reserved_goes reserved.End c r (y ∷ rest)

  pub read_sequence : (x : Sequence) (n : ℕ) (k : Closer) (c : ℕ) (r : List Spot) (y : Want) (rest : List Want) → SequenceFits x n →
      report (spelled_sequence x ++ (reserved_at (closer_word k) c ∷ r)) (want.statement n ∷ (want.more_statements n ∷ (y ∷ rest))) ≡ report (reserved_at (closer_word k) c ∷ r) (y ∷ rest)
  read_sequence (sequence x xs) n k c r y rest f =
      let tail : List Spot = reserved_at (closer_word k) c ∷ r in
      at_wants (want.statement n ∷ (want.more_statements n ∷ (y ∷ rest))) (append_assoc (spelled_statement x) (spelled_statements xs) tail)
      ∙ read_statement x n (spelled_statements xs ++ tail) (want.more_statements n) (y ∷ rest) f.0 (follows_list xs k c r x)
      ∙ read_statements xs n k c r y rest f.1

  pub read_statements : (x : Statements) (n : ℕ) (k : Closer) (c : ℕ) (r : List Spot) (y : Want) (rest : List Want) → StatementsFit x n →
      report (spelled_statements x ++ (reserved_at (closer_word k) c ∷ r)) (want.more_statements n ∷ (y ∷ rest)) ≡ report (reserved_at (closer_word k) c ∷ r) (y ∷ rest)
  read_statements no_statement n k c r y rest f = closer_skip k c r n y rest
  read_statements (next_statement l x xs) n k c r y rest f =
      let tail : List Spot = reserved_at (closer_word k) c ∷ r in
      semicolon_goes l ((spelled_statement x ++ spelled_statements xs) ++ tail) n (y ∷ rest)
      ∙ at_wants (want.statement n ∷ (want.more_statements n ∷ (y ∷ rest))) (append_assoc (spelled_statement x) (spelled_statements xs) tail)
      ∙ read_statement x n (spelled_statements xs ++ tail) (want.more_statements n) (y ∷ rest) f.0 (follows_list xs k c r x)
      ∙ read_statements xs n k c r y rest f.1

  pub read_branch : (x : Branch) (n : ℕ) (r : List Spot) (y : Want) (more : List Want) → BranchFits x n → ((z : Statement) → Follows z r) →
      report (spelled_branch x ++ r) (want.constant ∷ (want.more_labels ∷ (mark symbol.Colon ∷ (want.statement n ∷ (y ∷ more))))) ≡ report r (y ∷ more)
  read_branch (branch l c x) n r y more f h =
      let k : List Want = want.statement n ∷ (y ∷ more) in
      at_wants (want.constant ∷ (want.more_labels ∷ (mark symbol.Colon ∷ k))) (append_assoc (spelled_labels l) (symbol_at symbol.Colon c ∷ spelled_statement x) r)
      ∙ read_labels l c (spelled_statement x ++ r) k
      ∙ read_statement x n r y more f (h x)

  pub read_branches : (x : Branches) (n : ℕ) (c : ℕ) (r : List Spot) (rest : List Want) → BranchesFit x n →
      report (spelled_branches x ++ (reserved_at reserved.End c ∷ r)) (want.more_branches n ∷ (reserved_word reserved.End ∷ rest)) ≡ report (reserved_at reserved.End c ∷ r) (reserved_word reserved.End ∷ rest)
  read_branches no_branch n c r rest f = branch_skip (reserved_at reserved.End c ∷ r) n (reserved_word reserved.End) rest refl
  read_branches (next_branch l x xs) n c r rest f =
      let tail : List Spot = reserved_at reserved.End c ∷ r in
      let k : List Want = want.more_branches n ∷ (reserved_word reserved.End ∷ rest) in
      let j : List Want = want.constant ∷ (want.more_labels ∷ (mark symbol.Colon ∷ (want.statement n ∷ k))) in
      branch_goes l ((spelled_branch x ++ spelled_branches xs) ++ tail) n (reserved_word reserved.End ∷ rest)
      ∙ at_wants j (append_assoc (spelled_branch x) (spelled_branches xs) tail)
      ∙ read_branch x n (spelled_branches xs ++ tail) (want.more_branches n) (reserved_word reserved.End ∷ rest) f.0 (follows_branches xs c r)
      ∙ read_branches xs n c r rest f.1

pub read_body : (x : Body) (r : List Spot) (y : Want) (rest : List Want) → BodyFits x 64 → report (spelled_body x ++ r) (want.body ∷ (y ∷ rest)) ≡ report r (y ∷ rest)
read_body (body b x c) r y rest f =
    body_goes b ((spelled_sequence x ++ reserved_at reserved.End c ∷ []) ++ r) (y ∷ rest)
    ∙ at_wants (want.statement 64 ∷ (want.more_statements 64 ∷ (reserved_word reserved.End ∷ (y ∷ rest)))) (append_assoc (spelled_sequence x) (reserved_at reserved.End c ∷ []) r)
    ∙ read_sequence x 64 by_end c r (reserved_word reserved.End) (y ∷ rest) f
    ∙ reserved_goes reserved.End c r (y ∷ rest)

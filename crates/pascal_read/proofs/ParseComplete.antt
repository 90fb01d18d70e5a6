-- Each tree's spelling is read to its end: what is wanted for a part is read over the part's words.
use Rattle.std.proofs.Common.{◌≡◌, ℕ, ◌-◌, ◌≤◌, ◌<◌, false, List, [], ◌∷◌, ◌++◌, Some, None, refl, ap, ◌∙◌, append_assoc, arith}
use Rattle.pascal_tree.specs.Word.{Spot}
use Rattle.pascal_tree.specs.Expression.{Expr, alone, compared, Simple, simple, Addends, no_addend, addend, Term, term, Multipliers, no_multiplier, multiplier, Factor, number, character, named, element, called, group, negated, index, arguments, Exprs, no_expr, next_expr}
use Rattle.pascal_tree.specs.SpellExpression.{spelled_expr, spelled_simple, spelled_addends, spelled_term, spelled_multipliers, spelled_factor, spelled_exprs, symbol_at, relation_symbol}
use Rattle.pascal_tree.specs.Limits.{ExprFits, SimpleFits, AddendsFit, TermFits, MultipliersFit, FactorFits, ExprsFit}
use Rattle.pascal_tree.proofs.UniqueExpression.{strength, first_strength, below_multipliers, below_addends, below_relation, no_sign_term, below_exprs}
use Rattle.pascal_tree.specs.declared.token.Word.{Word}
use Rattle.pascal_tree.specs.declared.token.Word.TheVariants as word
use Rattle.pascal_tree.specs.declared.token.Reserved.TheVariants as reserved
use Rattle.pascal_tree.specs.declared.token.Symbol.TheVariants as symbol
use Rattle.pascal_read.specs.ParseFirst.{first_is}
use Rattle.pascal_read.specs.ParseWants.{Want, report, mark, is_symbol, is_reserved}
use Rattle.pascal_read.specs.ParseWants as want
use Rattle.pascal_read.proofs.ParseRows.{mark_goes, factor_number, factor_character, factor_name, factor_open, factor_not, behind_index, behind_open, behind_skip, comma_goes, comma_skip, term_is, expr_is, simple_is, sign_goes, multiplier_goes, multiplier_skip, addend_goes, addend_skip, relation_goes, relation_skip}

no_word-Open : (w : Word) → strength w < 4 → is_symbol w symbol.Open ≡ false
no_word-Open (word.Symbol symbol.Open) h = absurd (omega arith)
no_word-Open (word.Symbol other) h = refl
no_word-Open other h = refl

not-Open : (r : List Spot) → first_strength r < 4 → first_is (λ w. is_symbol w symbol.Open) r ≡ false
not-Open [] h = refl
not-Open (t ∷ r) h = no_word-Open t.word h

no_word-OpenIndex : (w : Word) → strength w < 4 → is_symbol w symbol.OpenIndex ≡ false
no_word-OpenIndex (word.Symbol symbol.OpenIndex) h = absurd (omega arith)
no_word-OpenIndex (word.Symbol other) h = refl
no_word-OpenIndex other h = refl

not-OpenIndex : (r : List Spot) → first_strength r < 4 → first_is (λ w. is_symbol w symbol.OpenIndex) r ≡ false
not-OpenIndex [] h = refl
not-OpenIndex (t ∷ r) h = no_word-OpenIndex t.word h

no_word-Times : (w : Word) → strength w < 3 → is_symbol w symbol.Times ≡ false
no_word-Times (word.Symbol symbol.Times) h = absurd (omega arith)
no_word-Times (word.Symbol other) h = refl
no_word-Times other h = refl

not-Times : (r : List Spot) → first_strength r < 3 → first_is (λ w. is_symbol w symbol.Times) r ≡ false
not-Times [] h = refl
not-Times (t ∷ r) h = no_word-Times t.word h

no_word-And : (w : Word) → strength w < 3 → is_symbol w symbol.And ≡ false
no_word-And (word.Symbol symbol.And) h = absurd (omega arith)
no_word-And (word.Symbol other) h = refl
no_word-And other h = refl

not-And : (r : List Spot) → first_strength r < 3 → first_is (λ w. is_symbol w symbol.And) r ≡ false
not-And [] h = refl
not-And (t ∷ r) h = no_word-And t.word h

no_word-Div : (w : Word) → strength w < 3 → is_reserved w reserved.Div ≡ false
no_word-Div (word.Reserved reserved.Div) h = absurd (omega arith)
no_word-Div (word.Reserved other) h = refl
no_word-Div other h = refl

not-Div : (r : List Spot) → first_strength r < 3 → first_is (λ w. is_reserved w reserved.Div) r ≡ false
not-Div [] h = refl
not-Div (t ∷ r) h = no_word-Div t.word h

no_word-Mod : (w : Word) → strength w < 3 → is_reserved w reserved.Mod ≡ false
no_word-Mod (word.Reserved reserved.Mod) h = absurd (omega arith)
no_word-Mod (word.Reserved other) h = refl
no_word-Mod other h = refl

not-Mod : (r : List Spot) → first_strength r < 3 → first_is (λ w. is_reserved w reserved.Mod) r ≡ false
not-Mod [] h = refl
not-Mod (t ∷ r) h = no_word-Mod t.word h

no_word-Plus : (w : Word) → strength w < 2 → is_symbol w symbol.Plus ≡ false
no_word-Plus (word.Symbol symbol.Plus) h = absurd (omega arith)
no_word-Plus (word.Symbol other) h = refl
no_word-Plus other h = refl

not-Plus : (r : List Spot) → first_strength r < 2 → first_is (λ w. is_symbol w symbol.Plus) r ≡ false
not-Plus [] h = refl
not-Plus (t ∷ r) h = no_word-Plus t.word h

no_word-Minus : (w : Word) → strength w < 2 → is_symbol w symbol.Minus ≡ false
no_word-Minus (word.Symbol symbol.Minus) h = absurd (omega arith)
no_word-Minus (word.Symbol other) h = refl
no_word-Minus other h = refl

not-Minus : (r : List Spot) → first_strength r < 2 → first_is (λ w. is_symbol w symbol.Minus) r ≡ false
not-Minus [] h = refl
not-Minus (t ∷ r) h = no_word-Minus t.word h

no_word-Or : (w : Word) → strength w < 2 → is_reserved w reserved.Or ≡ false
no_word-Or (word.Reserved reserved.Or) h = absurd (omega arith)
no_word-Or (word.Reserved other) h = refl
no_word-Or other h = refl

not-Or : (r : List Spot) → first_strength r < 2 → first_is (λ w. is_reserved w reserved.Or) r ≡ false
not-Or [] h = refl
not-Or (t ∷ r) h = no_word-Or t.word h

no_word-Equal : (w : Word) → strength w < 1 → is_symbol w symbol.Equal ≡ false
no_word-Equal (word.Symbol symbol.Equal) h = absurd (omega arith)
no_word-Equal (word.Symbol other) h = refl
no_word-Equal other h = refl

not-Equal : (r : List Spot) → first_strength r < 1 → first_is (λ w. is_symbol w symbol.Equal) r ≡ false
not-Equal [] h = refl
not-Equal (t ∷ r) h = no_word-Equal t.word h

no_word-NotEqual : (w : Word) → strength w < 1 → is_symbol w symbol.NotEqual ≡ false
no_word-NotEqual (word.Symbol symbol.NotEqual) h = absurd (omega arith)
no_word-NotEqual (word.Symbol other) h = refl
no_word-NotEqual other h = refl

not-NotEqual : (r : List Spot) → first_strength r < 1 → first_is (λ w. is_symbol w symbol.NotEqual) r ≡ false
not-NotEqual [] h = refl
not-NotEqual (t ∷ r) h = no_word-NotEqual t.word h

no_word-Less : (w : Word) → strength w < 1 → is_symbol w symbol.Less ≡ false
no_word-Less (word.Symbol symbol.Less) h = absurd (omega arith)
no_word-Less (word.Symbol other) h = refl
no_word-Less other h = refl

not-Less : (r : List Spot) → first_strength r < 1 → first_is (λ w. is_symbol w symbol.Less) r ≡ false
not-Less [] h = refl
not-Less (t ∷ r) h = no_word-Less t.word h

no_word-Greater : (w : Word) → strength w < 1 → is_symbol w symbol.Greater ≡ false
no_word-Greater (word.Symbol symbol.Greater) h = absurd (omega arith)
no_word-Greater (word.Symbol other) h = refl
no_word-Greater other h = refl

not-Greater : (r : List Spot) → first_strength r < 1 → first_is (λ w. is_symbol w symbol.Greater) r ≡ false
not-Greater [] h = refl
not-Greater (t ∷ r) h = no_word-Greater t.word h

no_word-LessOrEqual : (w : Word) → strength w < 1 → is_symbol w symbol.LessOrEqual ≡ false
no_word-LessOrEqual (word.Symbol symbol.LessOrEqual) h = absurd (omega arith)
no_word-LessOrEqual (word.Symbol other) h = refl
no_word-LessOrEqual other h = refl

not-LessOrEqual : (r : List Spot) → first_strength r < 1 → first_is (λ w. is_symbol w symbol.LessOrEqual) r ≡ false
not-LessOrEqual [] h = refl
not-LessOrEqual (t ∷ r) h = no_word-LessOrEqual t.word h

no_word-GreaterOrEqual : (w : Word) → strength w < 1 → is_symbol w symbol.GreaterOrEqual ≡ false
no_word-GreaterOrEqual (word.Symbol symbol.GreaterOrEqual) h = absurd (omega arith)
no_word-GreaterOrEqual (word.Symbol other) h = refl
no_word-GreaterOrEqual other h = refl

not-GreaterOrEqual : (r : List Spot) → first_strength r < 1 → first_is (λ w. is_symbol w symbol.GreaterOrEqual) r ≡ false
not-GreaterOrEqual [] h = refl
not-GreaterOrEqual (t ∷ r) h = no_word-GreaterOrEqual t.word h

behind_none : (r : List Spot) (n : ℕ) (y : Want) (rest : List Want) → first_strength r < 4 → report r (want.behind_name n ∷ (y ∷ rest)) ≡ report r (y ∷ rest)
behind_none r n y rest h = behind_skip r n y rest (not-OpenIndex r h) (not-Open r h)

multipliers_none : (r : List Spot) (n : ℕ) (y : Want) (rest : List Want) → first_strength r < 3 → report r (want.multipliers n ∷ (y ∷ rest)) ≡ report r (y ∷ rest)
multipliers_none r n y rest h = multiplier_skip r n y rest (not-Times r h) (not-Div r h) (not-Mod r h) (not-And r h)

addends_none : (r : List Spot) (n : ℕ) (y : Want) (rest : List Want) → first_strength r < 2 → report r (want.addends n ∷ (y ∷ rest)) ≡ report r (y ∷ rest)
addends_none r n y rest h = addend_skip r n y rest (not-Plus r h) (not-Minus r h) (not-Or r h)

relation_none : (r : List Spot) (n : ℕ) (y : Want) (rest : List Want) → first_strength r < 1 → report r (want.relation n ∷ (y ∷ rest)) ≡ report r (y ∷ rest)
relation_none r n y rest h = relation_skip r n y rest (not-Equal r h) (not-NotEqual r h) (not-Less r h) (not-Greater r h) (not-LessOrEqual r h) (not-GreaterOrEqual r h)

exprs_none : (c : ℕ) (r : List Spot) (n : ℕ) (y : Want) (rest : List Want) → report (symbol_at symbol.Close c ∷ r) (want.more_exprs n ∷ (y ∷ rest)) ≡ report (symbol_at symbol.Close c ∷ r) (y ∷ rest)
exprs_none c r n y rest = comma_skip (symbol_at symbol.Close c ∷ r) n y rest refl

-- the words before a list
pub at_wants : (wants : List Want) {a b : List Spot} → a ≡ b → report a wants ≡ report b wants
at_wants wants e = ap (λ ts. report ts wants) e

-- what fits inside has a level of its own
deep_factor : (x : Factor) (n : ℕ) → FactorFits x (n - 1) → 2 ≤ n
deep_factor (number x) n f = omega arith
deep_factor (character x) n f = omega arith
deep_factor (named x) n f = omega arith
deep_factor (element x i) n f = omega arith
deep_factor (called x a) n f = omega arith
deep_factor (group o e c) n f = omega arith
deep_factor (negated l x) n f = omega arith

deep_term : (x : Term) (n : ℕ) → TermFits x (n - 1) → 2 ≤ n
deep_term (term x more) n f = deep_factor x n f.0

deep_simple : (x : Simple) (n : ℕ) → SimpleFits x (n - 1) → 2 ≤ n
deep_simple (simple s x more) n f = deep_term x n f.0

deep_expr : (x : Expr) (n : ℕ) → ExprFits x (n - 1) → 2 ≤ n
deep_expr (alone x) n f = deep_simple x n f
deep_expr (compared x m l z) n f = deep_simple x n f.0

no_sign_word-Plus : (w : Word) → (strength w ≡ 2 → ⊥) → is_symbol w symbol.Plus ≡ false
no_sign_word-Plus (word.Symbol symbol.Plus) h = absurd (h refl)
no_sign_word-Plus (word.Symbol other) h = refl
no_sign_word-Plus other h = refl

no_sign_word-Minus : (w : Word) → (strength w ≡ 2 → ⊥) → is_symbol w symbol.Minus ≡ false
no_sign_word-Minus (word.Symbol symbol.Minus) h = absurd (h refl)
no_sign_word-Minus (word.Symbol other) h = refl
no_sign_word-Minus other h = refl

not_sign-Plus : (r : List Spot) → (first_strength r ≡ 2 → ⊥) → first_is (λ w. is_symbol w symbol.Plus) r ≡ false
not_sign-Plus [] h = refl
not_sign-Plus (t ∷ r) h = no_sign_word-Plus t.word h

not_sign-Minus : (r : List Spot) → (first_strength r ≡ 2 → ⊥) → first_is (λ w. is_symbol w symbol.Minus) r ≡ false
not_sign-Minus [] h = refl
not_sign-Minus (t ∷ r) h = no_sign_word-Minus t.word h

mutual
  pub read_factor : (x : Factor) (n : ℕ) (r : List Spot) (y : Want) (rest : List Want) → FactorFits x n → first_strength r < 4 →
      report (spelled_factor x ++ r) (want.factor n ∷ (y ∷ rest)) ≡ report r (y ∷ rest)
  read_factor (number x) n r y rest f h = factor_number x r n (y ∷ rest)
  read_factor (character x) n r y rest f h = factor_character x r n (y ∷ rest)
  read_factor (named x) n r y rest f h = factor_name x r n (y ∷ rest) ∙ behind_none r n y rest h
  read_factor (element x (index o e c)) n r y rest f h =
      let two : 2 ≤ n = deep_expr e n f.1 in
      factor_name x ((symbol_at symbol.OpenIndex o ∷ (spelled_expr e ++ symbol_at symbol.CloseIndex c ∷ [])) ++ r) n (y ∷ rest)
      ∙ behind_index o ((spelled_expr e ++ symbol_at symbol.CloseIndex c ∷ []) ++ r) n (y ∷ rest) two
      ∙ at_wants (want.expr (n - 1) ∷ (mark symbol.CloseIndex ∷ (y ∷ rest))) (append_assoc (spelled_expr e) (symbol_at symbol.CloseIndex c ∷ []) r)
      ∙ read_expr e (n - 1) (symbol_at symbol.CloseIndex c ∷ r) (mark symbol.CloseIndex) (y ∷ rest) f.1 (omega arith)
      ∙ mark_goes symbol.CloseIndex c r (y ∷ rest)
  read_factor (called x (arguments o e es c)) n r y rest f h =
      let two : 2 ≤ n = deep_expr e n f.1.0 in
      let tail : List Spot = spelled_exprs es ++ (symbol_at symbol.Close c ∷ r) in
      factor_name x ((symbol_at symbol.Open o ∷ (spelled_expr e ++ (spelled_exprs es ++ symbol_at symbol.Close c ∷ []))) ++ r) n (y ∷ rest)
      ∙ behind_open o ((spelled_expr e ++ (spelled_exprs es ++ symbol_at symbol.Close c ∷ [])) ++ r) n (y ∷ rest) two
      ∙ at_wants (want.expr (n - 1) ∷ (want.more_exprs (n - 1) ∷ (mark symbol.Close ∷ (y ∷ rest)))) (append_assoc (spelled_expr e) (spelled_exprs es ++ symbol_at symbol.Close c ∷ []) r ∙ ap (λ s. spelled_expr e ++ s) (append_assoc (spelled_exprs es) (symbol_at symbol.Close c ∷ []) r))
      ∙ read_expr e (n - 1) tail (want.more_exprs (n - 1)) (mark symbol.Close ∷ (y ∷ rest)) f.1.0 (rw below_exprs (omega arith))
      ∙ read_exprs es (n - 1) c r (mark symbol.Close) (y ∷ rest) f.1.1
      ∙ mark_goes symbol.Close c r (y ∷ rest)
  read_factor (group o e c) n r y rest f h =
      let two : 2 ≤ n = deep_expr e n f.1 in
      factor_open o ((spelled_expr e ++ symbol_at symbol.Close c ∷ []) ++ r) n (y ∷ rest) two
      ∙ at_wants (want.expr (n - 1) ∷ (mark symbol.Close ∷ (y ∷ rest))) (append_assoc (spelled_expr e) (symbol_at symbol.Close c ∷ []) r)
      ∙ read_expr e (n - 1) (symbol_at symbol.Close c ∷ r) (mark symbol.Close) (y ∷ rest) f.1 (omega arith)
      ∙ mark_goes symbol.Close c r (y ∷ rest)
  read_factor (negated l x) n r y rest f h =
      let two : 2 ≤ n = deep_factor x n f.1 in
      factor_not l (spelled_factor x ++ r) n (y ∷ rest) two ∙ read_factor x (n - 1) r y rest f.1 h

  pub read_exprs : (x : Exprs) (n c : ℕ) (r : List Spot) (y : Want) (rest : List Want) → ExprsFit x n →
      report (spelled_exprs x ++ (symbol_at symbol.Close c ∷ r)) (want.more_exprs n ∷ (y ∷ rest)) ≡ report (symbol_at symbol.Close c ∷ r) (y ∷ rest)
  read_exprs no_expr n c r y rest f = exprs_none c r n y rest
  read_exprs (next_expr l e es) n c r y rest f =
      comma_goes l ((spelled_expr e ++ spelled_exprs es) ++ (symbol_at symbol.Close c ∷ r)) n (y ∷ rest)
      ∙ at_wants (want.expr n ∷ (want.more_exprs n ∷ (y ∷ rest))) (append_assoc (spelled_expr e) (spelled_exprs es) (symbol_at symbol.Close c ∷ r))
      ∙ read_expr e n (spelled_exprs es ++ (symbol_at symbol.Close c ∷ r)) (want.more_exprs n) (y ∷ rest) f.0 (rw below_exprs (omega arith))
      ∙ read_exprs es n c r y rest f.1

  pub read_multipliers : (x : Multipliers) (n : ℕ) (r : List Spot) (y : Want) (rest : List Want) → MultipliersFit x n → first_strength r < 3 →
      report (spelled_multipliers x ++ r) (want.multipliers n ∷ (y ∷ rest)) ≡ report r (y ∷ rest)
  read_multipliers no_multiplier n r y rest f h = multipliers_none r n y rest h
  read_multipliers (multiplier m l x more) n r y rest f h =
      multiplier_goes m l ((spelled_factor x ++ spelled_multipliers more) ++ r) n (y ∷ rest)
      ∙ at_wants (want.factor n ∷ (want.multipliers n ∷ (y ∷ rest))) (append_assoc (spelled_factor x) (spelled_multipliers more) r)
      ∙ read_factor x n (spelled_multipliers more ++ r) (want.multipliers n) (y ∷ rest) f.0 (below_multipliers more r h)
      ∙ read_multipliers more n r y rest f.1 h

  pub read_term : (x : Term) (n : ℕ) (r : List Spot) (y : Want) (rest : List Want) → TermFits x n → first_strength r < 3 →
      report (spelled_term x ++ r) (want.term n ∷ (y ∷ rest)) ≡ report r (y ∷ rest)
  read_term (term x more) n r y rest f h =
      term_is ((spelled_factor x ++ spelled_multipliers more) ++ r) n (y ∷ rest)
      ∙ at_wants (want.factor n ∷ (want.multipliers n ∷ (y ∷ rest))) (append_assoc (spelled_factor x) (spelled_multipliers more) r)
      ∙ read_factor x n (spelled_multipliers more ++ r) (want.multipliers n) (y ∷ rest) f.0 (below_multipliers more r h)
      ∙ read_multipliers more n r y rest f.1 h

  pub read_addends : (x : Addends) (n : ℕ) (r : List Spot) (y : Want) (rest : List Want) → AddendsFit x n → first_strength r < 2 →
      report (spelled_addends x ++ r) (want.addends n ∷ (y ∷ rest)) ≡ report r (y ∷ rest)
  read_addends no_addend n r y rest f h = addends_none r n y rest h
  read_addends (addend m l x more) n r y rest f h =
      addend_goes m l ((spelled_term x ++ spelled_addends more) ++ r) n (y ∷ rest)
      ∙ at_wants (want.term n ∷ (want.addends n ∷ (y ∷ rest))) (append_assoc (spelled_term x) (spelled_addends more) r)
      ∙ read_term x n (spelled_addends more ++ r) (want.addends n) (y ∷ rest) f.0 (below_addends more r h)
      ∙ read_addends more n r y rest f.1 h

  pub read_simple : (x : Simple) (n : ℕ) (r : List Spot) (y : Want) (rest : List Want) → SimpleFits x n → first_strength r < 2 →
      report (spelled_simple x ++ r) (want.simple n ∷ (y ∷ rest)) ≡ report r (y ∷ rest)
  read_simple (simple None x more) n r y rest f h =
      let no_sign = no_sign_term x (spelled_addends more ++ r) in
      at_wants (want.simple n ∷ (y ∷ rest)) (append_assoc (spelled_term x) (spelled_addends more) r)
      ∙ simple_is (spelled_term x ++ (spelled_addends more ++ r)) n (y ∷ rest) (not_sign-Plus _ no_sign) (not_sign-Minus _ no_sign)
      ∙ read_term x n (spelled_addends more ++ r) (want.addends n) (y ∷ rest) f.0 (below_addends more r h)
      ∙ read_addends more n r y rest f.1 h
  read_simple (simple (Some s) x more) n r y rest f h =
      sign_goes s.0 s.1 ((spelled_term x ++ spelled_addends more) ++ r) n (y ∷ rest)
      ∙ at_wants (want.term n ∷ (want.addends n ∷ (y ∷ rest))) (append_assoc (spelled_term x) (spelled_addends more) r)
      ∙ read_term x n (spelled_addends more ++ r) (want.addends n) (y ∷ rest) f.0 (below_addends more r h)
      ∙ read_addends more n r y rest f.1 h

  pub read_expr : (x : Expr) (n : ℕ) (r : List Spot) (y : Want) (rest : List Want) → ExprFits x n → first_strength r < 1 →
      report (spelled_expr x ++ r) (want.expr n ∷ (y ∷ rest)) ≡ report r (y ∷ rest)
  read_expr (alone x) n r y rest f h =
      expr_is (spelled_simple x ++ r) n (y ∷ rest)
      ∙ read_simple x n r (want.relation n) (y ∷ rest) f (omega arith)
      ∙ relation_none r n y rest h
  read_expr (compared x m l z) n r y rest f h =
      let one = below_relation m l (spelled_simple z ++ r) in
      expr_is ((spelled_simple x ++ (symbol_at (relation_symbol m) l ∷ spelled_simple z)) ++ r) n (y ∷ rest)
      ∙ at_wants (want.simple n ∷ (want.relation n ∷ (y ∷ rest))) (append_assoc (spelled_simple x) (symbol_at (relation_symbol m) l ∷ spelled_simple z) r)
      ∙ read_simple x n (symbol_at (relation_symbol m) l ∷ (spelled_simple z ++ r)) (want.relation n) (y ∷ rest) f.0 (omega arith)
      ∙ relation_goes m l (spelled_simple z ++ r) n (y ∷ rest)
      ∙ read_simple z n r y rest f.1 (omega arith)

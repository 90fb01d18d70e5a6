-- What one word makes of what is wanted, a lemma for each way to go on.
use Rattle.std.proofs.Common.{◌≡◌, ℕ, ◌-◌, ◌≤◌, ◌<◌, true, false, List, [], ◌∷◌, ◌++◌, Option, Some, None, refl, sym, ap, ◌∙◌, append_assoc, leb, arith}
use denote.Enum.Bare.{true_same}
use Rattle.std.proofs.lemmas.Bool.{le-leb}
use Rattle.std.proofs.lemmas.Bool.Decides.{leb_tells}
use Rattle.pascal_tree.specs.Word.{Spot, NameAt, NumberAt, CharacterAt}
use Rattle.pascal_tree.specs.SpellExpression.{reserved_at, symbol_at, name_at, number_at, character_at}
use Rattle.pascal_tree.specs.declared.token.Reserved.{Reserved}
use Rattle.pascal_tree.specs.declared.token.Reserved.TheVariants as reserved
use Rattle.pascal_tree.specs.declared.token.Symbol.{Symbol}
use Rattle.pascal_tree.specs.declared.token.Symbol.TheVariants as symbol
use Rattle.pascal_tree.specs.contracts.token.Reserved as reserved_type
use Rattle.pascal_tree.specs.contracts.token.Symbol as symbol_type
use Rattle.pascal_tree.specs.SpellExpression.{sign_symbol, adding_word, multiplying_word, relation_symbol}
use Rattle.pascal_tree.specs.declared.expression.Relation.{Relation}
use Rattle.pascal_tree.specs.declared.expression.Relation.TheVariants as relations
use Rattle.pascal_tree.specs.declared.expression.Sign.{Sign}
use Rattle.pascal_tree.specs.declared.expression.Sign.TheVariants as signs
use Rattle.pascal_tree.specs.declared.expression.Adding.{Adding}
use Rattle.pascal_tree.specs.declared.expression.Adding.TheVariants as addings
use Rattle.pascal_tree.specs.declared.expression.Multiplying.{Multiplying}
use Rattle.pascal_tree.specs.declared.expression.Multiplying.TheVariants as multiplyings
use Rattle.pascal_read.specs.ParseFirst.{first_line, first_is}
use Rattle.pascal_read.specs.ParseWants.{Want, took, skip, no, want_step, settle, begun, extended, factor_begins, term_begins, simple_begins, expr, relation, simple, addends, term, multipliers, factor, behind_name, more_exprs, resume, offer, run, report, stuck_line, reserved_word, mark, is_reserved, is_symbol, is_name, is_number, is_character}

-- the first want takes the word
pub taken : (t : Spot) (ts : List Spot) (x : Want) (more rest : List Want) → want_step x t.word ≡ took more → report (t ∷ ts) (x ∷ rest) ≡ report ts (more ++ rest)
unfolding report run offer
taken t ts x more rest e = ap (λ s. stuck_line (resume (settle s rest (offer rest t.word)) (run ts) (t ∷ ts))) e

-- the first want skips it
pub skipped : (t : Spot) (ts : List Spot) (x y : Want) (rest : List Want) → want_step x t.word ≡ skip → report (t ∷ ts) (x ∷ (y ∷ rest)) ≡ report (t ∷ ts) (y ∷ rest)
unfolding report run offer
skipped t ts x y rest e = ap (λ s. stuck_line (resume (settle s (y ∷ rest) (offer (y ∷ rest) t.word)) (run ts) (t ∷ ts))) e

-- the first want can't go on with it
pub refused : (t : Spot) (ts : List Spot) (x : Want) (rest : List Want) → want_step x t.word ≡ no → report (t ∷ ts) (x ∷ rest) ≡ Some t.line
unfolding report run offer
refused t ts x rest e = ap (λ s. stuck_line (resume (settle s rest (offer rest t.word)) (run ts) (t ∷ ts))) e

pub at_end : (x : Want) (rest : List Want) → report [] (x ∷ rest) ≡ Some 0
unfolding report run
at_end x rest = refl

-- 2 ≤ n as a test
pub two : (n : ℕ) → 2 ≤ n → leb 2 n ≡ true
two n h = le-leb 2 n h

pub not_two : (n : ℕ) → n < 2 → leb 2 n ≡ false
not_two n h = grind (arith, leb_tells)

pub mark_goes : (s : Symbol) (l : ℕ) (ts : List Spot) (rest : List Want) → report (symbol_at s l ∷ ts) (mark s ∷ rest) ≡ report ts rest
mark_goes s l ts rest = taken (symbol_at s l) ts (mark s) [] rest (rw (true_same symbol_type.the_type s s refl))

pub mark_stuck : (s : Symbol) (before : List Spot) (rest : List Want) → first_is (λ w. is_symbol w s) before ≡ false → report before (mark s ∷ rest) ≡ Some (first_line before)
mark_stuck s [] rest h = at_end (mark s) rest
mark_stuck s (t ∷ ts) rest h = refused t ts (mark s) rest (rw h)

pub reserved_goes : (r : Reserved) (l : ℕ) (ts : List Spot) (rest : List Want) → report (reserved_at r l ∷ ts) (reserved_word r ∷ rest) ≡ report ts rest
reserved_goes r l ts rest = taken (reserved_at r l) ts (reserved_word r) [] rest (rw (true_same reserved_type.the_type r r refl))

pub reserved_stuck : (r : Reserved) (before : List Spot) (rest : List Want) → first_is (λ w. is_reserved w r) before ≡ false → report before (reserved_word r ∷ rest) ≡ Some (first_line before)
reserved_stuck r [] rest h = at_end (reserved_word r) rest
reserved_stuck r (t ∷ ts) rest h = refused t ts (reserved_word r) rest (rw h)

pub factor_number : (x : NumberAt) (ts : List Spot) (n : ℕ) (rest : List Want) → report (number_at x ∷ ts) (factor n ∷ rest) ≡ report ts rest
factor_number x ts n rest = taken (number_at x) ts (factor n) [] rest refl

pub factor_character : (x : CharacterAt) (ts : List Spot) (n : ℕ) (rest : List Want) → report (character_at x ∷ ts) (factor n ∷ rest) ≡ report ts rest
factor_character x ts n rest = taken (character_at x) ts (factor n) [] rest refl

pub factor_name : (x : NameAt) (ts : List Spot) (n : ℕ) (rest : List Want) → report (name_at x ∷ ts) (factor n ∷ rest) ≡ report ts (behind_name n ∷ rest)
factor_name x ts n rest = taken (name_at x) ts (factor n) (behind_name n ∷ []) rest refl

pub factor_open : (l : ℕ) (ts : List Spot) (n : ℕ) (rest : List Want) → 2 ≤ n → report (symbol_at symbol.Open l ∷ ts) (factor n ∷ rest) ≡ report ts (expr (n - 1) ∷ (mark symbol.Close ∷ rest))
factor_open l ts n rest h = taken (symbol_at symbol.Open l) ts (factor n) (expr (n - 1) ∷ (mark symbol.Close ∷ [])) rest (rw (two n h))

pub factor_open_no : (l : ℕ) (ts : List Spot) (n : ℕ) (rest : List Want) → n < 2 → report (symbol_at symbol.Open l ∷ ts) (factor n ∷ rest) ≡ Some l
factor_open_no l ts n rest h = refused (symbol_at symbol.Open l) ts (factor n) rest (rw (not_two n h))

pub factor_not : (l : ℕ) (ts : List Spot) (n : ℕ) (rest : List Want) → 2 ≤ n → report (reserved_at reserved.Not l ∷ ts) (factor n ∷ rest) ≡ report ts (factor (n - 1) ∷ rest)
factor_not l ts n rest h = taken (reserved_at reserved.Not l) ts (factor n) (factor (n - 1) ∷ []) rest (rw (two n h))

pub factor_not_no : (l : ℕ) (ts : List Spot) (n : ℕ) (rest : List Want) → n < 2 → report (reserved_at reserved.Not l ∷ ts) (factor n ∷ rest) ≡ Some l
factor_not_no l ts n rest h = refused (reserved_at reserved.Not l) ts (factor n) rest (rw (not_two n h))

pub factor_stuck : (before : List Spot) (n : ℕ) (rest : List Want) → first_is is_number before ≡ false → first_is is_character before ≡ false → first_is is_name before ≡ false →
    first_is (λ w. is_symbol w symbol.Open) before ≡ false → first_is (λ w. is_reserved w reserved.Not) before ≡ false → report before (factor n ∷ rest) ≡ Some (first_line before)
factor_stuck [] n rest a b c d e = at_end (factor n) rest
factor_stuck (t ∷ ts) n rest a b c d e = refused t ts (factor n) rest (rw (a, b, c, d, e))

pub behind_index : (l : ℕ) (ts : List Spot) (n : ℕ) (rest : List Want) → 2 ≤ n → report (symbol_at symbol.OpenIndex l ∷ ts) (behind_name n ∷ rest) ≡ report ts (expr (n - 1) ∷ (mark symbol.CloseIndex ∷ rest))
behind_index l ts n rest h = taken (symbol_at symbol.OpenIndex l) ts (behind_name n) (expr (n - 1) ∷ (mark symbol.CloseIndex ∷ [])) rest (rw (two n h))

pub behind_index_no : (l : ℕ) (ts : List Spot) (n : ℕ) (rest : List Want) → n < 2 → report (symbol_at symbol.OpenIndex l ∷ ts) (behind_name n ∷ rest) ≡ Some l
behind_index_no l ts n rest h = refused (symbol_at symbol.OpenIndex l) ts (behind_name n) rest (rw (not_two n h))

pub behind_open : (l : ℕ) (ts : List Spot) (n : ℕ) (rest : List Want) → 2 ≤ n → report (symbol_at symbol.Open l ∷ ts) (behind_name n ∷ rest) ≡ report ts (expr (n - 1) ∷ (more_exprs (n - 1) ∷ (mark symbol.Close ∷ rest)))
behind_open l ts n rest h = taken (symbol_at symbol.Open l) ts (behind_name n) (expr (n - 1) ∷ (more_exprs (n - 1) ∷ (mark symbol.Close ∷ []))) rest (rw (two n h))

pub behind_open_no : (l : ℕ) (ts : List Spot) (n : ℕ) (rest : List Want) → n < 2 → report (symbol_at symbol.Open l ∷ ts) (behind_name n ∷ rest) ≡ Some l
behind_open_no l ts n rest h = refused (symbol_at symbol.Open l) ts (behind_name n) rest (rw (not_two n h))

pub behind_skip : (before : List Spot) (n : ℕ) (y : Want) (rest : List Want) → first_is (λ w. is_symbol w symbol.OpenIndex) before ≡ false → first_is (λ w. is_symbol w symbol.Open) before ≡ false →
    report before (behind_name n ∷ (y ∷ rest)) ≡ report before (y ∷ rest)
behind_skip [] n y rest a b = at_end (behind_name n) (y ∷ rest) ∙ sym (at_end y rest)
behind_skip (t ∷ ts) n y rest a b = skipped t ts (behind_name n) y rest (rw (a, b))

pub comma_goes : (l : ℕ) (ts : List Spot) (n : ℕ) (rest : List Want) → report (symbol_at symbol.Comma l ∷ ts) (more_exprs n ∷ rest) ≡ report ts (expr n ∷ (more_exprs n ∷ rest))
comma_goes l ts n rest = taken (symbol_at symbol.Comma l) ts (more_exprs n) (expr n ∷ (more_exprs n ∷ [])) rest refl

pub comma_skip : (before : List Spot) (n : ℕ) (y : Want) (rest : List Want) → first_is (λ w. is_symbol w symbol.Comma) before ≡ false → report before (more_exprs n ∷ (y ∷ rest)) ≡ report before (y ∷ rest)
comma_skip [] n y rest a = at_end (more_exprs n) (y ∷ rest) ∙ sym (at_end y rest)
comma_skip (t ∷ ts) n y rest a = skipped t ts (more_exprs n) y rest (rw a)

-- a part that begins with another part
begun_by : (t : Spot) (ts : List Spot) (x y : Want) (more rest : List Want) (o : Option (List Want)) → want_step y t.word ≡ begun o → want_step x t.word ≡ begun (extended o more) →
    report (t ∷ ts) (x ∷ rest) ≡ report (t ∷ ts) (y ∷ (more ++ rest))
begun_by t ts x y more rest None e f = refused t ts x rest f ∙ sym (refused t ts y (more ++ rest) e)
begun_by t ts x y more rest (Some a) e f =
    taken t ts x (a ++ more) rest f ∙ ap (report ts) (append_assoc a more rest) ∙ sym (taken t ts y a (more ++ rest) e)

pub term_is : (before : List Spot) (n : ℕ) (rest : List Want) → report before (term n ∷ rest) ≡ report before (factor n ∷ (multipliers n ∷ rest))
term_is [] n rest = at_end (term n) rest ∙ sym (at_end (factor n) (multipliers n ∷ rest))
term_is (t ∷ ts) n rest = begun_by t ts (term n) (factor n) (multipliers n ∷ []) rest (factor_begins n t.word) refl refl

pub expr_is : (before : List Spot) (n : ℕ) (rest : List Want) → report before (expr n ∷ rest) ≡ report before (simple n ∷ (relation n ∷ rest))
expr_is [] n rest = at_end (expr n) rest ∙ sym (at_end (simple n) (relation n ∷ rest))
expr_is (t ∷ ts) n rest = begun_by t ts (expr n) (simple n) (relation n ∷ []) rest (simple_begins n t.word) refl refl

pub simple_is : (before : List Spot) (n : ℕ) (rest : List Want) → first_is (λ w. is_symbol w symbol.Plus) before ≡ false → first_is (λ w. is_symbol w symbol.Minus) before ≡ false →
    report before (simple n ∷ rest) ≡ report before (term n ∷ (addends n ∷ rest))
simple_is [] n rest a b = at_end (simple n) rest ∙ sym (at_end (term n) (addends n ∷ rest))
simple_is (t ∷ ts) n rest a b = begun_by t ts (simple n) (term n) (addends n ∷ []) rest (term_begins n t.word) refl (rw (a, b))

pub sign_goes : (s : Sign) (l : ℕ) (ts : List Spot) (n : ℕ) (rest : List Want) → report (symbol_at (sign_symbol s) l ∷ ts) (simple n ∷ rest) ≡ report ts (term n ∷ (addends n ∷ rest))
sign_goes signs.Plus l ts n rest = taken (symbol_at symbol.Plus l) ts (simple n) (term n ∷ (addends n ∷ [])) rest refl
sign_goes signs.Minus l ts n rest = taken (symbol_at symbol.Minus l) ts (simple n) (term n ∷ (addends n ∷ [])) rest refl

pub multiplier_goes : (m : Multiplying) (l : ℕ) (ts : List Spot) (n : ℕ) (rest : List Want) →
    report ((let s : Spot = record { word = multiplying_word m; line = l } in s) ∷ ts) (multipliers n ∷ rest) ≡ report ts (factor n ∷ (multipliers n ∷ rest))
multiplier_goes multiplyings.Times l ts n rest = taken (symbol_at symbol.Times l) ts (multipliers n) (factor n ∷ (multipliers n ∷ [])) rest refl
multiplier_goes multiplyings.Div l ts n rest = taken (reserved_at reserved.Div l) ts (multipliers n) (factor n ∷ (multipliers n ∷ [])) rest refl
multiplier_goes multiplyings.Mod l ts n rest = taken (reserved_at reserved.Mod l) ts (multipliers n) (factor n ∷ (multipliers n ∷ [])) rest refl
multiplier_goes multiplyings.And l ts n rest = taken (symbol_at symbol.And l) ts (multipliers n) (factor n ∷ (multipliers n ∷ [])) rest refl

pub multiplier_skip : (before : List Spot) (n : ℕ) (y : Want) (rest : List Want) → first_is (λ w. is_symbol w symbol.Times) before ≡ false → first_is (λ w. is_reserved w reserved.Div) before ≡ false →
    first_is (λ w. is_reserved w reserved.Mod) before ≡ false → first_is (λ w. is_symbol w symbol.And) before ≡ false → report before (multipliers n ∷ (y ∷ rest)) ≡ report before (y ∷ rest)
multiplier_skip [] n y rest a b c d = at_end (multipliers n) (y ∷ rest) ∙ sym (at_end y rest)
multiplier_skip (t ∷ ts) n y rest a b c d = skipped t ts (multipliers n) y rest (rw (a, b, c, d))

pub addend_goes : (m : Adding) (l : ℕ) (ts : List Spot) (n : ℕ) (rest : List Want) →
    report ((let s : Spot = record { word = adding_word m; line = l } in s) ∷ ts) (addends n ∷ rest) ≡ report ts (term n ∷ (addends n ∷ rest))
addend_goes addings.Plus l ts n rest = taken (symbol_at symbol.Plus l) ts (addends n) (term n ∷ (addends n ∷ [])) rest refl
addend_goes addings.Minus l ts n rest = taken (symbol_at symbol.Minus l) ts (addends n) (term n ∷ (addends n ∷ [])) rest refl
addend_goes addings.Or l ts n rest = taken (reserved_at reserved.Or l) ts (addends n) (term n ∷ (addends n ∷ [])) rest refl

pub addend_skip : (before : List Spot) (n : ℕ) (y : Want) (rest : List Want) → first_is (λ w. is_symbol w symbol.Plus) before ≡ false → first_is (λ w. is_symbol w symbol.Minus) before ≡ false →
    first_is (λ w. is_reserved w reserved.Or) before ≡ false → report before (addends n ∷ (y ∷ rest)) ≡ report before (y ∷ rest)
addend_skip [] n y rest a b c = at_end (addends n) (y ∷ rest) ∙ sym (at_end y rest)
addend_skip (t ∷ ts) n y rest a b c = skipped t ts (addends n) y rest (rw (a, b, c))

pub relation_goes : (r : Relation) (l : ℕ) (ts : List Spot) (n : ℕ) (rest : List Want) → report (symbol_at (relation_symbol r) l ∷ ts) (relation n ∷ rest) ≡ report ts (simple n ∷ rest)
relation_goes relations.Equal l ts n rest = taken (symbol_at symbol.Equal l) ts (relation n) (simple n ∷ []) rest refl
relation_goes relations.NotEqual l ts n rest = taken (symbol_at symbol.NotEqual l) ts (relation n) (simple n ∷ []) rest refl
relation_goes relations.Less l ts n rest = taken (symbol_at symbol.Less l) ts (relation n) (simple n ∷ []) rest refl
relation_goes relations.Greater l ts n rest = taken (symbol_at symbol.Greater l) ts (relation n) (simple n ∷ []) rest refl
relation_goes relations.LessOrEqual l ts n rest = taken (symbol_at symbol.LessOrEqual l) ts (relation n) (simple n ∷ []) rest refl
relation_goes relations.GreaterOrEqual l ts n rest = taken (symbol_at symbol.GreaterOrEqual l) ts (relation n) (simple n ∷ []) rest refl

pub relation_skip : (before : List Spot) (n : ℕ) (y : Want) (rest : List Want) → first_is (λ w. is_symbol w symbol.Equal) before ≡ false → first_is (λ w. is_symbol w symbol.NotEqual) before ≡ false →
    first_is (λ w. is_symbol w symbol.Less) before ≡ false → first_is (λ w. is_symbol w symbol.Greater) before ≡ false → first_is (λ w. is_symbol w symbol.LessOrEqual) before ≡ false →
    first_is (λ w. is_symbol w symbol.GreaterOrEqual) before ≡ false → report before (relation n ∷ (y ∷ rest)) ≡ report before (y ∷ rest)
relation_skip [] n y rest a b c d e f = at_end (relation n) (y ∷ rest) ∙ sym (at_end y rest)
relation_skip (t ∷ ts) n y rest a b c d e f = skipped t ts (relation n) y rest (rw (a, b, c, d, e, f))

pub sign_plus : (l : ℕ) (ts : List Spot) (n : ℕ) (rest : List Want) → report (symbol_at symbol.Plus l ∷ ts) (simple n ∷ rest) ≡ report ts (term n ∷ (addends n ∷ rest))
sign_plus l ts n rest = taken (symbol_at symbol.Plus l) ts (simple n) (term n ∷ (addends n ∷ [])) rest refl

pub sign_minus : (l : ℕ) (ts : List Spot) (n : ℕ) (rest : List Want) → report (symbol_at symbol.Minus l ∷ ts) (simple n ∷ rest) ≡ report ts (term n ∷ (addends n ∷ rest))
sign_minus l ts n rest = taken (symbol_at symbol.Minus l) ts (simple n) (term n ∷ (addends n ∷ [])) rest refl

pub ruleset rows = (mark_goes, mark_stuck, reserved_goes, reserved_stuck, factor_number, factor_character, factor_name, factor_open, factor_open_no, factor_not, factor_not_no, factor_stuck, behind_index, behind_index_no, behind_open, behind_open_no, behind_skip, comma_goes, comma_skip, term_is, expr_is, simple_is, sign_goes, sign_plus, sign_minus, multiplier_goes, multiplier_skip, addend_goes, addend_skip, relation_goes, relation_skip)

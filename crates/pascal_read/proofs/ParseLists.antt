-- What one part more at a list's end does to its spelling and its levels.
use Rattle.std.proofs.Common.{◌≡◌, ℕ, List, [], ◌∷◌, ◌++◌, sym, ap, ◌∙◌, append_assoc}
use Rattle.std.proofs.lemmas.List.{append-nil}
use Rattle.pascal_tree.specs.Word.{Spot}
use Rattle.pascal_tree.specs.SeenExpression.{seen_expr, seen_term, seen_factor, seen_addends, seen_multipliers, seen_exprs}
use Rattle.pascal_tree.specs.SpellExpression.{spelled_expr, spelled_addends, spelled_term, spelled_multipliers, spelled_factor, spelled_exprs, symbol_at, adding_word, multiplying_word}
use Rattle.pascal_tree.specs.Limits.{ExprFits, AddendsFit, TermFits, MultipliersFit, FactorFits, ExprsFit}
use Rattle.pascal_tree.specs.declared.token.Symbol.TheVariants as symbol
use Rattle.pascal_tree.specs.declared.expression.Adding.{Adding}
use Rattle.pascal_tree.specs.declared.expression.Multiplying.{Multiplying}
use Rattle.pascal_tree.specs.declared.expression.Expr as exprs
use Rattle.pascal_tree.specs.declared.expression.Term as terms
use Rattle.pascal_tree.specs.declared.expression.Factor as factors
use Rattle.pascal_read.specs.ParseFirst.{word_at}

pub spelled_addends-push : (xs : List (Adding × ℕ × terms.Term)) (x : Adding × ℕ × terms.Term) →
    spelled_addends (seen_addends (xs ++ x ∷ [])) ≡ spelled_addends (seen_addends xs) ++ (word_at (adding_word x.0) x.1 ∷ spelled_term (seen_term x.2))
spelled_addends-push [] x = ap (λ s. word_at (adding_word x.0) x.1 ∷ s) (append-nil (spelled_term (seen_term x.2)))
spelled_addends-push (a ∷ xs) x =
    ap (λ s. word_at (adding_word a.0) a.1 ∷ (spelled_term (seen_term a.2) ++ s)) (spelled_addends-push xs x)
    ∙ ap (λ s. word_at (adding_word a.0) a.1 ∷ s) (sym (append_assoc (spelled_term (seen_term a.2)) (spelled_addends (seen_addends xs)) (word_at (adding_word x.0) x.1 ∷ spelled_term (seen_term x.2))))

pub AddendsFit-push : (xs : List (Adding × ℕ × terms.Term)) (x : Adding × ℕ × terms.Term) (n : ℕ) → AddendsFit (seen_addends xs) n → TermFits (seen_term x.2) n → AddendsFit (seen_addends (xs ++ x ∷ [])) n
AddendsFit-push [] x n f g = (g, tt)
AddendsFit-push (a ∷ xs) x n f g = (f.0, AddendsFit-push xs x n f.1 g)

pub spelled_multipliers-push : (xs : List (Multiplying × ℕ × factors.Factor)) (x : Multiplying × ℕ × factors.Factor) →
    spelled_multipliers (seen_multipliers (xs ++ x ∷ [])) ≡ spelled_multipliers (seen_multipliers xs) ++ (word_at (multiplying_word x.0) x.1 ∷ spelled_factor (seen_factor x.2))
spelled_multipliers-push [] x = ap (λ s. word_at (multiplying_word x.0) x.1 ∷ s) (append-nil (spelled_factor (seen_factor x.2)))
spelled_multipliers-push (a ∷ xs) x =
    ap (λ s. word_at (multiplying_word a.0) a.1 ∷ (spelled_factor (seen_factor a.2) ++ s)) (spelled_multipliers-push xs x)
    ∙ ap (λ s. word_at (multiplying_word a.0) a.1 ∷ s) (sym (append_assoc (spelled_factor (seen_factor a.2)) (spelled_multipliers (seen_multipliers xs)) (word_at (multiplying_word x.0) x.1 ∷ spelled_factor (seen_factor x.2))))

pub MultipliersFit-push : (xs : List (Multiplying × ℕ × factors.Factor)) (x : Multiplying × ℕ × factors.Factor) (n : ℕ) → MultipliersFit (seen_multipliers xs) n → FactorFits (seen_factor x.2) n →
    MultipliersFit (seen_multipliers (xs ++ x ∷ [])) n
MultipliersFit-push [] x n f g = (g, tt)
MultipliersFit-push (a ∷ xs) x n f g = (f.0, MultipliersFit-push xs x n f.1 g)

pub spelled_exprs-push : (xs : List (ℕ × exprs.Expr)) (x : ℕ × exprs.Expr) →
    spelled_exprs (seen_exprs (xs ++ x ∷ [])) ≡ spelled_exprs (seen_exprs xs) ++ (symbol_at symbol.Comma x.0 ∷ spelled_expr (seen_expr x.1))
spelled_exprs-push [] x = ap (λ s. symbol_at symbol.Comma x.0 ∷ s) (append-nil (spelled_expr (seen_expr x.1)))
spelled_exprs-push (a ∷ xs) x =
    ap (λ s. symbol_at symbol.Comma a.0 ∷ (spelled_expr (seen_expr a.1) ++ s)) (spelled_exprs-push xs x)
    ∙ ap (λ s. symbol_at symbol.Comma a.0 ∷ s) (sym (append_assoc (spelled_expr (seen_expr a.1)) (spelled_exprs (seen_exprs xs)) (symbol_at symbol.Comma x.0 ∷ spelled_expr (seen_expr x.1))))

pub ExprsFit-push : (xs : List (ℕ × exprs.Expr)) (x : ℕ × exprs.Expr) (n : ℕ) → ExprsFit (seen_exprs xs) n → ExprFits (seen_expr x.1) n → ExprsFit (seen_exprs (xs ++ x ∷ [])) n
ExprsFit-push [] x n f g = (g, tt)
ExprsFit-push (a ∷ xs) x n f g = (f.0, ExprsFit-push xs x n f.1 g)

pub one_more-addends : (xs : List (Adding × ℕ × terms.Term)) (x : Adding × ℕ × terms.Term) (start before inside after : List Spot) → start ≡ spelled_addends (seen_addends xs) ++ before → before ≡ word_at (adding_word x.0) x.1 ∷ inside → inside ≡ spelled_term (seen_term x.2) ++ after →
    start ≡ spelled_addends (seen_addends (xs ++ x ∷ [])) ++ after
one_more-addends xs x start before inside after p q r =
    p ∙ ap (λ s. spelled_addends (seen_addends xs) ++ s) (q ∙ ap (λ s. word_at (adding_word x.0) x.1 ∷ s) r)
    ∙ sym (append_assoc (spelled_addends (seen_addends xs)) (word_at (adding_word x.0) x.1 ∷ spelled_term (seen_term x.2)) after)
    ∙ ap (λ s. s ++ after) (sym (spelled_addends-push xs x))

pub one_more-multipliers : (xs : List (Multiplying × ℕ × factors.Factor)) (x : Multiplying × ℕ × factors.Factor) (start before inside after : List Spot) → start ≡ spelled_multipliers (seen_multipliers xs) ++ before → before ≡ word_at (multiplying_word x.0) x.1 ∷ inside → inside ≡ spelled_factor (seen_factor x.2) ++ after →
    start ≡ spelled_multipliers (seen_multipliers (xs ++ x ∷ [])) ++ after
one_more-multipliers xs x start before inside after p q r =
    p ∙ ap (λ s. spelled_multipliers (seen_multipliers xs) ++ s) (q ∙ ap (λ s. word_at (multiplying_word x.0) x.1 ∷ s) r)
    ∙ sym (append_assoc (spelled_multipliers (seen_multipliers xs)) (word_at (multiplying_word x.0) x.1 ∷ spelled_factor (seen_factor x.2)) after)
    ∙ ap (λ s. s ++ after) (sym (spelled_multipliers-push xs x))

pub one_more-exprs : (xs : List (ℕ × exprs.Expr)) (x : ℕ × exprs.Expr) (start before inside after : List Spot) → start ≡ spelled_exprs (seen_exprs xs) ++ before → before ≡ symbol_at symbol.Comma x.0 ∷ inside → inside ≡ spelled_expr (seen_expr x.1) ++ after →
    start ≡ spelled_exprs (seen_exprs (xs ++ x ∷ [])) ++ after
one_more-exprs xs x start before inside after p q r =
    p ∙ ap (λ s. spelled_exprs (seen_exprs xs) ++ s) (q ∙ ap (λ s. symbol_at symbol.Comma x.0 ∷ s) r)
    ∙ sym (append_assoc (spelled_exprs (seen_exprs xs)) (symbol_at symbol.Comma x.0 ∷ spelled_expr (seen_expr x.1)) after)
    ∙ ap (λ s. s ++ after) (sym (spelled_exprs-push xs x))

pub ruleset pushes = (spelled_addends-push, AddendsFit-push, spelled_multipliers-push, MultipliersFit-push, spelled_exprs-push, ExprsFit-push)

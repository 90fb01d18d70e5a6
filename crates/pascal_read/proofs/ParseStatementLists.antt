-- What one statement, branch or label more at a list's end does to its spelling and its levels.
use Rattle.std.proofs.Common.{◌≡◌, ℕ, List, [], ◌∷◌, ◌++◌, sym, ap, ◌∙◌, append_assoc}
use Rattle.std.proofs.lemmas.List.{append-nil}
use Rattle.pascal_tree.specs.Word.{Spot}
use Rattle.pascal_tree.specs.SeenStatement.{seen_statement, seen_statements, seen_branch, seen_branches}
use Rattle.pascal_tree.specs.SpellConstant.{spelled_constant, spelled_more_labels}
use Rattle.pascal_tree.specs.declared.constant.Constant.{Constant}
use Rattle.pascal_tree.specs.SpellExpression.{symbol_at}
use Rattle.pascal_tree.specs.SpellStatement.{spelled_statement, spelled_statements, spelled_branch, spelled_branches}
use Rattle.pascal_tree.specs.Limits.{StatementFits, StatementsFit, BranchFits, BranchesFit}
use Rattle.pascal_tree.specs.declared.token.Symbol.TheVariants as symbol
use Rattle.pascal_tree.specs.declared.statement.Statement as statements
use Rattle.pascal_tree.specs.declared.statement.Branch as branch_type

pub spelled_statements-push : (xs : List (ℕ × statements.Statement)) (x : ℕ × statements.Statement) →
    spelled_statements (seen_statements (xs ++ x ∷ [])) ≡ spelled_statements (seen_statements xs) ++ (symbol_at symbol.Semicolon x.0 ∷ spelled_statement (seen_statement x.1))
spelled_statements-push [] x = ap (λ s. symbol_at symbol.Semicolon x.0 ∷ s) (append-nil (spelled_statement (seen_statement x.1)))
spelled_statements-push (a ∷ xs) x =
    ap (λ s. symbol_at symbol.Semicolon a.0 ∷ (spelled_statement (seen_statement a.1) ++ s)) (spelled_statements-push xs x)
    ∙ ap (λ s. symbol_at symbol.Semicolon a.0 ∷ s) (sym (append_assoc (spelled_statement (seen_statement a.1)) (spelled_statements (seen_statements xs)) (symbol_at symbol.Semicolon x.0 ∷ spelled_statement (seen_statement x.1))))

pub StatementsFit-push : (xs : List (ℕ × statements.Statement)) (x : ℕ × statements.Statement) (n : ℕ) → StatementsFit (seen_statements xs) n → StatementFits (seen_statement x.1) n → StatementsFit (seen_statements (xs ++ x ∷ [])) n
StatementsFit-push [] x n f g = (g, tt)
StatementsFit-push (a ∷ xs) x n f g = (f.0, StatementsFit-push xs x n f.1 g)

pub one_more-statements : (xs : List (ℕ × statements.Statement)) (x : ℕ × statements.Statement) (start before inside after : List Spot) → start ≡ spelled_statements (seen_statements xs) ++ before →
    before ≡ symbol_at symbol.Semicolon x.0 ∷ inside → inside ≡ spelled_statement (seen_statement x.1) ++ after → start ≡ spelled_statements (seen_statements (xs ++ x ∷ [])) ++ after
one_more-statements xs x start before inside after p q r =
    p ∙ ap (λ s. spelled_statements (seen_statements xs) ++ s) (q ∙ ap (λ s. symbol_at symbol.Semicolon x.0 ∷ s) r)
    ∙ sym (append_assoc (spelled_statements (seen_statements xs)) (symbol_at symbol.Semicolon x.0 ∷ spelled_statement (seen_statement x.1)) after)
    ∙ ap (λ s. s ++ after) (sym (spelled_statements-push xs x))

pub spelled_branches-push : (xs : List (ℕ × branch_type.Branch)) (x : ℕ × branch_type.Branch) →
    spelled_branches (seen_branches (xs ++ x ∷ [])) ≡ spelled_branches (seen_branches xs) ++ (symbol_at symbol.Semicolon x.0 ∷ spelled_branch (seen_branch x.1))
spelled_branches-push [] x = ap (λ s. symbol_at symbol.Semicolon x.0 ∷ s) (append-nil (spelled_branch (seen_branch x.1)))
spelled_branches-push (a ∷ xs) x =
    ap (λ s. symbol_at symbol.Semicolon a.0 ∷ (spelled_branch (seen_branch a.1) ++ s)) (spelled_branches-push xs x)
    ∙ ap (λ s. symbol_at symbol.Semicolon a.0 ∷ s) (sym (append_assoc (spelled_branch (seen_branch a.1)) (spelled_branches (seen_branches xs)) (symbol_at symbol.Semicolon x.0 ∷ spelled_branch (seen_branch x.1))))

pub BranchesFit-push : (xs : List (ℕ × branch_type.Branch)) (x : ℕ × branch_type.Branch) (n : ℕ) → BranchesFit (seen_branches xs) n → BranchFits (seen_branch x.1) n → BranchesFit (seen_branches (xs ++ x ∷ [])) n
BranchesFit-push [] x n f g = (g, tt)
BranchesFit-push (a ∷ xs) x n f g = (f.0, BranchesFit-push xs x n f.1 g)

pub one_more-branches : (xs : List (ℕ × branch_type.Branch)) (x : ℕ × branch_type.Branch) (start before inside after : List Spot) → start ≡ spelled_branches (seen_branches xs) ++ before →
    before ≡ symbol_at symbol.Semicolon x.0 ∷ inside → inside ≡ spelled_branch (seen_branch x.1) ++ after → start ≡ spelled_branches (seen_branches (xs ++ x ∷ [])) ++ after
one_more-branches xs x start before inside after p q r =
    p ∙ ap (λ s. spelled_branches (seen_branches xs) ++ s) (q ∙ ap (λ s. symbol_at symbol.Semicolon x.0 ∷ s) r)
    ∙ sym (append_assoc (spelled_branches (seen_branches xs)) (symbol_at symbol.Semicolon x.0 ∷ spelled_branch (seen_branch x.1)) after)
    ∙ ap (λ s. s ++ after) (sym (spelled_branches-push xs x))

pub more_labels-push : (xs : List (ℕ × Constant)) (x : ℕ × Constant) → spelled_more_labels (xs ++ x ∷ []) ≡ spelled_more_labels xs ++ (symbol_at symbol.Comma x.0 ∷ spelled_constant x.1)
more_labels-push [] x = ap (λ s. symbol_at symbol.Comma x.0 ∷ s) (append-nil (spelled_constant x.1))
more_labels-push (a ∷ xs) x =
    ap (λ s. symbol_at symbol.Comma a.0 ∷ (spelled_constant a.1 ++ s)) (more_labels-push xs x)
    ∙ ap (λ s. symbol_at symbol.Comma a.0 ∷ s) (sym (append_assoc (spelled_constant a.1) (spelled_more_labels xs) (symbol_at symbol.Comma x.0 ∷ spelled_constant x.1)))

pub one_more-labels : (xs : List (ℕ × Constant)) (x : ℕ × Constant) (start before inside after : List Spot) → start ≡ spelled_more_labels xs ++ before →
    before ≡ symbol_at symbol.Comma x.0 ∷ inside → inside ≡ spelled_constant x.1 ++ after → start ≡ spelled_more_labels (xs ++ x ∷ []) ++ after
one_more-labels xs x start before inside after p q r =
    p ∙ ap (λ s. spelled_more_labels xs ++ s) (q ∙ ap (λ s. symbol_at symbol.Comma x.0 ∷ s) r)
    ∙ sym (append_assoc (spelled_more_labels xs) (symbol_at symbol.Comma x.0 ∷ spelled_constant x.1) after)
    ∙ ap (λ s. s ++ after) (sym (more_labels-push xs x))

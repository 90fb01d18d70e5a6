-- The words and the levels of arguments from those of their parts.
use Rattle.std.proofs.Common.{◌≡◌, ℕ, List, [], ◌∷◌, ◌++◌, sym, ap, ◌∙◌, append_assoc, subst}
use Rattle.pascal_tree.specs.Word.{Spot}
use Rattle.pascal_tree.specs.Expression.{Expr, Exprs, Arguments, arguments}
use Rattle.pascal_tree.specs.SpellExpression.{symbol_at, spelled_expr, spelled_exprs, spelled_arguments}
use Rattle.pascal_tree.specs.Limits.{ExprFits, ExprsFit, ArgumentsFit}
use Rattle.pascal_tree.specs.declared.token.Symbol.TheVariants as symbol

pub arguments_words : (o c : ℕ) (e : Expr) (more : Exprs) (x : Arguments) (m0 m1 m2 m3 : List Spot) → x ≡ arguments o e more c →
    m0 ≡ spelled_expr e ++ m1 → m1 ≡ spelled_exprs more ++ m2 → m2 ≡ symbol_at symbol.Close c ∷ m3 → symbol_at symbol.Open o ∷ m0 ≡ spelled_arguments x ++ m3
arguments_words o c e more x m0 m1 m2 m3 is p q r =
    let close_at : Spot = symbol_at symbol.Close c in
    ap (λ u. symbol_at symbol.Open o ∷ u)
    (p ∙ ap (λ u. spelled_expr e ++ u) (q ∙ ap (λ u. spelled_exprs more ++ u) r ∙ sym (append_assoc (spelled_exprs more) (close_at ∷ []) m3))
    ∙ sym (append_assoc (spelled_expr e) (spelled_exprs more ++ close_at ∷ []) m3))
    ∙ ap (λ y. spelled_arguments y ++ m3) (sym is)

pub arguments_fit : (o c n : ℕ) (e : Expr) (more : Exprs) (x : Arguments) → x ≡ arguments o e more c → ExprFits e n → ExprsFit more n → ArgumentsFit x n
arguments_fit o c n e more x is f g = subst (λ y. ArgumentsFit y n) (sym is) (f, g)

use Rattle.std.proofs.Common.{◌≡◌, ◌++◌, sym, ap, ◌∙◌, rules}
use Rattle.pascal_tree.proofs.Joined.{joined4}
use Rattle.pascal_tree.specs.Expression.{arguments}
use Rattle.pascal_tree.specs.SeenExpression.{seen_arguments, seen_expr, seen_exprs}
use Rattle.pascal_tree.specs.SpellExpression.{spelled_arguments}
use Rattle.pascal_tree.specs.declared.expression.Arguments.{out-Arguments, the_lemmas}
use Rattle.pascal_tree.proofs.spell_expression.+spell_expression.Goals as goal

pub spell_arguments-returns : goal.spell_arguments-returns
spell_arguments-returns t c =
    let a = out-Arguments c.args.arguments.now in
    let made : seen_arguments c.args.arguments.now ≡ arguments a.opening (seen_expr a.first) (seen_exprs c.deref.result.now) a.closing = search (rules, the_lemmas) in
    rw (c.in_ok-push_symbol-2.ensures, c.in_ok-spell_exprs.ensures, c.in_ok-spell_expr.ensures, c.in_ok-push_symbol.ensures)
    (joined4 _ _ _ _ _ ∙ ap (λ words. c.args.out.now.items ++ words) (ap spelled_arguments (sym made)))

use Rattle.std.proofs.Common.{◌≡◌, ◌-◌, ◌++◌, length, take, drop, sym, ap, ◌∙◌, rules}
use Rattle.pascal_tree.specs.Expression.{simple, arguments}
use Rattle.pascal_tree.specs.SeenExpression.{seen_expr, seen_simple, seen_term, seen_addends, seen_arguments, seen_exprs}
use Rattle.pascal_tree.specs.declared.expression.Simple.{out-Simple, the_lemmas}
use Rattle.pascal_tree.specs.declared.expression.Arguments.{out-Arguments}
use Rattle.pascal_code.specs.Expressions.{simple_code, term_code, sign_code, addends_code}
use Rattle.pascal_compile.specs.Seen.{seen_sense}
use Rattle.pascal_compile.specs.SeenSite.{seen_site}
use Rattle.pascal_compile.proofs.Joined.{joined3}
use Rattle.pascal_compile.proofs.PassedOn.{whole_list, first_passed}
use Rattle.pascal_compile.proofs.expressions.+expression.Goals as goal

pub simple-returns : goal.simple-returns
simple-returns t c =
    let s = out-Simple c.args.s.now in
    let made : seen_simple c.args.s.now ≡ simple s.sign (seen_term s.first) (seen_addends c.deref.result.now) = search (rules, the_lemmas) in
    rw (c.in_ok-addends.ensures, c.in_ok-sign.ensures, c.in_ok-term.ensures)
    (joined3 c.args.code.now (term_code (seen_site c.args.site.now) (seen_term s.first)) (sign_code s.sign)
    (addends_code (seen_site c.args.site.now) (seen_addends c.deref.result.now))
    ∙ ap (λ code. c.args.code.now ++ code) (ap (simple_code (seen_site c.args.site.now)) (sym made)))

pub arguments-returns : goal.arguments-returns
arguments-returns t c =
    let a = out-Arguments c.args.list.now in
    let ways = c.args.passing.now in
    let made : seen_arguments c.args.list.now ≡ arguments a.opening (seen_expr a.first) (seen_exprs c.deref.result.now) a.closing
    = search (rules, the_lemmas) in
    first_passed (seen_site c.args.site.now) (seen_sense c.args.callee) ways _ (take (length ways - 1) (drop 1 ways))
    a.opening (seen_expr a.first) (seen_exprs c.deref.result.now) a.closing (seen_arguments c.args.list.now) c.args.code.now _ _
    made (whole_list ways _ c.in-len1-up.len_at_least) c.in_ok-argument.ensures c.in_ok-more_arguments.ensures

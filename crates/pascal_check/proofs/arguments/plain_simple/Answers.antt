use Rattle.std.proofs.Common.{◌≡◌, None, sym, ap, ◌∙◌, rules}
use Rattle.pascal_tree.specs.Expression.{alone, simple}
use Rattle.pascal_tree.specs.SeenExpression.{seen_simple, seen_term, seen_addends}
use Rattle.pascal_tree.specs.ExpressionRules.{plain_name}
use Rattle.pascal_tree.specs.declared.expression.Simple.{out-Simple, the_lemmas}
use Rattle.pascal_check.proofs.Expressed.{more_terms_seen}
use Rattle.pascal_check.proofs.arguments.plain_simple.Goals as goal

pub returns-in-len1-up : goal.returns-in-len1-up
returns-in-len1-up c =
    let first = seen_term (out-Simple c.args.simple.now).first in
    let items = c.as_slice.result.now in
    let made : seen_simple c.args.simple.now ≡ simple None first (seen_addends items) = search (rules, the_lemmas) in
    sym (ap (λ x. plain_name (alone x)) made ∙ more_terms_seen first items c.in-len1-up.len_at_least)

use Rattle.std.proofs.Common.{◌≡◌, None, sym, ap, ◌∙◌, rules}
use Rattle.pascal_tree.specs.Expression.{alone, simple, term, no_addend}
use Rattle.pascal_tree.specs.SeenExpression.{seen_term, seen_factor, seen_multipliers}
use Rattle.pascal_tree.specs.ExpressionRules.{plain_name}
use Rattle.pascal_tree.specs.declared.expression.Term.{out-Term, the_lemmas}
use Rattle.pascal_check.proofs.Expressed.{more_factors_seen}
use Rattle.pascal_check.proofs.arguments.plain_term.Goals as goal

pub returns-in-len1-up : goal.returns-in-len1-up
returns-in-len1-up c =
    let first = seen_factor (out-Term c.args.term.now).first in
    let items = c.as_slice.result.now in
    let made : seen_term c.args.term.now ≡ term first (seen_multipliers items) = search (rules, the_lemmas) in
    sym (ap (λ x. plain_name (alone (simple None x no_addend))) made ∙ more_factors_seen first items c.in-len1-up.len_at_least)

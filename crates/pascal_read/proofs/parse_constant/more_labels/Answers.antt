use Rattle.std.proofs.Common.{◌≡◌, ◌∷◌, ap, ◌∙◌, rules}
use Rattle.pascal_tree.specs.SpellExpression.{symbol_at}
use Rattle.pascal_tree.specs.declared.token.Symbol.TheVariants as symbol
use Rattle.pascal_read.specs.ParseWants.{report}
use Rattle.pascal_read.specs.ParseWants as want
use Rattle.pascal_read.proofs.ParseStatementRows.{label_goes}
use Rattle.pascal_read.proofs.ParseStatementLists.{one_more-labels}
use Rattle.pascal_read.proofs.parse_constant.more_labels.Goals as goal

pub loop-line-preserved : goal.loop-line-preserved
loop-line-preserved c =
    let l = c.loop-line in
    let line = c.in-Some.line in
    let inside = c.take_symbol.new.self in
    let taken : l.reader ≡ symbol_at symbol.Comma line ∷ inside = search rules in (
      rw c.in_ok-push.ensures.items (one_more-labels l.rest.items (line, c.in_ok-label.label) _ _ inside _ l.invariant.0 taken c.in_ok-label.ensures.words),
      λ y more. l.invariant.1 y more ∙ ap (λ ts. report ts (want.more_labels ∷ (y ∷ more))) taken ∙ label_goes line inside (y ∷ more) ∙ c.in_ok-label.ensures.goes want.more_labels (y ∷ more),
    )

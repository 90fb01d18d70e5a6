use Rattle.std.proofs.Common.{◌≡◌, ◌∷◌, ap, ◌∙◌, rules}
use Rattle.pascal_tree.specs.SpellExpression.{symbol_at}
use Rattle.pascal_tree.specs.declared.token.Symbol.TheVariants as symbol
use Rattle.pascal_read.specs.ParseWants.{Want, mark, report}
use Rattle.pascal_read.specs.ParseWants as want
use Rattle.pascal_read.proofs.ParseDeclarationRows.{more_parameters_goes}
use Rattle.pascal_read.proofs.ParseDeclarationLists.{one_more-parameter_groups}
use Rattle.pascal_read.proofs.parse_declaration.more_parameters.Goals as goal

pub loop-line-preserved : goal.loop-line-preserved
loop-line-preserved c =
    let l = c.loop-line in
    let inside = c.take_symbol.new.self in
    let taken : l.reader ≡ symbol_at symbol.Semicolon c.in-Some.line ∷ inside = search rules in (
      rw c.in_ok-push.ensures.items (one_more-parameter_groups l.rest.items (c.in-Some.line, c.in_ok-group.group) _ _ _ l.invariant.0 (taken ∙ ap (λ s. symbol_at symbol.Semicolon c.in-Some.line ∷ s) c.in_ok-group.ensures.words)),
      λ y more. l.invariant.1 y more ∙ ap (λ ts. report ts (want.more_parameters ∷ (y ∷ more))) taken ∙ more_parameters_goes c.in-Some.line inside (y ∷ more) ∙ c.in_ok-group.ensures.goes want.more_parameters (y ∷ more),
    )

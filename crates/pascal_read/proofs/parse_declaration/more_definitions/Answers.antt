use Rattle.std.proofs.Common.{◌≡◌, ◌∷◌, ap, ◌∙◌, rules}
use Rattle.pascal_tree.specs.SpellExpression.{name_at}
use Rattle.pascal_read.specs.ParseWants.{Want, mark, report}
use Rattle.pascal_read.specs.ParseWants as want
use Rattle.pascal_read.proofs.ParseDeclarationRows.{more_definitions_goes}
use Rattle.pascal_read.proofs.ParseDeclarationLists.{one_more-definitions}
use Rattle.pascal_read.proofs.parse_declaration.more_definitions.Goals as goal

pub loop-name-preserved : goal.loop-name-preserved
loop-name-preserved c =
    let l = c.loop-name in
    let inside = c.take_name.new.self in
    let taken : l.reader ≡ name_at c.in-Some.name ∷ inside = search rules in (
      rw c.in_ok-push.ensures.items (one_more-definitions l.rest.items c.in_ok-definition.definition _ _ _ l.invariant.0 (taken ∙ c.in_ok-definition.ensures.words)),
      λ y more. l.invariant.1 y more ∙ ap (λ ts. report ts (want.more_definitions ∷ (y ∷ more))) taken ∙ more_definitions_goes c.in-Some.name inside (y ∷ more) ∙ c.in_ok-definition.ensures.goes want.more_definitions (y ∷ more),
    )

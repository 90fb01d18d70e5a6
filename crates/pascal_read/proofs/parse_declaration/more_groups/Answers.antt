use Rattle.std.proofs.Common.{◌≡◌, ◌∷◌, ap, ◌∙◌, rules}
use Rattle.pascal_tree.specs.SpellExpression.{name_at}
use Rattle.pascal_read.specs.ParseWants.{Want, mark, report}
use Rattle.pascal_read.specs.ParseWants as want
use Rattle.pascal_read.proofs.ParseDeclarationRows.{more_groups_goes}
use Rattle.pascal_read.proofs.ParseDeclarationLists.{one_more-groups}
use Rattle.pascal_read.proofs.parse_declaration.more_groups.Goals as goal

pub loop-name-preserved : goal.loop-name-preserved
loop-name-preserved c =
    let l = c.loop-name in
    let inside = c.take_name.new.self in
    let taken : l.reader ≡ name_at c.in-Some.name ∷ inside = search rules in (
      rw c.in_ok-push.ensures.items (one_more-groups l.rest.items c.in_ok-group.group _ _ _ l.invariant.0 (taken ∙ c.in_ok-group.ensures.words)),
      λ y more. l.invariant.1 y more ∙ ap (λ ts. report ts (want.more_groups ∷ (y ∷ more))) taken ∙ more_groups_goes c.in-Some.name inside (y ∷ more) ∙ c.in_ok-group.ensures.goes want.more_groups (y ∷ more),
    )

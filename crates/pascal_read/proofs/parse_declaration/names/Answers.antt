use Rattle.std.proofs.Common.{◌∷◌, ◌∙◌}
use Rattle.pascal_read.proofs.ParseDeclarationLists.{one_more-more_names}
use Rattle.pascal_read.proofs.parse_declaration.names.Goals as goal

pub loop-rest-preserved : goal.loop-rest-preserved
loop-rest-preserved c =
    let l = c.loop-rest in
    let words = rw c.in-Some.is at c.in_ok-name.ensures.words in
    let goes = rw c.in-Some.is at c.in_ok-name.ensures.goes in (
      rw c.in_ok-push.ensures.items (one_more-more_names l.rest.items c.in-Some.name _ _ _ l.invariant.0 words),
      λ y more. l.invariant.1 y more ∙ goes (y ∷ more),
    )

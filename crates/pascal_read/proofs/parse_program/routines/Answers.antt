use Rattle.std.proofs.Common.{◌∷◌, ◌∙◌}
use Rattle.pascal_read.proofs.ParseDeclarationLists.{one_more-routines, RoutinesFit-push}
use Rattle.pascal_read.proofs.parse_program.routines.Goals as goal

pub loop-routines-preserved : goal.loop-routines-preserved
loop-routines-preserved c =
    let l = c.loop-routines in
    let words = rw c.in-Some.is at c.in_ok-routine.ensures.words in
    let fits = rw c.in-Some.is at c.in_ok-routine.ensures.fits in
    let goes = rw c.in-Some.is at c.in_ok-routine.ensures.goes in (
      rw c.in_ok-push.ensures.items (one_more-routines l.routines.items c.in-Some.routine _ _ _ l.invariant.0 words),
      rw c.in_ok-push.ensures.items (RoutinesFit-push l.routines.items c.in-Some.routine l.invariant.1 fits),
      λ y more. l.invariant.2 y more ∙ goes (y ∷ more),
    )

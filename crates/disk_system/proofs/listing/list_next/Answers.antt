use Rattle.std.proofs.Common.{◌∙◌, ap, refl, inl}
use Rattle.disk_system.proofs.Stores.{on_done}
use Rattle.disk_system.proofs.listing.list_next.Goals as goal

pub returns-in-Some-clause-line : goal.returns-in-Some-clause-line
returns-in-Some-clause-line g c = λ pages told.
    let next = c.in-Some.ensures.next pages told in
    let told_still = ap (λ f. g.A.Area.pages f.area) c.in-Some.ensures.left ∙ told in
    on_done c.list_file.result _ _ (λ e. inl (c.in-Some.name, next.0.0, next, next.0.1, refl, e))
    (c.list_file.ensures.line pages next.0.0 told_still next.0.1)

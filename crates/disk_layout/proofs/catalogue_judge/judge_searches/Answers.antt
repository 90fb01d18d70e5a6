use Rattle.std.proofs.Common.{◌+◌, ◌∙◌, ap, sym, subst}
use Rattle.std.proofs.lemmas.Bool.{false≢true, eqb-true, eq-eqb}
use Rattle.disk_layout.specs.Judging.{JudgedBelow, SearchesAreRight}
use Rattle.disk_layout.proofs.LeastBad.{judged_over}
use Rattle.disk_layout.proofs.JudgedEntries.{counted}
use Rattle.disk_layout.proofs.catalogue_judge.judge_searches.Goals as goal

pub loop-place-preserved : goal.loop-place-preserved
loop-place-preserved c = λ d read.
    let count = counted d c.loop-place.place c.args.entries.now c.count_key.result c.requires read c.count_key.ensures in
    let searches = ap (λ e. e.searches) (read c.loop-place.place c.loop-place-test.true) in
    subst (JudgedBelow (SearchesAreRight d) (c.loop-place.place + 1)) (sym c.note_bad.ensures)
    (judged_over (SearchesAreRight d) c.loop-place.place c.loop-place.bad _
    (λ _ e. sym searches ∙ eqb-true _ _ e ∙ count)
    (λ _ e right. false≢true (sym e ∙ eq-eqb _ _ (searches ∙ right ∙ sym count)))
    (c.loop-place.invariant d read))

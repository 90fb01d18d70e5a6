use Rattle.std.proofs.Common.{◌∙◌, subst, sym}
use Rattle.disk_layout.specs.Format.{IsAddress}
use Rattle.disk_files.proofs.Deletes.{none_given_back, one_given_back}
use Rattle.disk_files.proofs.delete.free_numbers.Goals as goal

pub loop-j-init : goal.loop-j-init
loop-j-init c = λ all. none_given_back _ _

pub loop-j-preserved : goal.loop-j-preserved
loop-j-preserved c = λ all.
    let is = c.file_page.ensures.same (subst IsAddress (sym c.number.ensures) (all c.loop-j.j c.loop-j-test.true)) ∙ c.number.ensures in
    c.free_page.ensures ∙ one_given_back _ _ _ c.loop-j.j _ (c.loop-j.invariant all) is

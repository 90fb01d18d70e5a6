use Rattle.std.proofs.Common.{◌∙◌, ap, subst, sym}
use Rattle.std.specs.FinSet as set
use Rattle.disk_layout.specs.Format.{IsAddress}
use Rattle.disk_files.proofs.Deletes.{number_is, numbers_given_back}
use Rattle.disk_files.proofs.delete.free_part.Goals as goal

pub returns-clause-freed : goal.returns-clause-freed
returns-clause-freed g c = λ pages told all.
    let bytes = c.in_ok-read.ensures.page pages told in
    c.free_page.ensures
    ∙ ap (λ s. set.remove s c.args.part)
    (c.free_numbers.ensures (λ j below. subst IsAddress (sym (number_is pages c.args.part j _ bytes)) (all j below))
    ∙ numbers_given_back pages c.args.part c.args.count _ _ bytes)

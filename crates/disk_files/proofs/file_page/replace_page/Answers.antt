use Rattle.std.proofs.Common.{◌∙◌, Some, ap}
use Rattle.std.specs.Prelude.{slice_set}
use Rattle.disk_files.proofs.Numbers.{answers_ok, on_ok, range_fails}
use Rattle.disk_files.proofs.file_page.replace_page.Goals as goal

pub returns-in-Err-clause-answer : goal.returns-in-Err-clause-answer
returns-in-Err-clause-answer g c = λ pages told has. range_fails _ _ (c.in-Err.ensures.answer pages told has)

pub returns-in-Ok-clause-answer : goal.returns-in-Ok-clause-answer
returns-in-Ok-clause-answer g c = λ pages told has. answers_ok _ _ c.write.ensures.fault (c.in-Ok.ensures.answer pages told has).0

pub returns-in-Ok-clause-wrote : goal.returns-in-Ok-clause-wrote
returns-in-Ok-clause-wrote g c = λ pages told has.
    let found = c.in-Ok.ensures.answer pages told has in
    on_ok c.write.result _ _ (λ now. (
      found.1,
      now
          ∙ ap (λ f. Some (slice_set pages f c.args.page.now.0)) found.2,
    )) (c.write.ensures.page pages (c.in-Ok.ensures.left ∙ told))

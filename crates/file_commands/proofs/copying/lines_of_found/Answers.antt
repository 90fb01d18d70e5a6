use Rattle.std.proofs.Common.{refl, sym, ◌∙◌, ap}
use Rattle.file_commands.proofs.Copies.{file-kind}
use Rattle.file_commands.proofs.copying.lines_of_found.Goals as goal

pub returns-in-Ok-clause-told : goal.returns-in-Ok-clause-told
returns-in-Ok-clause-told g c = λ pages file told here is.
    (file, refl, sym (file-kind file c.args.info is) ∙ c.in-Ascii.is, c.in-Ok.ensures.lines pages file told here (ap (λ i. i.pages) is))

use Rattle.std.proofs.Common.{◌∙◌}
use Rattle.file_commands.proofs.Changes.{listed}
use Rattle.file_commands.proofs.catalogue.list.Goals as goal

pub returns-in-Ok-clause-told : goal.returns-in-Ok-clause-told
returns-in-Ok-clause-told g c = λ pages told.
    listed pages c.in-Ok.lines c.with_count.result (g.A.Area.pages c.list.new.files.area) (c.in-Ok.ensures.lines pages told) c.with_count.ensures
    (c.list.ensures.left ∙ told)

use Rattle.std.proofs.Common.{◌+◌, length, sym}
use Rattle.disk_layout.specs.Files.{files, free_count}
use Rattle.disk_layout.specs.Deleting.{pages_held}
use Rattle.file_commands.proofs.Changes.{deleted}
use Rattle.file_commands.proofs.catalogue.delete.Goals as goal

pub returns-clause-told : goal.returns-clause-told
returns-clause-told g c = λ pages told.
    rw c.answered.ensures (deleted c.args.name.now pages (λ file. free_count pages + pages_held (length file.pages)) c.delete.result
    (g.A.Area.pages c.delete.new.self.area) (c.delete.ensures.answer pages told) (λ file here. c.delete.ensures.file pages file told here)
    (rw (sym told) c.delete.ensures.refused))

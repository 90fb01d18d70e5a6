use Rattle.std.proofs.Common.{sym}
use Rattle.disk_layout.specs.Files.{free_count}
use Rattle.file_commands.proofs.Changes.{renamed-so}
use Rattle.file_commands.proofs.catalogue.rename.Goals as goal

pub returns-clause-told : goal.returns-clause-told
returns-clause-told g c = λ pages told.
    rw c.answered.ensures (renamed-so c.args.old.now c.args.new.now pages (free_count pages) c.rename.result
    (g.A.Area.pages c.rename.new.self.area) (c.rename.ensures.answer pages told) (λ file here. c.rename.ensures.file pages file told here)
    (rw (sym told) c.rename.ensures.refused))

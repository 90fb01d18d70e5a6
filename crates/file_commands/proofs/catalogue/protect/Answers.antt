use Rattle.std.proofs.Common.{sym}
use Rattle.disk_layout.specs.Files.{free_count}
use Rattle.file_commands.proofs.Changes.{protected-so}
use Rattle.file_commands.proofs.catalogue.protect.Goals as goal

pub returns-clause-told : goal.returns-clause-told
returns-clause-told g c = λ pages told.
    rw c.answered.ensures (protected-so c.args.name.now c.args.on pages (free_count pages) c.protect.result
    (g.A.Area.pages c.protect.new.self.area) (c.protect.ensures.answer pages told) (λ file here. c.protect.ensures.file pages file told here)
    (rw (sym told) c.protect.ensures.refused))

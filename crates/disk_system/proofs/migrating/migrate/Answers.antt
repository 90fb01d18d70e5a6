use Rattle.std.proofs.Common.{◌∙◌, sym}
use Rattle.disk_layout.proofs.Written.{number_in}
use Rattle.disk_system.proofs.migrating.migrate.Goals as goal

pub returns-in-Ok-clause-newer : goal.returns-in-Ok-clause-newer
returns-in-Ok-clause-newer g c = λ pages told newer.
    let read = c.in-Ok.ensures.page pages told in
    c.migrate_by.ensures.newer pages (c.read.ensures.left ∙ told) (c.number.ensures ∙ sym (number_in pages 0 4 c.read.new.page.0 (sym read)) ∙ newer)

pub returns-in-Ok-clause-older : goal.returns-in-Ok-clause-older
returns-in-Ok-clause-older g c = λ pages told older.
    let read = c.in-Ok.ensures.page pages told in
    c.migrate_by.ensures.older pages (c.read.ensures.left ∙ told)
    (λ is. older (number_in pages 0 4 c.read.new.page.0 (sym read) ∙ sym c.number.ensures ∙ is))

use Rattle.std.proofs.Common.{◌∙◌}
use Rattle.disk_layout.proofs.EntryBytes.{entry_put}
use Rattle.disk_files.proofs.Numbers.{on_ok}
use Rattle.disk_files.proofs.write_entry.write_entry.Goals as goal

pub returns-clause-wrote : goal.returns-clause-wrote
returns-clause-wrote g c = λ pages told size.
    on_ok c.write-2.result _ _
    (λ now. (_, now, entry_put pages c.args.place c.args.entry.now _ _ size c.requires.place (c.in_ok-read.ensures.page pages told) c.write.ensures))
    (c.write-2.ensures.page pages (c.in_ok-read.ensures.left ∙ told))

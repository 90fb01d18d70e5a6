use Rattle.std.proofs.Common.{◌∙◌}
use Rattle.disk_layout.proofs.SoloDisk.{laid_out_breaks_nothing}
use Rattle.disk_files.proofs.Creates.{names_counted}
use Rattle.disk_system.proofs.migrating.judge_newer.Goals as goal

pub returns-in-Ok-clause-judged : goal.returns-in-Ok-clause-judged
returns-in-Ok-clause-judged g c = λ pages told.
    let laid = c.in-Ok.ensures.judged pages told in
    (laid_out_breaks_nothing _ _ pages laid, c.count_names.ensures.count ∙ names_counted _ _ pages laid)

use Rattle.disk_files.proofs.Numbers.{on_ok}
use Rattle.disk_layout.proofs.Written.{saves_map}
use Rattle.disk_files.proofs.append.save_map.Goals as goal

pub returns-clause-saved : goal.returns-clause-saved
returns-clause-saved g c = λ pages told size.
    on_ok c.write-2.result _ _
    (λ now. (_, now, saves_map pages c.to_pages.result.0 c.to_pages.result.1 c.args.map.now size c.to_pages.ensures.bits c.to_pages.ensures.format))
    (c.write-2.ensures.page _ (c.in_ok-write.ensures.page pages told))

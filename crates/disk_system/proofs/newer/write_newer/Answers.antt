use Rattle.std.proofs.Common.{◌∙◌, subst, set, length-set}
use Rattle.disk_layout.specs.Appending.{SavesMap}
use Rattle.disk_system.proofs.NewerWritten.{migrates}
use Rattle.disk_system.proofs.Stores.{on_done}
use Rattle.disk_system.proofs.newer.write_newer.Goals as goal

pub returns-clause-newer : goal.returns-clause-newer
returns-clause-newer g c = λ pages told older read.
    let moved = c.in_ok-add_files.ensures.moved pages told older read in
    let first = c.in_ok-write.ensures.page moved.0 moved.1 in
    on_done c.save_map.result _ _
    (λ saved. (
      saved.0,
      saved.1,
      migrates pages moved.0 saved.0 c.add_files.new.map older.solo older.as_many moved.2
          (subst (λ first. SavesMap (set moved.0 0 first) saved.0 c.add_files.new.map) c.label.ensures saved.2),
    ))
    (c.save_map.ensures.saved _ first (length-set moved.0 0 c.label.result.0 ∙ moved.2.as_many ∙ older.as_many))

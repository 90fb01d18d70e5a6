use Rattle.std.proofs.Common.{◌∙◌, sym, subst}
use Rattle.disk_layout.specs.Disk.{disk_of}
use Rattle.disk_layout.specs.Judging.{IndexKeeps, PartKeeps, JudgedBelow}
use Rattle.disk_layout.proofs.LeastBad.{judged_both}
use Rattle.disk_files.proofs.judge_area.judge_files.Goals as goal

pub returns-clause-judged : goal.returns-clause-judged
returns-clause-judged g c = λ pages told begun.
    let indexes = c.in_ok-bad_index.ensures.judged pages told begun in
    let parts = c.in_ok-bad_part.ensures.judged pages (c.in_ok-bad_index.ensures.left ∙ told) indexes.0 in (
      parts.0,
      subst (JudgedBelow (λ n. IndexKeeps (disk_of pages) n × PartKeeps (disk_of pages) n) 4288) (sym c.earlier.ensures)
          (judged_both (IndexKeeps (disk_of pages)) (PartKeeps (disk_of pages)) 4288 _ _ indexes.1 parts.1),
    )

use Rattle.std.proofs.Common.{◌≡◌, ◌+◌, ◌*◌, ◌∙◌, subst, arith}
use Rattle.disk_layout.specs.Disk.{disk_of}
use Rattle.disk_layout.specs.Judging.{EntriesRead, EntryStands, JudgedBelow, KeptBelow}
use Rattle.disk_files.proofs.Kept.{faults_then}
use Rattle.disk_files.proofs.mount.read_catalogue.Goals as goal

pub loop-n-preserved : goal.loop-n-preserved
loop-n-preserved g c =
    let next : 16 * c.loop-n.n + 16 ≡ 16 * (c.loop-n.n + 1) = omega arith in
    record {
      size = c.read_entries.ensures.size ∙ c.loop-n.invariant.size;
      left = c.read_entries.ensures.left ∙ c.loop-n.invariant.left;
      faults = faults_then _ _ _ _ _ c.loop-n.invariant.faults c.in_ok-read_entries.ensures.cause;
      judged = λ pages told.
          let before = c.loop-n.invariant.judged pages told in
          subst (λ p. EntriesRead (disk_of pages) p c.read_entries.new.entries × JudgedBelow (EntryStands (disk_of pages)) p c.read_entries.new.bad) next
          (c.in_ok-read_entries.ensures.judged pages (c.loop-n.invariant.left ∙ told) before.0 before.1);
      kept = subst (λ p. KeptBelow p c.read_entries.new.entries c.read_entries.new.bad) next (c.in_ok-read_entries.ensures.kept c.loop-n.invariant.kept);
    }

use Rattle.std.proofs.Common.{refl, arith}
use Rattle.disk_layout.specs.Disk.{disk_of}
use Rattle.disk_layout.proofs.JudgedFiles.{parts_begin}
use Rattle.disk_files.proofs.Kept.{no_faults}
use Rattle.disk_files.proofs.judge_area.judge_parts.Goals as goal

pub loop-n-init : goal.loop-n-init
loop-n-init g c = record {
  size = c.requires.size;
  left = refl;
  faults = no_faults _ tt;
  judged = λ pages told r. (parts_begin (disk_of pages) c.args.roles.now r, λ k below. absurd (omega (arith, below)));
}

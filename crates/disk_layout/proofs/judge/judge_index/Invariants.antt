use Rattle.std.proofs.Common.{ℕ}
use Rattle.disk_layout.specs.Disk.{Disk}
use Rattle.disk_layout.specs.Format.{IsIndexPage}
use Rattle.disk_layout.specs.Judging.{HasNumbers, Roles}
use Rattle.disk_layout.proofs.Judged.{SoFar}
use Rattle.disk_layout.proofs.judge.judge_index.Given as goal

abbrev pub invariant-loop-k : goal.invariant-loop-k
invariant-loop-k l = (d : Disk) (i : ℕ) → IsIndexPage d i → HasNumbers d i l.page.0 → Roles d i 0 l.initial.roles → SoFar d i l.k l.roles l.right

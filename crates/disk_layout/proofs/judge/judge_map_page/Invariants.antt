use Rattle.std.proofs.Common.{ℕ}
use Rattle.disk_layout.specs.Disk.{Disk}
use Rattle.disk_layout.specs.Format.{IsIndexPage}
use Rattle.disk_layout.specs.Judging.{HasNumbers, MapRoles}
use Rattle.disk_layout.proofs.JudgedMaps.{MapSoFar}
use Rattle.disk_layout.proofs.judge.judge_map_page.Given as goal

abbrev pub invariant-loop-j : goal.invariant-loop-j
invariant-loop-j l = (d : Disk) (i : ℕ) → IsIndexPage d i → HasNumbers d i l.page.0 → MapRoles d i 0 l.initial.roles → MapSoFar d i l.j l.roles l.right

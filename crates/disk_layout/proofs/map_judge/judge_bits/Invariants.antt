use Rattle.std.proofs.Common.{◌≡◌, ◌<◌, ℕ}
use Rattle.disk_pages.specs.Bits.{is_marked}
use Rattle.disk_layout.specs.Disk.{Disk}
use Rattle.disk_layout.specs.Format.{MarkIsRight}
use Rattle.disk_layout.specs.Format1.{Mark1IsRight}
use Rattle.disk_layout.specs.Judging.{FileRoles, JudgedBelow, MapRoles}
use Rattle.disk_layout.proofs.map_judge.judge_bits.Given as goal

abbrev pub invariant-loop-n : goal.invariant-loop-n
invariant-loop-n l = record {
  newer : (d : Disk) → ((n : ℕ) → n < 4288 → d.marked n ≡ is_marked l.low l.high n) → FileRoles d 4288 0 l.roles → JudgedBelow (MarkIsRight d) l.n l.bad;
  older : (d : Disk) → ((n : ℕ) → n < 4288 → d.marked n ≡ is_marked l.low l.high n) → MapRoles d 4288 0 l.roles → JudgedBelow (Mark1IsRight d) l.n l.bad;
}

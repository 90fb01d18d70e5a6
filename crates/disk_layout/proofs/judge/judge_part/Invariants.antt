use Rattle.std.proofs.Common.{◌≡◌, ℕ}
use Rattle.disk_layout.specs.Disk.{Disk}
use Rattle.disk_layout.specs.Format.{IsPartPage, IsFirstUse, file_length, count_in_part}
use Rattle.disk_layout.specs.Judging.{HasNumbers, FileRoles}
use Rattle.disk_layout.proofs.JudgedParts.{SoFarPart}
use Rattle.disk_layout.proofs.judge.judge_part.Given as goal

abbrev pub invariant-loop-j : goal.invariant-loop-j
invariant-loop-j l =
    (d : Disk) (q by place : ℕ) → IsPartPage d q → IsFirstUse d q by place → l.count ≡ count_in_part (file_length d by) place → HasNumbers d q l.page.0
    → FileRoles d q 0 l.initial.roles → SoFarPart d q l.count l.j l.roles l.right

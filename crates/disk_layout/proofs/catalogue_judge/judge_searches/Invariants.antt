use Rattle.disk_layout.specs.Disk.{Disk}
use Rattle.disk_layout.specs.Judging.{EntriesRead, JudgedBelow, SearchesAreRight}
use Rattle.disk_layout.proofs.catalogue_judge.judge_searches.Given as goal

abbrev pub invariant-loop-place : goal.invariant-loop-place
invariant-loop-place l = (d : Disk) → EntriesRead d 240 l.entries → JudgedBelow (SearchesAreRight d) l.place l.bad

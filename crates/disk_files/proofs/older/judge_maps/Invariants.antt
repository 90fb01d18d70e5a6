use Rattle.std.proofs.Common.{◌≡◌, ℕ, List, Some, Ok}
use Rattle.disk_layout.specs.Disk.{disk_of}
use Rattle.disk_layout.specs.Judging.{JudgedBelow, MapKeeps, MapRoles}
use Rattle.disk_files.specs.Answers.{FaultsOnly}
use Rattle.disk_files.proofs.older.judge_maps.Given as goal

abbrev pub invariant-loop-n : goal.invariant-loop-n
invariant-loop-n g l = record {
  size : g.A.Area.size l.area ≡ 4288;
  left : g.A.Area.pages l.area ≡ g.A.Area.pages l.initial.area;
  faults : FaultsOnly {T = Unit {0}} (g.A.Area.faults l.initial.area) (g.A.Area.faults l.area) (Ok tt);
  judged : (pages : List (List ℕ)) → g.A.Area.pages l.initial.area ≡ Some pages → MapRoles (disk_of pages) 0 0 l.initial.roles
      → MapRoles (disk_of pages) l.n 0 l.roles × JudgedBelow (MapKeeps (disk_of pages)) l.n l.bad;
}

use Rattle.std.proofs.Common.{◌≡◌, ℕ, List, Some, Ok}
use Rattle.disk_layout.specs.Disk.{disk_of}
use Rattle.disk_layout.specs.Files.{HasPages}
use Rattle.disk_layout.specs.Deleting.{without_parts}
use Rattle.disk_files.specs.Answers.{FaultsOnly}
use Rattle.disk_files.proofs.delete.free_file.Given as goal

abbrev pub invariant-loop-part : goal.invariant-loop-part
invariant-loop-part g l = record {
  size : g.A.Area.size l.area ≡ 4288;
  left : g.A.Area.pages l.area ≡ g.A.Area.pages l.initial.area;
  faults : FaultsOnly {T = Unit {0}} (g.A.Area.faults l.initial.area) (g.A.Area.faults l.area) (Ok tt);
  freed : (pages : List (List ℕ)) → g.A.Area.pages l.initial.area ≡ Some pages → HasPages pages l.index
      → l.map ≡ without_parts l.initial.map (disk_of pages) l.index l.part;
}

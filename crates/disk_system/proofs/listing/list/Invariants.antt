use Rattle.std.proofs.Common.{◌≡◌, ℕ, List, Some, Ok}
use Rattle.disk_layout.specs.Files.{files as file_map}
use Rattle.disk_files.specs.Answers.{FaultsOnly, after_reading}
use Rattle.disk_system.proofs.InOrder.{ListedTo}
use Rattle.disk_system.proofs.listing.list.Given as goal

abbrev pub invariant-loop-n : goal.invariant-loop-n
invariant-loop-n g l = record {
  after : l.files ≡ after_reading {T = Unit {0}} l.initial.files l.files.area (Ok tt);
  left : g.A.Area.pages l.files.area ≡ g.A.Area.pages l.initial.files.area;
  faults : FaultsOnly {T = Unit {0}} (g.A.Area.faults l.initial.files.area) (g.A.Area.faults l.files.area) (Ok tt);
  listed : (pages : List (List ℕ)) → g.A.Area.pages l.initial.files.area ≡ Some pages
      → ListedTo (file_map pages) l.n l.last l.lines;
}

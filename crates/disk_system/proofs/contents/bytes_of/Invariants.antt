use Rattle.std.proofs.Common.{◌≡◌, ℕ, List, Some, Ok, length, take}
use Rattle.std.specs.List.{concat}
use Rattle.std.specs.FinMap as fin
use Rattle.disk_layout.specs.Files.{File, files as file_map}
use Rattle.disk_files.specs.Answers.{FaultsOnly, after_reading}
use Rattle.disk_system.proofs.contents.bytes_of.Given as goal

abbrev pub invariant-loop-n : goal.invariant-loop-n
invariant-loop-n g l = record {
  after : l.files ≡ after_reading {T = Unit {0}} l.initial.files l.files.area (Ok tt);
  left : g.A.Area.pages l.files.area ≡ g.A.Area.pages l.initial.files.area;
  faults : FaultsOnly {T = Unit {0}} (g.A.Area.faults l.initial.files.area) (g.A.Area.faults l.files.area) (Ok tt);
  bytes : (told : List (List ℕ)) (file : File) → g.A.Area.pages l.initial.files.area ≡ Some told
      → fin.get (file_map told) l.name ≡ Some file → l.pages ≡ length file.pages
      → l.bytes.items ≡ concat (take l.n file.pages);
}

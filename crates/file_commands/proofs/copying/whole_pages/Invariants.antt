use Rattle.std.proofs.Common.{◌≡◌, ◌<◌, ℕ, List, [], Some, Ok, length, take, true}
use Rattle.std.specs.Prelude.{slice_index_or}
use Rattle.std.specs.List.{concat}
use Rattle.std.specs.FinMap as fin
use Rattle.disk_layout.specs.Files.{File, files as file_map}
use Rattle.disk_files.specs.Answers.{FaultsOnly}
use Rattle.file_commands.proofs.copying.whole_pages.Given as goal

abbrev pub invariant-loop-n : goal.invariant-loop-n
invariant-loop-n g l = record {
  sound : l.files.sound ≡ true;
  left : g.A.Area.pages l.files.area ≡ g.A.Area.pages l.initial.files.area;
  faults : FaultsOnly {T = Unit {0}} (g.A.Area.faults l.initial.files.area) (g.A.Area.faults l.files.area) (Ok tt);
  bytes : (told : List (List ℕ)) (file : File) → g.A.Area.pages l.initial.files.area ≡ Some told
      → fin.get (file_map told) l.name ≡ Some file → l.pages ≡ length file.pages
      → (l.bytes.items ≡ concat (take l.n file.pages)) × ((k : ℕ) → k < l.n → length (slice_index_or file.pages k []) ≡ 512);
}

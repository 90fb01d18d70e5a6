use Rattle.std.proofs.Common.{◌≡◌, ℕ, List, Some, Ok, length, take, true}
use Rattle.std.specs.List.{concat}
use Rattle.std.specs.FinMap as fin
use Rattle.disk_layout.specs.Files.{File, files as file_map}
use Rattle.disk_files.specs.Answers.{FaultsOnly}
use Rattle.file_commands.proofs.Reading.{HasRead}
use Rattle.file_commands.proofs.copying.lines_of_file.Given as goal

abbrev pub invariant-loop-place : goal.invariant-loop-place
invariant-loop-place g l = record {
  sound : l.files.sound ≡ true;
  left : g.A.Area.pages l.files.area ≡ g.A.Area.pages l.initial.files.area;
  faults : FaultsOnly {T = Unit {0}} (g.A.Area.faults l.initial.files.area) (g.A.Area.faults l.files.area) (Ok tt);
  read : (told : List (List ℕ)) (file : File) → g.A.Area.pages l.initial.files.area ≡ Some told
      → fin.get (file_map told) l.name ≡ Some file → l.pages ≡ length file.pages
      → HasRead (concat (take l.place file.pages)) l.text;
}

use Rattle.std.proofs.Common.{◌≡◌, ℕ, ◌+◌, ◌-◌, ◌≤◌, [], Ok, true, false}
use Rattle.std.specs.FinMap as fin
use Rattle.disk_layout.specs.Files.{File, Files}
use Rattle.disk_layout.specs.Format.{part_count}
use Rattle.disk_files.specs.Answers.{FaultsOnly, Holds, StandsOpen, Told}
use Rattle.disk_system.specs.Taken.{TakesPages}
use Rattle.disk_contents.specs.Contents.{cut}
use Rattle.disk_system.proofs.storing.append_pages.Given as goal

abbrev pub invariant-loop-k : goal.invariant-loop-k
invariant-loop-k g l = record {
  sound : l.files.sound ≡ true;
  stands : StandsOpen l.files.entries l.name;
  faults : FaultsOnly {T = Unit {0}} (g.A.Area.faults l.initial.files.area) (g.A.Area.faults l.files.area) (Ok tt);
  appended : (others : Files) (file : File) (unused : ℕ)
      → Holds (g.A.Area.pages l.initial.files.area) (fin.insert others l.name (record file { pages = [] })) unused
      → file.protected ≡ false → l.count ≤ 4000 → l.count + part_count l.count ≤ unused
      → Holds (g.A.Area.pages l.files.area) (fin.insert others l.name (record file { pages = cut l.bytes l.k }))
      (unused - (l.k + part_count l.k));
  taken : (others : Files) (file : File) (unused : ℕ)
      → (held : Holds (g.A.Area.pages l.initial.files.area) (fin.insert others l.name (record file { pages = [] })) unused)
      → file.protected ≡ false → l.count ≤ 4000 → l.count + part_count l.count ≤ unused
      → Told (g.A.Area.pages l.files.area) (λ now. TakesPages held.pages now l.name l.k);
}

use Rattle.std.proofs.Common.{◌≡◌, ℕ, ◌<◌, ◌≤◌, List, Some, Ok, length}
use Rattle.std.specs.Prelude.{slice_index, slice_index_or}
use Rattle.disk_layout.specs.Disk.{entry_of}
use Rattle.disk_layout.specs.Layout.{blank_entry}
use Rattle.disk_files.specs.Answers.{FaultsOnly}
use Rattle.disk_system.specs.Migrating.{LengthsRead, mapped_by}
use Rattle.disk_system.proofs.lengths.read_lengths.Given as goal

abbrev pub invariant-loop-place : goal.invariant-loop-place
invariant-loop-place g l = record {
  size : g.A.Area.size l.area ≡ 4288;
  left : g.A.Area.pages l.area ≡ g.A.Area.pages l.initial.area;
  faults : FaultsOnly {T = Unit {0}} (g.A.Area.faults l.initial.area) (g.A.Area.faults l.area) (Ok tt);
  room : length l.lengths ≡ 240;
  short : (p : ℕ) → p < l.place → slice_index l.lengths p ≤ 255;
  lengths : (pages : List (List ℕ)) → g.A.Area.pages l.initial.area ≡ Some pages
      → ((p : ℕ) → p < 240 → slice_index_or l.entries p blank_entry ≡ entry_of pages p)
      → ((p : ℕ) → p < 240 → mapped_by pages (entry_of pages p) ≤ 255) → LengthsRead pages l.place l.lengths;
}

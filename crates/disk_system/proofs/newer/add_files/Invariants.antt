use Rattle.std.proofs.Common.{◌≡◌, ℕ, ◌+◌, ◌≤◌, List, Some, Ok}
use Rattle.std.specs.FinSet as set
use Rattle.disk_files.specs.Answers.{FaultsOnly, IsOlderRead, Stays, Told}
use Rattle.disk_system.specs.Migrating.{LengthsRead, Moving, parts_for}
use Rattle.disk_system.proofs.newer.add_files.Given as goal

abbrev pub invariant-loop-place : goal.invariant-loop-place
invariant-loop-place g l = record {
  size : g.A.Area.size l.area ≡ 4288;
  stays : Stays (g.A.Area.pages l.initial.area) (g.A.Area.size l.initial.area) (g.A.Area.pages l.area) (g.A.Area.size l.area);
  faults : FaultsOnly {T = Unit {0}} (g.A.Area.faults l.initial.area) (g.A.Area.faults l.area) (Ok tt);
  many : set.len l.map ≤ set.len l.initial.map + parts_for l.lengths l.place;
  moved : (pages : List (List ℕ)) → g.A.Area.pages l.initial.area ≡ Some pages → IsOlderRead l.entries l.initial.map pages
      → LengthsRead pages 240 l.lengths → Told (g.A.Area.pages l.area) (λ now. Moving pages now l.map l.place);
}

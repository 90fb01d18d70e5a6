use Rattle.std.proofs.Common.{◌≡◌, ℕ, List, Some, Ok, length}
use Rattle.disk_files.specs.Answers.{FaultsOnly, Told}
use Rattle.disk_system.specs.Formatted.{IsCleared, KeepsFilePages}
use Rattle.disk_system.proofs.formatting.clear_catalogue.Given as goal

abbrev pub invariant-loop-n : goal.invariant-loop-n
invariant-loop-n g l = record {
  size : g.A.Area.size l.area ≡ 4288;
  kept : KeepsFilePages (g.A.Area.pages l.initial.area) (g.A.Area.pages l.area);
  faults : FaultsOnly {T = Unit {0}} (g.A.Area.faults l.initial.area) (g.A.Area.faults l.area) (Ok tt);
  cleared : (pages : List (List ℕ)) → g.A.Area.pages l.initial.area ≡ Some pages → length pages ≡ 4288
      → Told (g.A.Area.pages l.area) (IsCleared pages l.n);
}

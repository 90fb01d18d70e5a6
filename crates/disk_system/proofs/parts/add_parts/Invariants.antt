use Rattle.std.proofs.Common.{◌≡◌, ℕ, ◌+◌, List, Some, Ok, length}
use Rattle.std.specs.FinSet as set
use Rattle.disk_files.specs.Answers.{FaultsOnly, Stays, Told}
use Rattle.disk_system.specs.Migrating.{WritesParts}
use Rattle.disk_system.proofs.parts.add_parts.Given as goal

abbrev pub invariant-loop-k : goal.invariant-loop-k
invariant-loop-k g l = record {
  size : g.A.Area.size l.area ≡ 4288;
  stays : Stays (g.A.Area.pages l.initial.area) (g.A.Area.size l.initial.area) (g.A.Area.pages l.area) (g.A.Area.size l.area);
  faults : FaultsOnly {T = Unit {0}} (g.A.Area.faults l.initial.area) (g.A.Area.faults l.area) (Ok tt);
  many : set.len l.map ≡ set.len l.initial.map + l.k;
  written : (pages : List (List ℕ)) → g.A.Area.pages l.initial.area ≡ Some pages → length pages ≡ 4288
      → Told (g.A.Area.pages l.area) (λ now. WritesParts pages now l.initial.map l.map l.old.0 l.new.0 l.count l.k);
}

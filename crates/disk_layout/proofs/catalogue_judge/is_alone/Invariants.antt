use Rattle.disk_layout.specs.Judging.{IsAlone}
use Rattle.disk_layout.proofs.catalogue_judge.is_alone.Given as goal

abbrev pub invariant-loop-k : goal.invariant-loop-k
invariant-loop-k l = IsAlone l.entries l.k l.entry

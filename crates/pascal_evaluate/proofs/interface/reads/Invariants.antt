use Rattle.std.proofs.Common.{◌≡◌, ◌≤◌, ◌+◌, drop}
use Rattle.pascal_evaluate.specs.SeenStore.{reads}
use Rattle.pascal_evaluate.proofs.interface.reads.Given as goal

abbrev pub invariant-loop-place : goal.invariant-loop-place
invariant-loop-place l = (l.count + reads (drop l.place l.made) ≡ reads l.made) × (l.count ≤ l.place)

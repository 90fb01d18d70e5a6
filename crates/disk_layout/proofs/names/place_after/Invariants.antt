use Rattle.disk_layout.specs.Names.{IsNextBelow}
use Rattle.disk_layout.proofs.names.place_after.Given as goal

abbrev pub invariant-loop-place : goal.invariant-loop-place
invariant-loop-place l = IsNextBelow l.entries l.after l.place l.next

use Rattle.access_check.proofs.Reading.{Reads}
use Rattle.access_check.proofs.judge.read.Given as goal

abbrev pub invariant-loop-item : goal.invariant-loop-item
invariant-loop-item l = Reads l.items l.item-index l.number l.so_far

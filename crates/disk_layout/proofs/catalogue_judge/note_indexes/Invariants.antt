use Rattle.disk_layout.proofs.NotedIndexes.{IndexesNoted}
use Rattle.disk_layout.proofs.catalogue_judge.note_indexes.Given as goal

abbrev pub invariant-loop-entry : goal.invariant-loop-entry
invariant-loop-entry l = IndexesNoted l.entries l.entry-index l.roles

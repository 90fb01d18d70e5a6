use Rattle.std.proofs.Common.{◌≡◌, ◌++◌, length}
use Rattle.exchange_law.specs.Pages.{lines_of}
use Rattle.solo_procs.proofs.job_proc.add_lines.Given as goal

abbrev pub invariant-adding : goal.invariant-adding
invariant-adding l = l.cards ++ lines_of l.items.items ≡ l.initial.cards ++ lines_of l.initial.items.items

abbrev pub decreases-adding : goal.decreases-adding
decreases-adding l = length (lines_of l.items.items)

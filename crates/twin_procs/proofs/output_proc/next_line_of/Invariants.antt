use Rattle.std.proofs.Common.{◌≡◌, length}
use Rattle.batch_procs.specs.Sends.{lines_of}
use Rattle.twin_procs.proofs.output_proc.next_line_of.Given as goal

abbrev pub invariant-passing : goal.invariant-passing
invariant-passing l = lines_of l.items.items ≡ lines_of l.initial.items.items

abbrev pub decreases-passing : goal.decreases-passing
decreases-passing l = length l.items.items

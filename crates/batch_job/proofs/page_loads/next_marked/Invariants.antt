use Rattle.std.proofs.Common.{◌≡◌, ◌≤◌, length}
use Rattle.batch_job.specs.Loads.{files_named}
use Rattle.batch_job.proofs.page_loads.next_marked.Given as goal

abbrev pub invariant-passing : goal.invariant-passing
invariant-passing l =
    (files_named l.items.items ≡ files_named l.initial.items.items)
    × (length l.items.items ≤ length l.initial.items.items)

abbrev pub decreases-passing : goal.decreases-passing
decreases-passing l = length l.items.items

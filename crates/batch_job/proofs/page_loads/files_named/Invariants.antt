use Rattle.std.proofs.Common.{◌≡◌, ◌++◌, length}
use Rattle.batch_job.specs.Loads.{files_named}
use Rattle.batch_job.proofs.page_loads.files_named.Given as goal

abbrev pub invariant-naming : goal.invariant-naming
invariant-naming l = l.files.items ++ files_named l.items.items ≡ files_named l.initial.items.items

abbrev pub decreases-naming : goal.decreases-naming
decreases-naming l = length l.items.items

use Rattle.std.proofs.Common.{◌≢◌, ◌≤◌, ◌<◌, ℕ, get_or}
use Rattle.disk_layout.specs.Layout.{blank_entry}
use Rattle.disk_layout.proofs.catalogue.first_empty.Given as goal

abbrev pub invariant-loop-place : goal.invariant-loop-place
invariant-loop-place l = (k : ℕ) → l.from ≤ k → k < l.place → (get_or l.entries k blank_entry).kind ≢ 0

use Rattle.std.proofs.Common.{◌≢◌, ℕ, ◌<◌, slice_index_or}
use Rattle.disk_layout.specs.Layout.{blank_entry}
use Rattle.disk_layout.proofs.catalogue.place_of.Given as goal

abbrev pub invariant-loop-p : goal.invariant-loop-p
invariant-loop-p l = (k : ℕ) → k < l.p → (slice_index_or l.entries k blank_entry).kind ≢ 0 → (slice_index_or l.entries k blank_entry).name ≢ l.name

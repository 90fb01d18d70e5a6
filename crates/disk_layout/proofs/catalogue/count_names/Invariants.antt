use Rattle.std.proofs.Common.{◌≡◌, ◌≤◌, ◌==◌, not, get_or}
use Rattle.disk_layout.specs.Format.{count_below}
use Rattle.disk_layout.specs.Layout.{blank_entry}
use Rattle.disk_layout.proofs.catalogue.count_names.Given as goal

abbrev pub invariant-loop-entry : goal.invariant-loop-entry
invariant-loop-entry l = record {
  counted : l.count ≡ count_below (λ k. not ((get_or l.entries k blank_entry).kind == 0)) l.entry-index;
  few : l.count ≤ l.entry-index;
}

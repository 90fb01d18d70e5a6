use Rattle.std.proofs.Common.{◌≡◌, ◌≤◌, get_or}
use Rattle.disk_layout.specs.Format.{count_below}
use Rattle.disk_layout.specs.Layout.{blank_entry}
use Rattle.disk_layout.specs.Judging.{uses_key}
use Rattle.disk_layout.proofs.catalogue_judge.count_key.Given as goal

abbrev pub invariant-loop-entry : goal.invariant-loop-entry
invariant-loop-entry l = record {
  counted : l.count ≡ count_below (λ k. uses_key l.key (get_or l.entries k blank_entry)) l.entry-index;
  few : l.count ≤ l.entry-index;
}

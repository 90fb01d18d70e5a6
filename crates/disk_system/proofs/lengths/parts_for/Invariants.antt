use Rattle.std.proofs.Common.{◌≡◌, ◌*◌, ◌≤◌}
use Rattle.disk_system.specs.Migrating.{parts_for}
use Rattle.disk_system.proofs.lengths.parts_for.Given as goal

abbrev pub invariant-loop-place : goal.invariant-loop-place
invariant-loop-place l = record {
  sum : l.parts ≡ parts_for l.lengths l.place;
  few : l.parts ≤ 2 * l.place;
}

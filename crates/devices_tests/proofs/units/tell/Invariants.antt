use Rattle.std.proofs.Common.{◌≡◌, true}
use Rattle.devices_tests.proofs.units.tell.Given as goal

abbrev pub invariant-loop : goal.invariant-loop
invariant-loop g l = l.unit.live ≡ true

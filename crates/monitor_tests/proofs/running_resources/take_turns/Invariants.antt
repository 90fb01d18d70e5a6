use Rattle.std.proofs.Common.{◌≡◌}
use Rattle.resource_mon.specs.Seats.{IsIdle}
use Rattle.monitor_tests.proofs.running_resources.take_turns.Given as goal

abbrev pub invariant-loop : goal.invariant-loop
invariant-loop g l = IsIdle l.desk l.seat × (l.seat.gate ≡ l.fn.seat.gate) × (l.seat.number ≡ l.fn.seat.number)

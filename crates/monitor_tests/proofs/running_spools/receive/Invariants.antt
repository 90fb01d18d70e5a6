use Rattle.std.proofs.Common.{◌≡◌, false}
use Rattle.resource_mon.specs.Seats.{IsIdle}
use Rattle.disk_spool.specs.Calls.{has_stop}
use Rattle.monitor_tests.proofs.running_spools.receive.Given as goal

-- the end and the seat are still those that were given
abbrev pub invariant-loop-number : goal.invariant-loop-number
invariant-loop-number g l = (has_stop l.end.calls ≡ false) × (l.end.gate ≡ l.fn.end.gate) × IsIdle l.desk l.seat × (l.seat.gate ≡ l.fn.seat.gate) × (l.seat.number ≡ l.fn.seat.number)

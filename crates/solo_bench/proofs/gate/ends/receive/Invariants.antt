use Rattle.std.proofs.Common.{◌≡◌, false}
use Rattle.slot_buffer.specs.Calls.{has_stop}
use Rattle.solo_bench.proofs.gate.ends.receive.Given as goal

abbrev pub invariant-loop-number : goal.invariant-loop-number
invariant-loop-number g l = (l.end.gate ≡ l.gate) × (has_stop l.end.calls ≡ false)

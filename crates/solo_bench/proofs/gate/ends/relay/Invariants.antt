use Rattle.std.proofs.Common.{◌≡◌, false}
use Rattle.slot_buffer.specs.Calls.{has_stop}
use Rattle.solo_bench.proofs.gate.ends.relay.Given as goal

abbrev pub invariant-loop : goal.invariant-loop
invariant-loop g l = ((l.source.gate ≡ l.from) × (has_stop l.source.calls ≡ false)) × ((l.sink.gate ≡ l.into) × (has_stop l.sink.calls ≡ false))

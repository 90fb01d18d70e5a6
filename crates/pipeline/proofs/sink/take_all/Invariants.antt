use Rattle.std.proofs.Common.{◌≡◌, false}
use Rattle.slot_buffer.specs.Calls.{has_stop, taken_of}
use Rattle.pipeline.specs.Rows.{items}
use Rattle.pipeline.proofs.sink.take_all.Given as goal

abbrev pub invariant-loop : goal.invariant-loop
invariant-loop g l = (l.taker.gate ≡ l.front) × (has_stop l.taker.calls ≡ false) × (taken_of l.taker.calls ≡ items (g.Z.Sink.took l.sink))

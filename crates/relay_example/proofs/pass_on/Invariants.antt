use Rattle.std.proofs.Common.{◌≡◌, false}
use Rattle.slot_buffer.specs.Calls.{has_stop, sent_of, taken_of}
use Rattle.relay_example.proofs.pass_on.Given as goal

abbrev pub invariant-loop : goal.invariant-loop
invariant-loop g l = (l.taker.gate ≡ l.front) × (l.putter.gate ≡ l.back) × (has_stop l.taker.calls ≡ false)
    × (has_stop l.putter.calls ≡ false) × (sent_of l.putter.calls ≡ taken_of l.taker.calls)

use Rattle.std.proofs.Common.{◌≡◌, false, ◌++◌}
use Rattle.slot_buffer.specs.Calls.{has_stop, taken_of}
use Rattle.slot_buffer.proofs.recv_end.RecvEnd.take_all.Given as goal

abbrev pub invariant-loop : goal.invariant-loop
invariant-loop g l = (l.self.gate ≡ l.fn.self.gate) × (has_stop l.self.calls ≡ false)
    × (taken_of l.self.calls ≡ taken_of l.fn.self.calls ++ l.out.items)

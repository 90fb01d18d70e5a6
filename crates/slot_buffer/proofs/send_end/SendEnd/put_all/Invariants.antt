use Rattle.std.proofs.Common.{◌≡◌, false, take, ◌++◌}
use Rattle.slot_buffer.specs.Calls.{has_stop, sent_of}
use Rattle.slot_buffer.proofs.send_end.SendEnd.put_all.Given as goal

abbrev pub invariant-loop-item : goal.invariant-loop-item
invariant-loop-item g l = (l.self.gate ≡ l.fn.self.gate) × (has_stop l.self.calls ≡ false)
    × (sent_of l.self.calls ≡ sent_of l.fn.self.calls ++ take l.item-index l.items)

use Rattle.std.proofs.Common.{rules}
use Rattle.slot_buffer.specs.History.{stop-stands}
use Rattle.slot_buffer.proofs.slot_buffer.SlotBuffer.stop.Goals as goal

pub returns-clause-history : goal.returns-clause-history
returns-clause-history g c = stop-stands c.args.self.now _ c.args.side c.requires.nobody_waits (search rules)

use Rattle.std.proofs.Common.{rules}
use Rattle.slot_buffer.proofs.Running.{has_room, empty_room}
use Rattle.slot_buffer.proofs.slot_buffer.SlotBuffer.put_in.Goals as goal

pub fill-requires : goal.fill-requires
fill-requires g c = empty_room c.args.self.now c.self.inside.slot c.args.item (search rules) c.requires.not_delayed c.requires.not_refused

pub returns-clause-answer : goal.returns-clause-answer
returns-clause-answer g c = (has_room c.args.self.now c.args.item c.requires.not_delayed c.requires.not_refused).1

pub returns-clause-after : goal.returns-clause-after
returns-clause-after g c = rw (has_room c.args.self.now c.args.item c.requires.not_delayed c.requires.not_refused).0 (search rules)

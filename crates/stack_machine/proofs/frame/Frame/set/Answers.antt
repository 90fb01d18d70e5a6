-- A write to a word of the frame is a write to the front of the room.
use Rattle.stack_machine.proofs.Fronts.{set_front}
use Rattle.stack_machine.proofs.frame.Frame.set.Goals as goal

pub returns : goal.returns
returns c = set_front c.self.inside.words.items c.args.self.now c.self.inside.len c.args.place c.args.word c.self.view_is c.requires c.ranges.word

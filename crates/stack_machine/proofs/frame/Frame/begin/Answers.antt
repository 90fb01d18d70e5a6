use Rattle.stack_machine.proofs.Fronts.{begun}
use Rattle.stack_machine.proofs.frame.Frame.begin.Goals as goal

pub returns : goal.returns
returns c = begun c.loop-place.self-inside.words.items c.args.arguments.now c.args.self.now.room c.args.len c.loop-place.place c.loop-place.invariant.long c.requires.room c.loop-place-test.false c.requires.front c.loop-place.invariant.same

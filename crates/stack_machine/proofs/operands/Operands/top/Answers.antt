use Rattle.stack_machine.proofs.Fronts.{top_front}
use Rattle.stack_machine.proofs.operands.Operands.top.Goals as goal

pub returns : goal.returns
returns c = top_front c.self.inside.words.items c.deref.result.now c.args.self.now c.self.inside.height c.args.count c.self.invariant.0 c.self.view_is c.deref.ensures.value c.requires

use Rattle.stack_machine.proofs.Fronts.{drop_front}
use Rattle.stack_machine.proofs.operands.Operands.drop_top.Goals as goal

pub returns : goal.returns
returns c = drop_front c.self.inside.words.items c.args.self.now c.self.inside.height c.args.count c.self.invariant.0 c.self.view_is c.requires

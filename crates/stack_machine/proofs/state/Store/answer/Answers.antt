use Rattle.std.proofs.Common.{rules}
use Rattle.stack_machine.proofs.Answered.{completed}
use Rattle.stack_machine.proofs.state.Store.answer.Goals as goal

pub returns : goal.returns
returns c = completed c.args.code.now c.args.self.now c.complete.new.self c.args.reply c.instrs.result.now _ (search rules) c.in_default.not-CallError c.requires c.complete.ensures

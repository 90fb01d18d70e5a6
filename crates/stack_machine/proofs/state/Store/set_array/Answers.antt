use Rattle.std.proofs.Common.{rules}
use Rattle.solo_base.specs.Replies.{array_in}
use Rattle.stack_machine.proofs.Answered.{no_bytes_set}
use Rattle.stack_machine.proofs.state.Store.set_array.Goals as goal

pub returns-in_default : goal.returns-in_default
returns-in_default c = no_bytes_set c.args.program c.args.self.now c.args.start (array_in c.args.reply.now) (search rules)

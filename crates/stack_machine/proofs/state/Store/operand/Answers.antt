use Rattle.stack_machine.proofs.Parts.{read_word}
use Rattle.stack_machine.proofs.state.Store.operand.Goals as goal

pub returns : goal.returns
returns c = read_word c.args.self.now.current.operands.words c.args.depth c.get.result c.unwrap_or.result c.get.ensures c.unwrap_or.ensures (record { sfits = c.unwrap_or.type_inv })

use Rattle.std.proofs.Common.{length, sym, ◌∙◌, ap, arith}
use Rattle.stack_machine.proofs.Frames.{words_waiting, words_own, words_past}
use Rattle.stack_machine.proofs.state.Store.words_len_at.Goals as goal

pub returns-then-number-len-clause-count : goal.returns-then-number-len-clause-count
returns-then-number-len-clause-count c =
    c.words_len.ensures.count ∙ ap length (sym (words_waiting c.args.self.now.below.waiting c.args.self.now.current.words.words c.args.number (omega arith)))

pub returns-then-number-len-2-clause-count : goal.returns-then-number-len-2-clause-count
returns-then-number-len-2-clause-count c =
    c.len-then-number-len-2.ensures.count ∙ ap length (sym (words_own c.args.self.now.below.waiting c.args.self.now.current.words.words c.args.number (omega arith)))

pub returns-else-number-len-2-clause-count : goal.returns-else-number-len-2-clause-count
returns-else-number-len-2-clause-count c = ap length (sym (words_past c.args.self.now.below.waiting c.args.self.now.current.words.words c.args.number (omega arith)))

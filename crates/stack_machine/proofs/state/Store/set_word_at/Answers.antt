use Rattle.std.proofs.Common.{◌<◌, List, ℤ, length, subst, arith}
use Rattle.std.specs.Int.{w16}
use Rattle.std.proofs.lemmas.Int.{to_z-of_z}
use Rattle.stack_machine.proofs.Frames.{words_waiting, words_own, word_set_waiting, word_set_own, last_is_open}
use Rattle.stack_machine.proofs.state.Store.set_word_at.Goals as goal

pub set_word-requires-clause-inside : goal.set_word-requires-clause-inside
set_word-requires-clause-inside c =
    subst (λ (w : List ℤ). c.args.place < length w) (words_waiting c.args.self.now.below.waiting c.args.self.now.current.words.words c.args.number (omega arith)) c.requires

pub set-requires : goal.set-requires
set-requires c =
    subst (λ (w : List ℤ). c.args.place < length w) (words_own c.args.self.now.below.waiting c.args.self.now.current.words.words c.args.number (last_is_open c.args.self.now.below.waiting c.args.self.now.current.words.words c.args.number c.args.place c.requires (omega arith))) c.requires

pub returns-then-number-len : goal.returns-then-number-len
returns-then-number-len c = word_set_waiting c.args.self.now c.args.number c.args.place c.args.word c.set_word.new.self (omega arith)
    (rw (to_z-of_z w16 c.args.word c.ranges.word) at c.set_word.ensures)

pub returns-else-number-len : goal.returns-else-number-len
returns-else-number-len c = word_set_own c.args.self.now c.args.number c.args.place c.args.word c.set.new.self
    (last_is_open c.args.self.now.below.waiting c.args.self.now.current.words.words c.args.number c.args.place c.requires (omega arith))
    (rw (to_z-of_z w16 c.args.word c.ranges.word) at c.set.ensures)

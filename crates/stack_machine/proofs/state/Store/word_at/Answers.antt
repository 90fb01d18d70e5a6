use Rattle.std.proofs.Common.{List, ℤ, sym, ◌∙◌, ap, arith}
use Rattle.std.specs.Prelude.{slice_get}
use Rattle.stack_machine.proofs.Frames.{words_waiting, words_own, words_past}
use Rattle.stack_machine.proofs.state.Store.word_at.Goals as goal

pub returns-then-number-len : goal.returns-then-number-len
returns-then-number-len c =
    c.word.ensures
    ∙ ap (λ (w : List ℤ). slice_get w c.args.place) (sym (words_waiting c.args.self.now.below.waiting c.args.self.now.current.words.words c.args.number (omega arith)))

pub returns-then-number-len-2 : goal.returns-then-number-len-2
returns-then-number-len-2 c =
    c.get.ensures
    ∙ ap (λ (w : List ℤ). slice_get w c.args.place) (sym (words_own c.args.self.now.below.waiting c.args.self.now.current.words.words c.args.number (omega arith)))

pub returns-else-number-len-2 : goal.returns-else-number-len-2
returns-else-number-len-2 c =
    ap (λ (w : List ℤ). slice_get w c.args.place) (sym (words_past c.args.self.now.below.waiting c.args.self.now.current.words.words c.args.number (omega arith)))

-- The words so far are set.
use Rattle.std.proofs.Common.{◌≡◌}
use Rattle.stack_machine.specs.State.{words_of, with_words}
use Rattle.stack_machine.specs.Shown.{shown, in_store}
use Rattle.stack_machine.proofs.Answered.{part_set}
use Rattle.stack_machine.proofs.state.Store.set_bytes.Given as goal

abbrev pub invariant-loop-place : goal.invariant-loop-place
invariant-loop-place l = l.self ≡ in_store l.initial.self (with_words l.program (shown l.initial.self) (part_set (words_of l.program (shown l.initial.self)) l.start l.bytes l.place))

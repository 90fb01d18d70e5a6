-- The characters so far are the words of the frame.
use Rattle.std.proofs.Common.{◌≡◌, ℕ, ◌+◌, ◌<◌, pos, length, get_or}
use Rattle.stack_machine.specs.State.{words_of}
use Rattle.stack_machine.specs.Shown.{shown}
use Rattle.stack_machine.proofs.state.Store.name_at.Given as goal

abbrev pub invariant-loop-k : goal.invariant-loop-k
invariant-loop-k l = record {
  long : length l.name ≡ 12;
  same : (i : ℕ) → i < l.k → get_or l.name i (pos 0) ≡ get_or (words_of l.program (shown l.self)) (l.start + i) (pos 0);
}

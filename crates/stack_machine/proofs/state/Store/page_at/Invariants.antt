-- The words so far are bytes, and the page has them.
use Rattle.std.proofs.Common.{◌≡◌, ℕ, ◌+◌, ◌<◌, pos, true, length, get_or}
use Rattle.std.specs.Prelude.{unsigned_abs}
use Rattle.stack_machine.specs.State.{words_of}
use Rattle.solo_base.specs.Arithmetic.{is_byte}
use Rattle.stack_machine.specs.Shown.{shown}
use Rattle.stack_machine.proofs.state.Store.page_at.Given as goal

abbrev pub invariant-loop-k : goal.invariant-loop-k
invariant-loop-k l = record {
  long : length l.bytes ≡ 512;
  are : (i : ℕ) → i < l.k → is_byte (get_or (words_of l.program (shown l.self)) (l.start + i) (pos 0)) ≡ true;
  same : (i : ℕ) → i < l.k → get_or l.bytes i 0 ≡ unsigned_abs (get_or (words_of l.program (shown l.self)) (l.start + i) (pos 0));
}

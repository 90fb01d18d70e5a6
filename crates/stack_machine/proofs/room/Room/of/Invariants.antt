-- The largest of the routines so far.
use Rattle.std.proofs.Common.{◌<◌, ◌≤◌, ℕ}
use Rattle.stack_code.specs.CodeLists.{routine_at}
use Rattle.stack_machine.proofs.room.Room.of.Given as goal

abbrev pub invariant-loop-number : goal.invariant-loop-number
invariant-loop-number l = record {
  words : (k : ℕ) → k < l.number → (routine_at l.code k).words ≤ l.words;
  height : (k : ℕ) → k < l.number → (routine_at l.code k).height ≤ l.height;
  no_more_words : (n : ℕ) → ((k : ℕ) → (routine_at l.code k).words ≤ n) → l.words ≤ n;
  no_higher : (n : ℕ) → ((k : ℕ) → (routine_at l.code k).height ≤ n) → l.height ≤ n;
  small : l.words ≤ 4352;
  low : l.height ≤ 1536;
}

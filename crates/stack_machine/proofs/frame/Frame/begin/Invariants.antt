-- The words so far are those of the new frame.
use Rattle.std.proofs.Common.{◌≡◌, ℕ, ◌<◌, ◌-◌, ◌++◌, pos, length, get_or}
use Rattle.std.specs.Prelude.{replicate}
use Rattle.stack_machine.proofs.frame.Frame.begin.Given as goal

abbrev pub invariant-loop-place : goal.invariant-loop-place
invariant-loop-place l = record {
  long : length l.self-inside.words.items ≡ l.fn.self.room;
  same : (k : ℕ) → k < l.place → get_or l.self-inside.words.items k (pos 0) ≡ get_or (l.arguments ++ replicate (l.len - length l.arguments) (pos 0)) k (pos 0);
}

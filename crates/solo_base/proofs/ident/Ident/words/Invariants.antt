use Rattle.std.proofs.Common.{◌≡◌, ℕ, ◌<◌, pos, length, get_or}
use Rattle.solo_base.proofs.ident.Ident.words.Given as goal

abbrev pub invariant-loop-place : goal.invariant-loop-place
invariant-loop-place l = record {
  long : length l.words ≡ 12;
  same : (i : ℕ) → i < l.place → get_or l.words i (pos 0) ≡ pos (get_or l.self i 0);
}

use Rattle.std.proofs.Common.{◌≡◌, ℕ, ◌<◌, true, pos, length, get_or}
use Rattle.std.specs.Prelude.{unsigned_abs}
use Rattle.solo_base.specs.Arithmetic.{is_byte}
use Rattle.solo_base.proofs.ident.Ident.of_words.Given as goal

abbrev pub invariant-loop-place : goal.invariant-loop-place
invariant-loop-place l = record {
  long : length l.bytes ≡ 12;
  same : (i : ℕ) → i < l.place → is_byte (get_or l.words i (pos 0)) ≡ true → get_or l.bytes i 0 ≡ unsigned_abs (get_or l.words i (pos 0));
}

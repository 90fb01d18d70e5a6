use Rattle.std.proofs.Common.{◌≡◌, ℕ, ◌+◌, ◌*◌, ◌<◌, ◌≤◌}
use Rattle.solo_base.specs.PageBytes.{number_at}
use Rattle.disk_system.proofs.parts.part_of.Given as goal

abbrev pub invariant-loop-j : goal.invariant-loop-j
invariant-loop-j l = record {
  numbers : (m : ℕ) → m < l.j → number_at l.part.0 (2 * m) ≡ number_at l.old.0 (2 * (250 * l.k + m + 1));
  rest : (m : ℕ) → l.j ≤ m → m < 256 → number_at l.part.0 (2 * m) ≡ 0;
}

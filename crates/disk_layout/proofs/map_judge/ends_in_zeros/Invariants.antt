use Rattle.std.proofs.Common.{◌≡◌, ◌≤◌, ◌<◌, ℕ, get_or}
use Rattle.disk_layout.proofs.map_judge.ends_in_zeros.Given as goal

abbrev pub invariant-loop-k : goal.invariant-loop-k
invariant-loop-k l = (m : ℕ) → 24 ≤ m → m < l.k → get_or l.high.0 m 0 ≡ 0

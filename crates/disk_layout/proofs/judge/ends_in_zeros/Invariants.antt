use Rattle.std.proofs.Common.{◌≡◌, ℕ, ◌*◌, ◌<◌, ◌≤◌}
use Rattle.solo_base.specs.PageBytes.{number_at}
use Rattle.disk_layout.proofs.judge.ends_in_zeros.Given as goal

abbrev pub invariant-loop-k : goal.invariant-loop-k
invariant-loop-k l = (m : ℕ) → l.from ≤ m → m < l.k → number_at l.page.0 (2 * m) ≡ 0

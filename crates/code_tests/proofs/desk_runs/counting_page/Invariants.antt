use Rattle.std.proofs.Common.{◌≡◌, ◌<◌, length}
use Rattle.std.specs.List.{All}
use Rattle.code_tests.proofs.desk_runs.counting_page.Given as goal

abbrev pub invariant-loop-k : goal.invariant-loop-k
invariant-loop-k l = (length l.page.0 ≡ 512) × All (λ byte. byte < 256) l.page.0

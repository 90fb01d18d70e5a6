use Rattle.std.proofs.Common.{◌≡◌}
use Rattle.queue_var.specs.Sides.{nobody}
use Rattle.monitor_tests.proofs.spools.three_times_round.Given as goal

-- nobody waits and nobody has stopped
abbrev pub invariant-loop-number : goal.invariant-loop-number
invariant-loop-number g l = l.spool.sides ≡ nobody

abbrev pub invariant-loop-number-2 : goal.invariant-loop-number-2
invariant-loop-number-2 g l = l.spool.sides ≡ nobody

abbrev pub invariant-loop : goal.invariant-loop
invariant-loop g l = l.spool.sides ≡ nobody

use Rattle.std.proofs.Common.{◌≡◌}
use Rattle.level_monitor.specs.Run.{after}
use Rattle.level_monitor.proofs.run.in_turn.Given as goal

abbrev pub invariant-loop : goal.invariant-loop
invariant-loop g l = (l.first ≡ after l.initial.first l.counter) × (l.second ≡ after l.initial.second l.counter)

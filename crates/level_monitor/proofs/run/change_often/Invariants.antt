use Rattle.std.proofs.Common.{◌≡◌}
use Rattle.level_monitor.specs.Run.{after}
use Rattle.level_monitor.proofs.run.change_often.Given as goal

abbrev pub invariant-loop : goal.invariant-loop
invariant-loop g l = l.pass ≡ after l.initial.pass l.counter

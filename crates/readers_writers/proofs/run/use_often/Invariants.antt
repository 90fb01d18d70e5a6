use Rattle.std.proofs.Common.{◌≡◌}
use Rattle.readers_writers.specs.Run.{used}
use Rattle.readers_writers.proofs.run.use_often.Given as goal

abbrev pub invariant-loop : goal.invariant-loop
invariant-loop g l = l.pass ≡ used l.initial.pass l.counter

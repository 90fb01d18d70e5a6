-- The program and its world came so far, and less is left to run.
use Rattle.std.proofs.Common.{◌≡◌}
use Rattle.stack_machine.specs.Shown.{shown, rooms}
use Rattle.stack_machine.specs.Left.{left_until_end}
use Rattle.stack_machine.proofs.Rounds.{IsSoFar}
use Rattle.stack_machine.proofs.state.Store.run.Given as goal

abbrev pub invariant-loop-finish : goal.invariant-loop-finish
invariant-loop-finish g l = record {
  far : IsSoFar g.W.World.answers l.code l.limit (shown l.initial.self) l.initial.world (shown l.self) l.world;
  room : rooms l.self ≡ rooms l.initial.self;
}

abbrev pub decreases-loop-finish : goal.decreases-loop-finish
decreases-loop-finish g l = left_until_end l.code l.limit (shown l.self)

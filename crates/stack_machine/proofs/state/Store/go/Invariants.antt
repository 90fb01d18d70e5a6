-- The instructions so far lead from the beginning to now, and the program goes on.
use Rattle.std.proofs.Common.{◌≡◌}
use Rattle.stack_machine.specs.Left.{left_to_run}
use Rattle.stack_machine.specs.Shown.{shown, rooms}
use Rattle.stack_machine.proofs.Onward.{IsUnderWay}
use Rattle.stack_machine.proofs.state.Store.go.Given as goal

abbrev pub invariant-loop-self : goal.invariant-loop-self
invariant-loop-self l = record { way : IsUnderWay l.code l.limit (shown l.initial.self) (shown l.self); room : rooms l.self ≡ rooms l.initial.self }

abbrev pub decreases-loop-self : goal.decreases-loop-self
decreases-loop-self l = left_to_run l.code l.limit (shown l.self)

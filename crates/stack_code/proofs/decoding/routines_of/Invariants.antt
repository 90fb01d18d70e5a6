-- So far each record is the one that its bytes say.
use Rattle.std.proofs.Common.{◌≡◌, ℕ, ◌+◌, ◌*◌, ◌<◌, length, get_or}
use Rattle.stack_code.specs.CodeLists.{no_routine}
use Rattle.stack_code.specs.CodeFile.{IsRoutineAt}
use Rattle.stack_code.proofs.decoding.routines_of.Given as goal

abbrev pub invariant-loop-k : goal.invariant-loop-k
invariant-loop-k l = (length l.routines.items ≡ l.k) × ((q : ℕ) → q < l.k → IsRoutineAt l.bytes (12 + 8 * q) (get_or l.routines.items q no_routine))

use Rattle.std.proofs.Common.{◌≡◌, ℕ, ◌<◌, ◌++◌, take}
use Rattle.std.specs.Prelude.{slice_index_or}
use Rattle.std.specs.List.{flat_map}
use Rattle.stack_code.specs.CodeLists.{FitsRoutine, no_routine}
use Rattle.stack_code.specs.CodeFile.{routine_bytes}
use Rattle.stack_code.proofs.encoding.put_routines.Given as goal

abbrev pub invariant-loop-routine : goal.invariant-loop-routine
invariant-loop-routine l = record {
  bytes : l.bytes.items ≡ l.initial.bytes.items ++ flat_map routine_bytes (take l.routine-index l.routines);
  fits : (k : ℕ) → k < l.routine-index → FitsRoutine (slice_index_or l.routines k no_routine);
}

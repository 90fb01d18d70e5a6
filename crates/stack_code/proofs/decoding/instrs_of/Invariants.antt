-- So far each record is the one that its bytes say.
use Rattle.std.proofs.Common.{◌≡◌, ℕ, ◌+◌, ◌*◌, ◌<◌, length, get_or}
use Rattle.stack_code.specs.CodeLists.{no_instr}
use Rattle.stack_code.specs.CodeFile.{IsInstrAt}
use Rattle.stack_code.proofs.decoding.instrs_of.Given as goal

abbrev pub invariant-loop-i : goal.invariant-loop-i
invariant-loop-i l = (length l.instrs.items ≡ l.i) × ((q : ℕ) → q < l.i → IsInstrAt l.bytes (l.start + 5 * q) (get_or l.instrs.items q no_instr))

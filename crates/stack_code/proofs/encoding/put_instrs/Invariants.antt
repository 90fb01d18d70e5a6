use Rattle.std.proofs.Common.{◌≡◌, ℕ, ◌<◌, ◌++◌, take}
use Rattle.std.specs.Prelude.{slice_index_or}
use Rattle.std.specs.List.{flat_map}
use Rattle.stack_code.specs.CodeLists.{FitsInstr, no_instr}
use Rattle.stack_code.specs.CodeFile.{instr_bytes}
use Rattle.stack_code.proofs.encoding.put_instrs.Given as goal

abbrev pub invariant-loop-instr : goal.invariant-loop-instr
invariant-loop-instr l = record {
  bytes : l.bytes.items ≡ l.initial.bytes.items ++ flat_map instr_bytes (take l.instr-index l.instrs);
  fits : (k : ℕ) → k < l.instr-index → FitsInstr (slice_index_or l.instrs k no_instr);
}

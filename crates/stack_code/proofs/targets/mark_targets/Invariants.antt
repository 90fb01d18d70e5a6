-- So far each mark says whether one of the instructions that were seen jumps there.
use Rattle.std.proofs.Common.{◌≡◌, ℕ, ◌<◌, ◌&&◌, false, eqb, take}
use Rattle.std.specs.Prelude.{slice_index_or}
use Rattle.std.specs.List.{list_any}
use Rattle.stack_code.specs.Rules.{is_jump}
use Rattle.stack_code.proofs.targets.mark_targets.Given as goal

abbrev pub invariant-loop-instr : goal.invariant-loop-instr
invariant-loop-instr l = (place : ℕ) → place < 8193 → slice_index_or l.marks place false ≡ list_any (λ i. is_jump i.op && eqb i.a place) (take l.instr-index l.instr-items)

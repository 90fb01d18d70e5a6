use Rattle.std.proofs.Common.{◌≡◌, map, take}
use Rattle.stack_code.specs.Listing.{instr_line}
use Rattle.stack_code.proofs.listed.listing.Given as goal

abbrev pub invariant-loop-instr : goal.invariant-loop-instr
invariant-loop-instr l = l.lines ≡ map instr_line (take l.instr-index l.instr-items)

use Rattle.std.proofs.Common.{◌≡◌, ◌-◌, not}
use Rattle.stack_code.specs.CodeFile.{least}
use Rattle.stack_code.specs.Rules.{instr_is_good, broken_instr}
use Rattle.stack_code.specs.Along.{IsAlong}
use Rattle.stack_code.proofs.broken.broken_instr.Given as goal

abbrev pub invariant-loop-place : goal.invariant-loop-place
invariant-loop-place l = record {
  least : least (λ place. not (instr_is_good l.code place)) l.place (l.place-end - l.place) ≡ broken_instr l.code;
  along : IsAlong l.code l.place l.along;
}

-- Jumps of a code.
use Rattle.std.specs.Prelude.{◌≡◌, ◌<◌, ◌^◌, true}
use Rattle.stack_code.specs.declared.instr.Instr.{Instr}
use Rattle.stack_code.specs.Rules.{is_jump}

-- a jump leads to a place of 16 bits
abbrev pub HasLowTarget : Instr → Type 0
HasLowTarget i = is_jump i.op ≡ true → i.a < 2 ^ 16

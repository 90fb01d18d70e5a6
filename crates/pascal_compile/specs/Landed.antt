-- Jumps that land together.
use Rattle.std.specs.Prelude.{⊤, ℕ, ◌<◌, List, [], ◌∷◌, length, slice_set}
use Rattle.stack_code.specs.declared.instr.Instr.{Instr}
use Rattle.pascal_code.specs.Statements.{jump}

-- instructions, where at each of these places stands a jump behind all of them
abbrev pub all_landed : List Instr → List ℕ → List Instr
all_landed code [] = code
all_landed code (place ∷ others) = all_landed (slice_set code place (jump (length code))) others

-- whether each of these places stands before another one
abbrev pub AreBefore : ℕ → List ℕ → Type 0
AreBefore end [] = ⊤
AreBefore end (place ∷ others) = (place < end) × AreBefore end others

-- How code is listed.
use Rattle.std.specs.Prelude.{ℕ, List, ◌++◌, codes, map}
use Rattle.std.specs.Fmt.{decimal}
use Rattle.stack_code.specs.declared.instr.Instr.{Instr}
use Rattle.stack_code.specs.Table.{name_of}
use Rattle.stack_code.specs.CodeLists.{CodeLists}

-- the name and both operands, as TICK 0 1
abbrev pub instr_line : Instr → List ℕ
instr_line i = name_of i.op ++ codes " " ++ decimal i.a ++ codes " " ++ decimal i.b

-- a line for each instruction
abbrev pub listing_of : CodeLists → List (List ℕ)
listing_of c = map instr_line c.instrs

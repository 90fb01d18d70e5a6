-- The table of the machine's instructions.
use Rattle.std.specs.Prelude.{ℕ, true, false, codes, List, [], ◌∷◌, Option, slice_get}
use Rattle.stack_code.specs.declared.table.Op.{Op}
use Rattle.stack_code.specs.declared.table.Op.TheVariants as op
use Rattle.stack_code.specs.declared.table.Row.{Row}

-- a row: its number, how many words it pops, and how many it pushes
abbrev pub no_operand : ℕ → ℕ → ℕ → Row
no_operand number pops pushes =
    record { number = number; uses_a = false; uses_b = false; pops = pops; pushes = pushes }

abbrev pub operand_a : ℕ → ℕ → ℕ → Row
operand_a number pops pushes =
    record { number = number; uses_a = true; uses_b = false; pops = pops; pushes = pushes }

abbrev pub both_operands : ℕ → ℕ → ℕ → Row
both_operands number pops pushes =
    record { number = number; uses_a = true; uses_b = true; pops = pops; pushes = pushes }

-- PUSH uses its operand a, has number 0, pops nothing and pushes one word. CALL and SYS pop and push by the
-- routine and by the row of the interface that they name.
abbrev pub row : Op → Row
row op.Push = operand_a 0 0 1
row op.LoadG = operand_a 1 0 1
row op.LoadL = operand_a 2 0 1
row op.StoreG = operand_a 3 1 0
row op.StoreL = operand_a 4 1 0
row op.LoadGX = both_operands 5 1 1
row op.LoadLX = both_operands 6 1 1
row op.StoreGX = both_operands 7 2 0
row op.StoreLX = both_operands 8 2 0
row op.Index = both_operands 9 1 1
row op.Add = no_operand 10 2 1
row op.Sub = no_operand 11 2 1
row op.Mul = no_operand 12 2 1
row op.Div = no_operand 13 2 1
row op.Mod = no_operand 14 2 1
row op.Neg = no_operand 15 1 1
row op.Abs = no_operand 16 1 1
row op.Not = no_operand 17 1 1
row op.And = no_operand 18 2 1
row op.Or = no_operand 19 2 1
row op.Eq = no_operand 20 2 1
row op.Ne = no_operand 21 2 1
row op.Lt = no_operand 22 2 1
row op.Gt = no_operand 23 2 1
row op.Le = no_operand 24 2 1
row op.Ge = no_operand 25 2 1
row op.Chr = no_operand 26 1 1
row op.Jump = operand_a 27 0 0
row op.JumpF = operand_a 28 1 0
row op.Tick = both_operands 29 0 0
row op.Call = operand_a 30 0 0
row op.Return = no_operand 31 0 0
row op.Sys = operand_a 32 0 0
row op.SysG = both_operands 33 0 0
row op.SysL = both_operands 34 0 0
row op.Halt = no_operand 35 0 0
row op.Succ = no_operand 36 1 1
row op.Pred = no_operand 37 1 1
row op.RefG = operand_a 38 0 2
row op.RefL = operand_a 39 0 2
row op.LoadR = operand_a 40 0 1
row op.StoreR = operand_a 41 1 0

-- the operations in the order of their numbers
abbrev pub ops : List Op
ops =
    op.Push ∷
    op.LoadG ∷
    op.LoadL ∷
    op.StoreG ∷
    op.StoreL ∷
    op.LoadGX ∷
    op.LoadLX ∷
    op.StoreGX ∷
    op.StoreLX ∷
    op.Index ∷
    op.Add ∷
    op.Sub ∷
    op.Mul ∷
    op.Div ∷
    op.Mod ∷
    op.Neg ∷
    op.Abs ∷
    op.Not ∷
    op.And ∷
    op.Or ∷
    op.Eq ∷
    op.Ne ∷
    op.Lt ∷
    op.Gt ∷
    op.Le ∷
    op.Ge ∷
    op.Chr ∷
    op.Jump ∷
    op.JumpF ∷
    op.Tick ∷
    op.Call ∷
    op.Return ∷
    op.Sys ∷
    op.SysG ∷
    op.SysL ∷
    op.Halt ∷
    op.Succ ∷
    op.Pred ∷
    op.RefG ∷
    op.RefL ∷
    op.LoadR ∷
    op.StoreR ∷
    []

abbrev pub op_at : ℕ → Option Op
op_at number = slice_get ops number

-- the name in a listing
abbrev pub name_of : Op → List ℕ
name_of op.Push = codes "PUSH"
name_of op.LoadG = codes "LOADG"
name_of op.LoadL = codes "LOADL"
name_of op.StoreG = codes "STOREG"
name_of op.StoreL = codes "STOREL"
name_of op.LoadGX = codes "LOADGX"
name_of op.LoadLX = codes "LOADLX"
name_of op.StoreGX = codes "STOREGX"
name_of op.StoreLX = codes "STORELX"
name_of op.Index = codes "INDEX"
name_of op.Add = codes "ADD"
name_of op.Sub = codes "SUB"
name_of op.Mul = codes "MUL"
name_of op.Div = codes "DIV"
name_of op.Mod = codes "MOD"
name_of op.Neg = codes "NEG"
name_of op.Abs = codes "ABS"
name_of op.Not = codes "NOT"
name_of op.And = codes "AND"
name_of op.Or = codes "OR"
name_of op.Eq = codes "EQ"
name_of op.Ne = codes "NE"
name_of op.Lt = codes "LT"
name_of op.Gt = codes "GT"
name_of op.Le = codes "LE"
name_of op.Ge = codes "GE"
name_of op.Chr = codes "CHR"
name_of op.Jump = codes "JUMP"
name_of op.JumpF = codes "JUMPF"
name_of op.Tick = codes "TICK"
name_of op.Call = codes "CALL"
name_of op.Return = codes "RETURN"
name_of op.Sys = codes "SYS"
name_of op.SysG = codes "SYSG"
name_of op.SysL = codes "SYSL"
name_of op.Halt = codes "HALT"
name_of op.Succ = codes "SUCC"
name_of op.Pred = codes "PRED"
name_of op.RefG = codes "REFG"
name_of op.RefL = codes "REFL"
name_of op.LoadR = codes "LOADR"
name_of op.StoreR = codes "STORER"

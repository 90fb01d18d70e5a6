-- The code of some whole programs, worked out by hand from the schemes, by computing alone.
use Rattle.std.proofs.Common.{◌≡◌, ℕ, [], ◌∷◌, Bool, true, false, refl}
use Rattle.std.specs.Prelude.{codes}
use Rattle.pascal_tree.specs.declared.expression.Adding.TheVariants as adding
use Rattle.pascal_tree.specs.declared.statement.Direction.TheVariants as direction
use Rattle.pascal_tree.specs.Statement.{for_do, case_of, branch, no_branch, next_branch}
use Rattle.pascal_tree.specs.Program.{Program}
use Rattle.stack_code.specs.declared.table.Op.{Op}
use Rattle.stack_code.specs.declared.table.Op.TheVariants as op
use Rattle.stack_code.specs.declared.instr.Instr.{Instr}
use Rattle.stack_code.specs.declared.instr.RoutineInfo.{RoutineInfo}
use Rattle.pascal_mean.proofs.Trees.{at, num, char, name, only, adds, apply, set, set_item, do_call, print, labels, integer, array, of_kind, by_value, by_name, a_procedure, a_function, a_program}
use Rattle.pascal_code.specs.Code.{code_of}
use Rattle.pascal_code.specs.Size.{size}

abbrev ins : Op → ℕ → ℕ → Instr
ins o a b = record { op = o; a = a; b = b }

abbrev info : ℕ → ℕ → Bool → ℕ → ℕ → RoutineInfo
info start params function words height =
    record { start = start; params = params; function = function; words = words; height = height }

-- BEGIN END.
abbrev nothing : Program
nothing = a_program [] [] []

nothing-listed : (code_of nothing).instrs ≡
    ins op.Halt 0 0 ∷ []
unfolding code_of
nothing-listed = refl

nothing-routines : (code_of nothing).routines ≡ info 0 0 false 0 0 ∷ []
unfolding code_of
nothing-routines = refl

nothing-size : size nothing ≡ 1
unfolding size
nothing-size = refl

-- BEGIN WRITE('A') END.
abbrev writes_a : Program
writes_a = a_program [] [] (do_call 1 (codes "WRITE") (only (char 65) ∷ []) ∷ [])

writes_a-listed : (code_of writes_a).instrs ≡
    ins op.Tick 0 1 ∷ ins op.Push 65 0 ∷ ins op.Sys 1 0 ∷ ins op.Halt 0 0 ∷ []
unfolding code_of
writes_a-listed = refl

writes_a-routines : (code_of writes_a).routines ≡ info 0 0 false 0 1 ∷ []
unfolding code_of
writes_a-routines = refl

writes_a-size : size writes_a ≡ 4
unfolding size
writes_a-size = refl

-- VAR I: INTEGER; BEGIN FOR I := 1 TO 2 DO CASE I OF 1, 3: WRITEINT(I); 2: I := 7 END END.
abbrev cases : Program
cases = a_program (of_kind (codes "I") [] integer ∷ []) [] (
    for_do 3 (at 3 (codes "I")) 3 (only (num 1)) direction.To 3 (only (num 2)) 3
    (case_of 3 (only (name (codes "I"))) 3
    (branch (labels 1 (3 ∷ [])) 3 (print 3 (only (name (codes "I")))))
    (next_branch 3 (branch (labels 2 []) 3 (set 3 (codes "I") (only (num 7)))) no_branch) 3)
    ∷ [])

cases-listed : (code_of cases).instrs ≡
    ins op.Tick 0 3 ∷ ins op.Push 1 0 ∷ ins op.StoreG 1 0 ∷ ins op.Push 2 0 ∷ ins op.StoreG 2 0
    ∷ ins op.LoadG 1 0 ∷ ins op.LoadG 2 0 ∷ ins op.Le 0 0 ∷ ins op.JumpF 48 0 ∷ ins op.Tick 0 3
    ∷ ins op.LoadG 1 0 ∷ ins op.StoreG 0 0 ∷ ins op.Tick 0 3 ∷ ins op.LoadG 0 0 ∷ ins op.StoreG 3 0
    ∷ ins op.LoadG 3 0 ∷ ins op.Push 1 0 ∷ ins op.Ne 0 0 ∷ ins op.JumpF 24 0 ∷ ins op.LoadG 3 0
    ∷ ins op.Push 3 0 ∷ ins op.Ne 0 0 ∷ ins op.JumpF 24 0 ∷ ins op.Jump 28 0 ∷ ins op.Tick 0 3
    ∷ ins op.LoadG 0 0 ∷ ins op.Sys 2 0 ∷ ins op.Jump 40 0 ∷ ins op.LoadG 3 0 ∷ ins op.Push 2 0
    ∷ ins op.Ne 0 0 ∷ ins op.JumpF 33 0 ∷ ins op.Jump 37 0 ∷ ins op.Tick 0 3 ∷ ins op.Push 7 0
    ∷ ins op.StoreG 0 0 ∷ ins op.Jump 40 0 ∷ ins op.Push 65535 0 ∷ ins op.Index 0 0 ∷ ins op.JumpF 40 0
    ∷ ins op.LoadG 1 0 ∷ ins op.LoadG 2 0 ∷ ins op.Lt 0 0 ∷ ins op.JumpF 48 0 ∷ ins op.LoadG 1 0
    ∷ ins op.Succ 0 0 ∷ ins op.StoreG 1 0 ∷ ins op.Jump 9 0 ∷ ins op.Halt 0 0 ∷ []
unfolding code_of
cases-listed = refl

cases-routines : (code_of cases).routines ≡ info 0 0 false 4 2 ∷ []
unfolding code_of
cases-routines = refl

cases-size : size cases ≡ 49
unfolding size
cases-size = refl

-- VAR N: INTEGER;
-- PROCEDURE P(VAR A, B: INTEGER);
-- BEGIN A := 1; B := B + A END;
-- BEGIN P(N, N); WRITEINT(N) END.
abbrev aliases : Program
aliases = a_program (of_kind (codes "N") [] integer ∷ [])
    (a_procedure (codes "P") (by_name (codes "A") (codes "B" ∷ []) ∷ []) [] (
    set 3 (codes "A") (only (num 1))
    ∷ set 3 (codes "B") (adds (name (codes "B")) adding.Plus (name (codes "A")))
    ∷ []) ∷ [])
    (do_call 4 (codes "P") (only (name (codes "N")) ∷ only (name (codes "N")) ∷ [])
    ∷ print 4 (only (name (codes "N"))) ∷ [])

aliases-listed : (code_of aliases).instrs ≡
    ins op.Tick 0 4 ∷ ins op.RefG 0 0 ∷ ins op.RefG 0 0 ∷ ins op.Call 1 0 ∷ ins op.Tick 0 4
    ∷ ins op.LoadG 0 0 ∷ ins op.Sys 2 0 ∷ ins op.Halt 0 0 ∷ ins op.Tick 0 3 ∷ ins op.Push 1 0
    ∷ ins op.StoreR 0 0 ∷ ins op.Tick 0 3 ∷ ins op.LoadR 2 0 ∷ ins op.LoadR 0 0 ∷ ins op.Add 0 0
    ∷ ins op.StoreR 2 0 ∷ ins op.Return 0 0 ∷ []
unfolding code_of
aliases-listed = refl

aliases-routines : (code_of aliases).routines ≡ info 0 0 false 1 4 ∷ info 8 4 false 4 2 ∷ []
unfolding code_of
aliases-routines = refl

aliases-size : size aliases ≡ 17
unfolding size
aliases-size = refl

-- VAR ID: ARRAY (.1..12.) OF INTEGER; L, R: INTEGER; BEGIN ID(.1.) := 68; RUN(ID, L, R) END.
abbrev runs_a_file : Program
runs_a_file = a_program (of_kind (codes "ID") [] (array 1 12) ∷ of_kind (codes "L") (codes "R" ∷ []) integer ∷ []) [] (
    set_item 2 (codes "ID") (only (num 1)) (only (num 68))
    ∷ do_call 2 (codes "RUN")
    (only (name (codes "ID")) ∷ only (name (codes "L")) ∷ only (name (codes "R")) ∷ [])
    ∷ [])

runs_a_file-listed : (code_of runs_a_file).instrs ≡
    ins op.Tick 0 2 ∷ ins op.Push 1 0 ∷ ins op.Index 1 12 ∷ ins op.Push 68 0 ∷ ins op.StoreGX 0 12
    ∷ ins op.Tick 0 2 ∷ ins op.SysG 13 0 ∷ ins op.StoreG 13 0 ∷ ins op.StoreG 12 0 ∷ ins op.Halt 0 0 ∷ []
unfolding code_of
runs_a_file-listed = refl

runs_a_file-routines : (code_of runs_a_file).routines ≡ info 0 0 false 14 2 ∷ []
unfolding code_of
runs_a_file-routines = refl

runs_a_file-size : size runs_a_file ≡ 10
unfolding size
runs_a_file-size = refl

-- FUNCTION F(N: INTEGER): INTEGER;
-- VAR I: INTEGER;
-- BEGIN FOR I := N DOWNTO 1 DO F := F(I) + 1 END;
-- BEGIN WRITEINT(F(3)) END.
abbrev calls_itself : Program
calls_itself = a_program [] (a_function (codes "F") (by_value (codes "N") ∷ []) (of_kind (codes "I") [] integer ∷ []) (
    for_do 3 (at 3 (codes "I")) 3 (only (name (codes "N"))) direction.Downto 3 (only (num 1)) 3
    (set 3 (codes "F") (adds (apply (codes "F") (only (name (codes "I"))) []) adding.Plus (num 1)))
    ∷ []) ∷ [])
    (print 4 (only (apply (codes "F") (only (num 3)) [])) ∷ [])

calls_itself-listed : (code_of calls_itself).instrs ≡
    ins op.Tick 0 4 ∷ ins op.Push 3 0 ∷ ins op.Call 1 0 ∷ ins op.Sys 2 0 ∷ ins op.Halt 0 0
    ∷ ins op.Tick 0 3 ∷ ins op.LoadL 0 0 ∷ ins op.StoreL 3 0 ∷ ins op.Push 1 0 ∷ ins op.StoreL 4 0
    ∷ ins op.LoadL 3 0 ∷ ins op.LoadL 4 0 ∷ ins op.Ge 0 0 ∷ ins op.JumpF 31 0 ∷ ins op.Tick 0 3
    ∷ ins op.LoadL 3 0 ∷ ins op.StoreL 2 0 ∷ ins op.Tick 0 3 ∷ ins op.LoadL 2 0 ∷ ins op.Call 1 0
    ∷ ins op.Push 1 0 ∷ ins op.Add 0 0 ∷ ins op.StoreL 1 0 ∷ ins op.LoadL 3 0 ∷ ins op.LoadL 4 0
    ∷ ins op.Gt 0 0 ∷ ins op.JumpF 31 0 ∷ ins op.LoadL 3 0 ∷ ins op.Pred 0 0 ∷ ins op.StoreL 3 0
    ∷ ins op.Jump 14 0 ∷ ins op.Return 0 0 ∷ []
unfolding code_of
calls_itself-listed = refl

calls_itself-routines : (code_of calls_itself).routines ≡ info 0 0 false 0 1 ∷ info 5 1 true 5 2 ∷ []
unfolding code_of
calls_itself-routines = refl

calls_itself-size : size calls_itself ≡ 32
unfolding size
calls_itself-size = refl

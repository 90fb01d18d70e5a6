-- What code says of routines, once heights are known.
use Rattle.std.specs.Prelude.{◌≡◌, ⊤, ℕ, ◌-◌, ◌<◌, ◌≤◌, ◌^◌, List, [], ◌∷◌, length, take, drop}
use Rattle.stack_code.specs.declared.instr.Instr.{Instr}
use Rattle.stack_code.specs.declared.instr.RoutineInfo.{RoutineInfo}
use Rattle.stack_code.specs.CodeLists.{CodeLists}
use Rattle.pascal_tree.specs.Program.{Program}
use Rattle.pascal_code.specs.Code.{greatest_height, code_of}
use Rattle.pascal_compile.specs.Infos.{without_heights}

-- what calls ask of these routines
abbrev pub called_in : List RoutineInfo → CodeLists
called_in infos = record { routines = infos; instrs = [] }

-- the place behind the instructions that stand before these routines, of so many
abbrev pub end_before : ℕ → List RoutineInfo → ℕ
end_before count [] = count
end_before count (next ∷ more) = next.start

-- the instructions of a routine that ends at a place
abbrev pub own_instrs : List Instr → RoutineInfo → ℕ → List Instr
own_instrs instrs r end = take (end - r.start) (drop r.start instrs)

-- the greatest number of its operands, in a code with these routines
abbrev pub own_height : CodeLists → List Instr → RoutineInfo → ℕ → ℕ
own_height c instrs r end = greatest_height c 0 (own_instrs instrs r end)

abbrev pub with_height : CodeLists → List Instr → RoutineInfo → ℕ → RoutineInfo
with_height c instrs r end = record r { height = own_height c instrs r end }

-- each routine with its height, whose instructions end where the next ones begin
abbrev pub with_heights : CodeLists → List Instr → List RoutineInfo → List RoutineInfo
with_heights c instrs [] = []
with_heights c instrs (r ∷ more) =
    with_height c instrs r (end_before (length instrs) more) ∷ with_heights c instrs more

-- the instructions of a routine are some of these, and its height fits 16 bits
pub record HasHeight (c : CodeLists) (instrs : List Instr) (r : RoutineInfo) (end : ℕ) : Type 0 where
  pub ordered : r.start ≤ end
  pub inside : end ≤ length instrs
  pub fits : own_height c instrs r end < 2 ^ 16

-- so it is with each routine
abbrev pub HaveHeights : CodeLists → List Instr → List RoutineInfo → Type 0
HaveHeights c instrs [] = ⊤
HaveHeights c instrs (r ∷ more) =
    HasHeight c instrs r (end_before (length instrs) more) × HaveHeights c instrs more

-- what was emitted for a program is its code but for the heights
pub record AreEmitted (p : Program) (instrs : List Instr) (infos : List RoutineInfo) : Type 0 where
  pub instrs_are : instrs ≡ (code_of p).instrs
  pub infos_are : infos ≡ without_heights (code_of p).routines
